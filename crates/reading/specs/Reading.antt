-- A reading and the order of readings. Assumes nothing: these are definitions.
use Rattle.std.specs.Prelude.{ℕ, ◌+◌, ◌*◌, List, ◌++◌, Bool, cond, ◌&&◌, ◌||◌, ltb, eqb}
use Rattle.numbers.specs.BigEndian.{uint, bytes}
use Rattle.reading.specs.declared.Reading.{Reading}

-- "three whole numbers ..: line (place 0), column (place 1), value (place 2)". A test that names a place over 2 is in no accepted book.
unfoldable pub place : ℕ → Reading → ℕ
place p r = cond (eqb p 0) r.line (cond (eqb p 1) r.column r.value)

-- "readings compared by line, then column, then value, all ascending"
unfoldable pub is_less : Reading → Reading → Bool
is_less a b =
    ltb a.line b.line
    || (eqb a.line b.line && (ltb a.column b.column || (eqb a.column b.column && ltb a.value b.value)))

-- "The readings present form a set": two are one when all three numbers are the same.
unfoldable pub is_same : Reading → Reading → Bool
is_same a b = eqb a.line b.line && (eqb a.column b.column && eqb a.value b.value)

-- the twelve bytes of a reading, and the reading in row i of twelve bytes each
unfoldable pub reading_bytes : Reading → List ℕ
reading_bytes r = bytes 4 r.line ++ (bytes 4 r.column ++ bytes 4 r.value)

unfoldable pub reading_at : List ℕ → ℕ → Reading
reading_at l i = record { line = uint 4 l (i * 12); column = uint 4 l (i * 12 + 4); value = uint 4 l (i * 12 + 8) }
