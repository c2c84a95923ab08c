-- What a row of six numbers says: the kind, then its body's numbers in the book's order. What a kind does not use is not looked at.
-- A number that its field cannot hold becomes one that the reader refuses with 6. Assumes nothing: these are definitions.
use Rattle.std.specs.Prelude.{ℕ, Bool, cond, not, ◌&&◌, List, eqb, get_or, ℤ, pos, Result, Ok, Err}
use Rattle.book.specs.declared.record.Record.{Record}
use Rattle.book.specs.declared.record.Record.TheVariants.{Rule, Condition, Test}
use Rattle.book.specs.declared.record.Test.TheVariants.{Constant, Position, Gap}
use Rattle.book.specs.declared.refusal.Cause.{Cause}
use Rattle.book.specs.declared.refusal.Cause.TheVariants.{UnknownKind}
use Rattle.book.specs.Record.{size_of}
use Rattle.writer.specs.Fields.{fits, clamped}

-- the number at a place of the row
abbrev pub number : List ℤ → ℕ → ℤ
number row i = get_or row i (pos 0)

-- the same as a byte; 255, which is no kind, place, relation or condition, where it is none
abbrev pub byte_of : List ℤ → ℕ → ℕ
byte_of row i = clamped 255 (number row i)

-- "constant test: place, relation, number"
unfoldable pub constant_of : List ℤ → Record
constant_of row =
    cond (fits 4294967295 (number row 3))
    (Test (Constant (byte_of row 1) (byte_of row 2) (clamped 4294967295 (number row 3))))
    (Test (Constant 255 255 4294967295))

-- "position test: place, relation, condition, place"
unfoldable pub position_of : List ℤ → Record
position_of row = Test (Position (byte_of row 1) (byte_of row 2) (byte_of row 3) (byte_of row 4))

-- "gap test: place, condition, place, low, high"
unfoldable pub gap_of : List ℤ → Record
gap_of row = Test (Gap (byte_of row 1) (byte_of row 2) (byte_of row 3) (number row 4) (number row 5))

-- by the kind; one that no value has, 9 among them, is refused with 3
unfoldable pub record_by : ℕ → List ℤ → Result Record Cause
record_by kind row =
    cond (eqb kind 1) (Ok (Rule (clamped 65535 (number row 1))))
    (cond (eqb kind 2) (Ok Condition)
    (cond (eqb kind 3) (Ok (constant_of row))
    (cond (eqb kind 4) (Ok (position_of row))
    (cond (eqb kind 5) (Ok (gap_of row)) (Err UnknownKind)))))

unfoldable pub record_of : List ℤ → Result Record Cause
record_of row = record_by (byte_of row 0) row

-- how many bytes its record takes; of an unknown kind its one byte
unfoldable pub span_of : Result Record Cause → ℕ
span_of (Ok r) = size_of r
span_of (Err cause) = 1

abbrev pub row_size : List ℤ → ℕ
row_size row = span_of (record_of row)

unfoldable pub is_rule : List ℤ → Bool
is_rule row = eqb (byte_of row 0) 1

-- a rule whose number does not fit 16 bits
unfoldable pub unfit_rule : List ℤ → Bool
unfit_rule row = is_rule row && not (fits 65535 (number row 1))
