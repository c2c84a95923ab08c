-- The records of a rule book: "one byte of kind, then a body whose length the kind fixes". Assumes nothing: these are definitions.
use Rattle.std.specs.Prelude.{ℕ, ◌+◌, List, cond, leb, eqb, length, drop, get_or, Result, Ok, Err}
use Rattle.numbers.specs.BigEndian.{uint}
use Rattle.numbers.specs.Signed.{signed}
use Rattle.book.specs.declared.record.Record.{Record}
use Rattle.book.specs.declared.record.Record.TheVariants.{Rule, Condition, Test, End}
use Rattle.book.specs.declared.record.Test as t
use Rattle.book.specs.declared.record.Test.TheVariants.{Constant, Position, Gap}
use Rattle.book.specs.declared.refusal.Cause.TheVariants.{CutShort, UnknownKind}
use Rattle.book.specs.declared.refusal.Refusal.{Refusal}
use Rattle.book.specs.Refusals.{refusal}

-- "the bytes end inside a record": a body of `size` bytes cut short is refused with 2 at the record's kind byte
unfoldable pub whole : ℕ → ℕ → List ℕ → Record → Result Record Refusal
whole size at body r = cond (leb size (length body)) (Ok r) (Err (refusal CutShort at))

-- 1, body of 26: "rule: number (2), wording (24 bytes ..)"
unfoldable pub rule_body : List ℕ → ℕ → Result Record Refusal
rule_body b at = whole 26 at b (Rule (uint 2 b 0))

-- 3, body of 6: "constant test: place (1), relation (1), number (4)"
unfoldable pub constant_body : List ℕ → ℕ → Result Record Refusal
constant_body b at = whole 6 at b (Test (Constant (get_or b 0 0) (get_or b 1 0) (uint 4 b 2)))

-- 4, body of 4: "position test: place (1), relation (1), condition (1), place (1)"
unfoldable pub position_body : List ℕ → ℕ → Result Record Refusal
position_body b at = whole 4 at b (Test (Position (get_or b 0 0) (get_or b 1 0) (get_or b 2 0) (get_or b 3 0)))

-- 5, body of 19: "gap test: place (1), condition (1), place (1), low (8), high (8)"
unfoldable pub gap_body : List ℕ → ℕ → Result Record Refusal
gap_body b at =
    whole 19 at b (Test (Gap (get_or b 0 0) (get_or b 1 0) (get_or b 2 0) (signed (uint 8 b 3)) (signed (uint 8 b 11))))

-- by the kind; "the body is read from the part of the book that starts there"; "unknown kind" is 3
unfoldable pub by_kind : ℕ → List ℕ → ℕ → Result Record Refusal
by_kind kind body at =
    cond (eqb kind 1) (rule_body body at)
    (cond (eqb kind 2) (Ok Condition)
    (cond (eqb kind 3) (constant_body body at)
    (cond (eqb kind 4) (position_body body at)
    (cond (eqb kind 5) (gap_body body at)
    (cond (eqb kind 9) (Ok End) (Err (refusal UnknownKind at)))))))

-- the record that begins at a place: "each tried for 2 (no byte), 3, 2 (body)"
unfoldable pub record_at : List ℕ → ℕ → Result Record Refusal
record_at book at = cond (leb (length book) at) (Err (refusal CutShort at)) (by_kind (get_or book at 0) (drop (at + 1) book) at)

-- how many bytes a test's record takes, kind and body
unfoldable pub test_size : t.Test → ℕ
test_size (Constant p r n) = 7
test_size (Position p r c o) = 5
test_size (Gap p c o low high) = 20

-- how many bytes a record takes, kind and body
unfoldable pub size_of : Record → ℕ
size_of (Rule n) = 27
size_of Condition = 1
size_of (Test t) = test_size t
size_of End = 1
