-- The rows of a book's values. Assumes nothing: these are definitions.
use Rattle.std.specs.Prelude.{ℕ, zero, suc, ◌+◌, List, [], ◌∷◌, ◌++◌, map, length, take, drop, ℤ, pos, Result, Ok, Err}
use Rattle.book.specs.declared.record.Record.{Record}
use Rattle.book.specs.declared.record.Record.TheVariants as r
use Rattle.book.specs.declared.record.Test.{Test}
use Rattle.book.specs.declared.record.Test.TheVariants.{Constant, Position, Gap}
use Rattle.book.specs.declared.refusal.Refusal.{Refusal}
use Rattle.book.specs.Record.{record_at}
use Rattle.book.specs.Rules.{Rule}
use Rattle.book.specs.Read.{bytes_of}

abbrev pub six : ℤ → ℤ → ℤ → ℤ → ℤ → ℤ → List ℤ
six kind a b c d e = kind ∷ a ∷ b ∷ c ∷ d ∷ e ∷ []

-- what a kind does not use is 0
unfoldable pub test_row : Test → List ℤ
test_row (Constant place relation number) = six (pos 3) (pos place) (pos relation) (pos number) (pos 0) (pos 0)
test_row (Position place relation condition other) = six (pos 4) (pos place) (pos relation) (pos condition) (pos other) (pos 0)
test_row (Gap place condition other low high) = six (pos 5) (pos place) (pos condition) (pos other) low high

unfoldable pub row_of : Record → List ℤ
row_of (r.Rule number) = six (pos 1) (pos number) (pos 0) (pos 0) (pos 0) (pos 0)
row_of r.Condition = six (pos 2) (pos 0) (pos 0) (pos 0) (pos 0) (pos 0)
row_of (r.Test t) = test_row t
row_of r.End = six (pos 9) (pos 0) (pos 0) (pos 0) (pos 0) (pos 0)

-- the records of a book before its end, in their order
unfoldable pub test_records : List Test → List Record
test_records [] = []
test_records (t ∷ tests) = r.Test t ∷ test_records tests

unfoldable pub condition_records : List (List Test) → List Record
condition_records [] = []
condition_records (tests ∷ conditions) = r.Condition ∷ (test_records tests ++ condition_records conditions)

unfoldable pub records_of : List Rule → List Record
records_of [] = []
records_of (rule ∷ rules) = r.Rule rule.number ∷ (condition_records rule.conditions ++ records_of rules)

unfoldable pub rows_of_records : List Record → List ℤ
rows_of_records [] = []
rows_of_records (rec ∷ records) = row_of rec ++ rows_of_records records

-- "six numbers a record"
unfoldable pub rows_of : List Rule → List ℤ
rows_of rules = rows_of_records (records_of rules)

-- one behind the other
unfoldable pub joined : List (List ℕ) → List ℕ
joined [] = []
joined (l ∷ lists) = l ++ joined lists

-- "24 for each rule row, in order"
unfoldable pub wordings_of : List Rule → List ℕ
wordings_of rules = joined (map (λ rule. rule.wording) rules)

-- ---- the same, read straight from a book

-- the end record, and one that cannot be taken apart, end the list
unfoldable pub goes_on : Result Record Refusal → List Record → List Record
goes_on (Ok (r.Rule number)) more = r.Rule number ∷ more
goes_on (Ok r.Condition) more = r.Condition ∷ more
goes_on (Ok (r.Test t)) more = r.Test t ∷ more
goes_on (Ok r.End) more = []
goes_on (Err e) more = []

-- at most n records, one after the other from `at` on
unfoldable pub records_from : ℕ → List ℕ → ℕ → List Record
records_from zero book at = []
records_from (suc n) book at = goes_on (record_at book at) (records_from n book (at + bytes_of (record_at book at)))

-- a record takes a byte at least, so there are no more records than bytes
abbrev pub records_in : List ℕ → List Record
records_in book = records_from (length book) book 0

-- the wordings of rules whose records stand at these places
unfoldable pub wordings_at : List ℕ → List ℕ → List ℕ
wordings_at book places = joined (map (λ p. take 24 (drop (p + 3) book)) places)
