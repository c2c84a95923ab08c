-- The tests of a condition, read at an offset, whatever the bytes. Assumes nothing: these are definitions.
use Rattle.std.specs.Prelude.{ℕ, zero, suc, ◌+◌, ◌-◌, List, [], ◌∷◌, ◌++◌, length, replicate, Option, Some, None, Result, Ok, Err}
use Rattle.book.specs.declared.record.Record.{Record}
use Rattle.book.specs.declared.record.Record.TheVariants as r
use Rattle.book.specs.declared.record.Test.{Test}
use Rattle.book.specs.declared.record.Test.TheVariants.{Constant}
use Rattle.book.specs.declared.refusal.Refusal.{Refusal}
use Rattle.book.specs.Record.{record_at, test_size}

-- a record that is a test, and those after it; any other record ends the list
unfoldable pub if_test : Result Record Refusal → (Test → List Test) → List Test
if_test (Ok (r.Test t)) on = on t
if_test (Ok (r.Rule n)) on = []
if_test (Ok r.Condition) on = []
if_test (Ok r.End) on = []
if_test (Err e) on = []

-- the test of a record that is one
unfoldable pub test_in : Result Record Refusal → Option Test
test_in (Ok (r.Test t)) = Some t
test_in (Ok (r.Rule n)) = None
test_in (Ok r.Condition) = None
test_in (Ok r.End) = None
test_in (Err e) = None

-- at most n tests, one after the other from `at` on
unfoldable pub tests_from : ℕ → List ℕ → ℕ → List Test
tests_from zero book at = []
tests_from (suc n) book at = if_test (record_at book at) (λ t. t ∷ tests_from n book (at + test_size t))

-- "8 tests a condition"
abbrev pub tests_at : List ℕ → ℕ → List Test
tests_at book at = tests_from 8 book at

-- a test that every reading passes: its line is at least 0
abbrev pub blank : Test
blank = Constant 0 5 0

-- the tests as an array of eight, filled up with the test that all pass
unfoldable pub eight : List Test → List Test
eight tests = tests ++ replicate (8 - length tests) blank
