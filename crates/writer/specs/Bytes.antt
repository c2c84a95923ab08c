-- The bytes of a book's values. "One byte of kind, then a body"; "numbers are big-endian; signed ones are two's complement". Assumes nothing: these are definitions.
use Rattle.std.specs.Prelude.{ℕ, List, [], ◌∷◌, ◌++◌, Result, Ok, Err}
use Rattle.numbers.specs.BigEndian.{bytes}
use Rattle.book.specs.declared.record.Record.{Record}
use Rattle.book.specs.declared.record.Record.TheVariants as r
use Rattle.book.specs.declared.record.Test.{Test}
use Rattle.book.specs.declared.record.Test.TheVariants.{Constant, Position, Gap}
use Rattle.book.specs.declared.refusal.Cause.{Cause}
use Rattle.book.specs.Rules.{Rule}
use Rattle.writer.specs.Fields.{bits}

unfoldable pub test_bytes : Test → List ℕ
test_bytes (Constant place relation number) = 3 ∷ place ∷ relation ∷ bytes 4 number
test_bytes (Position place relation condition other) = 4 ∷ place ∷ relation ∷ condition ∷ other ∷ []
test_bytes (Gap place condition other low high) = 5 ∷ place ∷ condition ∷ other ∷ (bytes 8 (bits low) ++ bytes 8 (bits high))

-- a rule's with its wording
unfoldable pub record_bytes : Record → List ℕ → List ℕ
record_bytes (r.Rule number) wording = 1 ∷ (bytes 2 number ++ wording)
record_bytes r.Condition wording = 2 ∷ []
record_bytes (r.Test t) wording = test_bytes t
record_bytes r.End wording = 9 ∷ []

-- of what a row says; a refused record is a kind that no record has
unfoldable pub said_bytes : Result Record Cause → List ℕ → List ℕ
said_bytes (Ok r) wording = record_bytes r wording
said_bytes (Err cause) wording = 0 ∷ []

unfoldable pub tests_bytes : List Test → List ℕ
tests_bytes [] = []
tests_bytes (t ∷ tests) = test_bytes t ++ tests_bytes tests

-- "condition begins", then its tests
unfoldable pub condition_bytes : List Test → List ℕ
condition_bytes tests = 2 ∷ tests_bytes tests

unfoldable pub conditions_bytes : List (List Test) → List ℕ
conditions_bytes [] = []
conditions_bytes (tests ∷ conditions) = condition_bytes tests ++ conditions_bytes conditions

-- "rule: number, wording", then its conditions
unfoldable pub rule_bytes : Rule → List ℕ
rule_bytes rule = (1 ∷ (bytes 2 rule.number ++ rule.wording)) ++ conditions_bytes rule.conditions

unfoldable pub rules_bytes : List Rule → List ℕ
rules_bytes [] = []
rules_bytes (rule ∷ rules) = rule_bytes rule ++ rules_bytes rules

-- the rules, and the end record, which is no value
unfoldable pub book_bytes : List Rule → List ℕ
book_bytes rules = rules_bytes rules ++ 9 ∷ []
