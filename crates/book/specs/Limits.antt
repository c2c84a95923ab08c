-- What the rules of an accepted book keep to: "32 rules, 6 conditions a rule, 8 tests a condition", and the range of each number. Assumes nothing: these are definitions.
use Rattle.std.specs.Prelude.{ℕ, ◌≤◌, ◌<◌, ◌≡◌, List, [], ◌∷◌, true, length}
use Rattle.book.specs.declared.record.Test.{Test}
use Rattle.book.specs.Judgement.{printable, test_fits}
use Rattle.book.specs.Rules.{Rule}
use Rattle.book.specs.Stands.{Laid}

-- of each element
abbrev pub All : {A : Type 0} → (A → Type 0) → List A → Type 0
All P [] = Unit {0}
All P (a ∷ l) = P a × All P l

-- each number above the one before, the first above `last`
abbrev pub Ascending : ℕ → List Rule → Type 0
Ascending last [] = Unit {0}
Ascending last (rule ∷ rules) = (last < rule.number) × Ascending rule.number rules

-- "8 tests a condition", and each in range in condition `own`
pub record ConditionKept (own : ℕ) (tests : List Test) : Type 0 where
  pub most : length tests ≤ 8
  pub fit : All (λ t. test_fits t own ≡ true) tests

-- "24 bytes, each 32 to 126"; "6 conditions a rule"; "Conditions are counted from 0 within the rule"
pub record RuleKept (rule : Rule) : Type 0 where
  pub whole : length rule.wording ≡ 24
  pub printed : printable rule.wording ≡ true
  pub most : length rule.conditions ≤ 6
  pub conditions : Laid (λ tests. 1) ConditionKept 0 rule.conditions

-- "32 rules"; no "rule number not above the one before (the first not above 0)"; no "next rule or end when the rule before has no condition"
pub record Kept (rules : List Rule) : Type 0 where
  pub most : length rules ≤ 32
  pub ascending : Ascending 0 rules
  pub each : All RuleKept rules
  pub some : All (λ rule. 0 < length rule.conditions) rules
