-- That rules stand in a book, record after record. Assumes nothing: these are definitions.
use Rattle.std.specs.Prelude.{ℕ, ◌+◌, ◌≡◌, List, [], ◌∷◌, ◌++◌, length, drop, Ok}
use Rattle.book.specs.declared.record.Record.TheVariants as r
use Rattle.book.specs.declared.record.Test.{Test}
use Rattle.book.specs.Record.{record_at, test_size}
use Rattle.book.specs.Judgement.{wording_of}
use Rattle.book.specs.Rules.{Rule, tests_size, conditions_size, rules_size}

-- one after the other from `at` on: the first stands there, the next behind it by its size, and so on
abbrev pub Laid : {A : Type 0} → (A → ℕ) → (ℕ → A → Type 0) → ℕ → List A → Type 0
Laid size Stands at [] = Unit {0}
Laid size Stands at (a ∷ l) = Stands at a × Laid size Stands (at + size a) l

abbrev pub TestsStand : List ℕ → ℕ → List Test → Type 0
TestsStand book at tests = Laid test_size (λ p t. record_at book p ≡ Ok (r.Test t)) at tests

-- "condition begins", then its tests
pub record ConditionStands (book : List ℕ) (at : ℕ) (condition : List Test) : Type 0 where
  pub begins : record_at book at ≡ Ok r.Condition
  pub tests : TestsStand book (at + 1) condition

-- how many bytes a condition takes, its own record and its tests
abbrev pub condition_size : List Test → ℕ
condition_size condition = 1 + tests_size condition

abbrev pub ConditionsStand : List ℕ → ℕ → List (List Test) → Type 0
ConditionsStand book at conditions = Laid condition_size (ConditionStands book) at conditions

-- "rule: number (2), wording (24 bytes ..)", then its conditions
pub record RuleStands (book : List ℕ) (at : ℕ) (rule : Rule) : Type 0 where
  pub begins : record_at book at ≡ Ok (r.Rule rule.number)
  pub wording : rule.wording ≡ wording_of (drop (at + 1) book)
  pub conditions : ConditionsStand book (at + 27) rule.conditions

-- how many bytes a rule takes, its own record and its conditions
abbrev pub rule_size : Rule → ℕ
rule_size rule = 27 + conditions_size rule.conditions

abbrev pub RulesStand : List ℕ → ℕ → List Rule → Type 0
RulesStand book at rules = Laid rule_size (RuleStands book) at rules

-- the rules from the first byte on, and behind them the end record, which is the last byte
pub record BookStands (book : List ℕ) (rules : List Rule) : Type 0 where
  pub stand : RulesStand book 0 rules
  pub end : record_at book (rules_size rules) ≡ Ok r.End
  pub last : rules_size rules + 1 ≡ length book

-- the conditions of all rules in one list
unfoldable pub conditions_of : List Rule → List (List Test)
conditions_of [] = []
conditions_of (rule ∷ rules) = rule.conditions ++ conditions_of rules
