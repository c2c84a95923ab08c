-- The book as values: rules with number, wording and conditions, a condition as its list of tests; and where each stands. Assumes nothing: these are definitions.
use Rattle.std.specs.Prelude.{ℕ, ◌+◌, ◌-◌, List, [], ◌∷◌, ◌++◌, map, length, replicate}
use Rattle.book.specs.declared.judgement.Standing.{Standing}
use Rattle.book.specs.declared.reader.Places.{Places}
use Rattle.book.specs.declared.record.Test.{Test}
use Rattle.book.specs.Record.{test_size}

pub record Rule : Type 0 where
  pub number : ℕ
  pub wording : List ℕ
  pub conditions : List (List Test)

-- the last of a list; the first argument where there is none
unfoldable pub last_or : {A : Type 0} → A → List A → A
last_or d [] = d
last_or d (a ∷ l) = last_or a l

-- a list with its last element changed
unfoldable pub on_last : {A : Type 0} → (A → A) → List A → List A
on_last f [] = []
on_last f (a ∷ []) = f a ∷ []
on_last f (a ∷ (b ∷ l)) = a ∷ on_last f (b ∷ l)

-- what stands before any rule: the number that the first must be above, and no condition
unfoldable pub no_rule : Rule
no_rule = record { number = 0; wording = []; conditions = [] }

-- a rule with one condition more, without tests yet
unfoldable pub with_condition : Rule → Rule
with_condition r = record { number = r.number; wording = r.wording; conditions = r.conditions ++ [] ∷ [] }

-- a rule with one test more in its last condition
unfoldable pub with_test : Test → Rule → Rule
with_test t r =
    record { number = r.number; wording = r.wording; conditions = on_last (λ tests. tests ++ t ∷ []) r.conditions }

unfoldable pub condition_count : List Rule → ℕ
condition_count [] = 0
condition_count (r ∷ rules) = length r.conditions + condition_count rules

-- what of the rules read so far decides about the next record
unfoldable pub standing : List Rule → Standing
standing rules =
    record {
      rules = length rules;
      last = (last_or no_rule rules).number;
      conditions = length (last_or no_rule rules).conditions;
      tests = length (last_or [] (last_or no_rule rules).conditions);
      total = condition_count rules;
    }

-- how many bytes the records of tests, of conditions, of rules take
unfoldable pub tests_size : List Test → ℕ
tests_size [] = 0
tests_size (t ∷ tests) = test_size t + tests_size tests

unfoldable pub conditions_size : List (List Test) → ℕ
conditions_size [] = 0
conditions_size (tests ∷ conditions) = 1 + tests_size tests + conditions_size conditions

unfoldable pub rules_size : List Rule → ℕ
rules_size [] = 0
rules_size (r ∷ rules) = 27 + conditions_size r.conditions + rules_size rules

-- where the record of each rule stands, the first at `at`
unfoldable pub rule_places : ℕ → List Rule → List ℕ
rule_places at [] = []
rule_places at (r ∷ rules) = at ∷ rule_places (at + (27 + conditions_size r.conditions)) rules

-- where the first test of each condition would stand, the first condition's record at `at`
unfoldable pub condition_places_in : ℕ → List (List Test) → List ℕ
condition_places_in at [] = []
condition_places_in at (tests ∷ conditions) = (at + 1) ∷ condition_places_in (at + (1 + tests_size tests)) conditions

unfoldable pub condition_places : ℕ → List Rule → List ℕ
condition_places at [] = []
condition_places at (r ∷ rules) =
    condition_places_in (at + 27) r.conditions ++ condition_places (at + (27 + conditions_size r.conditions)) rules

-- a list filled up with zeros to n numbers
unfoldable pub padded : ℕ → List ℕ → List ℕ
padded n l = l ++ replicate (n - length l) 0

-- the places of a book's rules and conditions, and how many conditions each rule has
unfoldable pub places_of : List Rule → Places
places_of rules =
    record {
      rules = padded 32 (rule_places 0 rules);
      counts = padded 32 (map (λ r. length r.conditions) rules);
      conditions = padded 192 (condition_places 0 rules);
    }
