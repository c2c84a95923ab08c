-- The offsets found are those of the values: at each rule's place its number and wording are read, at each condition's place its tests.
-- Assumes nothing.
use Prim.Native.Nat.{ℕ, zero, suc, ◌+◌, ◌≤◌, ◌<◌}
use mathlib.Core.Path.{◌≡◌, refl, sym, ap, ◌∙◌}
use mathlib.Core.List.{List, [], ◌∷◌, map, map-append}
use mathlib.Core.Bool.{Bool, true, false, cond}
use native.Mathlib.Nat.{add-zero, zero-add}
use native.Mathlib.Omega.{arith}
use lib.Dec.{eqb}
use lib.ListN.{length, take, drop, get_or}
use Rattle.std.specs.Prelude.{Result, Ok, Err}
use Rattle.numbers.specs.BigEndian.{uint}
use Rattle.book.specs.declared.record.Test.{Test}
use Rattle.book.specs.declared.refusal.Refusal.{Refusal}
use Rattle.book.specs.Record.{record_at, test_size}
use Rattle.book.specs.Rules.{Rule, tests_size, conditions_size, rules_size, rule_places, condition_places_in, condition_places}
use Rattle.book.specs.Tests.{tests_from, tests_at}
use Rattle.book.specs.Wording.{wording_in, wording_place_in, sought}
use Rattle.book.specs.Stands.{Laid, rule_size, TestsStand, ConditionsStand, RulesStand, BookStands, conditions_of}
use Rattle.book.specs.Limits.{All, ConditionKept, RuleKept, Kept}
use Rattle.book.proofs.RuleAt.{rule-within, rule-number, rule-wording}
use Rattle.book.proofs.TestsFrom.{NoTest, tests_from-none, tests_from-more}

-- ---- the part of the book that a wording's place shows; where it is refused there are no bytes

abbrev pub Shows : List ℕ → Result ℕ Refusal → List ℕ → Type 0
Shows book (Ok p) w = (p + 24 ≤ length book) × (take 24 (drop p book) ≡ w)
Shows book (Err e) w = w ≡ []

shows_cond : (book : List ℕ) (b : Bool) (p q : Result ℕ Refusal) (v w : List ℕ) → Shows book p v → Shows book q w → Shows book (cond b p q) (cond b v w)
shows_cond book true p q v w h k = h
shows_cond book false p q v w h k = k

module _ (book : List ℕ) where
  -- ---- rules: their numbers and wordings

  pub rule_places-numbers : (at : ℕ) (rules : List Rule) → RulesStand book at rules → map (λ p. uint 2 book (p + 1)) (rule_places at rules) ≡ map (λ rule. rule.number) rules
  unfolding rule_places
  rule_places-numbers at [] h = refl
  rule_places-numbers at (rule ∷ rules) h = rw (rule-number book at rule.number h.0.begins, rule_places-numbers (at + rule_size rule) rules h.1)

  pub rule_places_wordings : (at : ℕ) (rules : List Rule) → RulesStand book at rules → map (λ p. take 24 (drop (p + 3) book)) (rule_places at rules) ≡ map (λ rule. rule.wording) rules
  unfolding rule_places
  rule_places_wordings at [] h = refl
  rule_places_wordings at (rule ∷ rules) h =
      rw (h.0.wording, rule-wording book at rule.number h.0.begins, rule_places_wordings (at + rule_size rule) rules h.1)

  pub rule_places-within : (at : ℕ) (rules : List Rule) → RulesStand book at rules → (k : ℕ) → k < length rules → get_or (rule_places at rules) k 0 + 27 ≤ length book
  unfolding rule_places
  rule_places-within at [] h k l = absurd (omega arith)
  rule_places-within at (rule ∷ rules) h zero l = rule-within book at rule.number h.0.begins
  rule_places-within at (rule ∷ rules) h (suc k) l = rule_places-within (at + rule_size rule) rules h.1 k (omega arith)

  -- ---- a rule sought by its number

  pub sought-places : (at : ℕ) (rules : List Rule) (n : ℕ) → RulesStand book at rules → sought book (rule_places at rules) n ≡ wording_place_in at rules n
  unfolding rule_places sought wording_place_in
  sought-places at [] n h = refl
  sought-places at (rule ∷ rules) n h = rw (rule-number book at rule.number h.0.begins, sought-places (at + rule_size rule) rules n h.1)

  pub wording_place_shows : (at : ℕ) (rules : List Rule) (n : ℕ) → RulesStand book at rules → Shows book (wording_place_in at rules n) (wording_in rules n)
  unfolding wording_place_in wording_in
  wording_place_shows at [] n h = refl
  wording_place_shows at (rule ∷ rules) n h =
      let here : at + 27 ≤ length book = rule-within book at rule.number h.0.begins in
      shows_cond book (eqb rule.number n) _ _ _ _ (omega arith, sym (h.0.wording ∙ rule-wording book at rule.number h.0.begins)) (wording_place_shows (at + rule_size rule) rules n h.1)

  -- ---- conditions: their tests, which end where the next record is none

  tests-at : (n at : ℕ) (tests : List Test) → TestsStand book at tests → length tests ≤ n → NoTest (record_at book (at + tests_size tests)) → tests_from n book at ≡ tests
  unfolding tests_from tests_size
  tests-at zero at [] h l e = refl
  tests-at zero at (t ∷ tests) h l e = absurd (omega arith)
  tests-at (suc n) at [] h l e = tests_from-none book at (suc n) (rw (add-zero at) at e)
  tests-at (suc n) at (t ∷ tests) h l e =
      let next : at + (test_size t + tests_size tests) ≡ at + test_size t + tests_size tests = omega arith in
      tests_from-more book at n t h.0 ∙ ap (λ (more : List Test). t ∷ more) (tests-at n (at + test_size t) tests h.1 (omega arith) (rw next at e))

  conditions-next : (at : ℕ) (conditions : List (List Test)) → ConditionsStand book at conditions → NoTest (record_at book (at + conditions_size conditions)) → NoTest (record_at book at)
  unfolding conditions_size
  conditions-next at [] h e = rw (add-zero at) at e
  conditions-next at (tests ∷ conditions) h e = rw h.0.begins tt

  conditions-at : (own at : ℕ) (conditions : List (List Test)) → ConditionsStand book at conditions → Laid (λ tests. 1) ConditionKept own conditions
      → NoTest (record_at book (at + conditions_size conditions)) → map (tests_at book) (condition_places_in at conditions) ≡ conditions
  unfolding condition_places_in conditions_size
  conditions-at own at [] h k e = refl
  conditions-at own at (tests ∷ conditions) h k e =
      let next : at + (1 + tests_size tests + conditions_size conditions) ≡ at + (1 + tests_size tests) + conditions_size conditions = omega arith in
      let here : at + (1 + tests_size tests) ≡ at + 1 + tests_size tests = omega arith in
      let after : NoTest (record_at book (at + (1 + tests_size tests) + conditions_size conditions)) = rw next at e in
      rw (
        tests-at 8 (at + 1) tests h.0.tests k.0.most (rw here at (conditions-next (at + (1 + tests_size tests)) conditions h.1 after)),
        conditions-at (own + 1) (at + (1 + tests_size tests)) conditions h.1 k.1 after,
      )

  rules-next : (at : ℕ) (rules : List Rule) → RulesStand book at rules → NoTest (record_at book (at + rules_size rules)) → NoTest (record_at book at)
  unfolding rules_size
  rules-next at [] h e = rw (add-zero at) at e
  rules-next at (rule ∷ rules) h e = rw h.0.begins tt

  rules-at : (at : ℕ) (rules : List Rule) → RulesStand book at rules → All RuleKept rules → NoTest (record_at book (at + rules_size rules))
      → map (tests_at book) (condition_places at rules) ≡ conditions_of rules
  unfolding condition_places conditions_of rules_size
  rules-at at [] h k e = refl
  rules-at at (rule ∷ rules) h k e =
      let size : ℕ = conditions_size rule.conditions in
      let next : at + (27 + size + rules_size rules) ≡ at + (27 + size) + rules_size rules = omega arith in
      let here : at + (27 + size) ≡ at + 27 + size = omega arith in
      let after : NoTest (record_at book (at + (27 + size) + rules_size rules)) = rw next at e in
      map-append (tests_at book) (condition_places_in (at + 27) rule.conditions) (condition_places (at + (27 + size)) rules)
      ∙ rw (
        conditions-at 0 (at + 27) rule.conditions h.0.conditions k.0.conditions (rw here at (rules-next (at + (27 + size)) rules h.1 after)),
        rules-at (at + (27 + size)) rules h.1 k.1 after,
      )

  pub condition_places-tests : (rules : List Rule) → BookStands book rules → Kept rules → map (tests_at book) (condition_places 0 rules) ≡ conditions_of rules
  condition_places-tests rules s k = rules-at 0 rules s.stand k.each (rw (zero-add, s.end) tt)
