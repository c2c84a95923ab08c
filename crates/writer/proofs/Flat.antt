-- The records of an accepted book, one after the other, are those of its values. Assumes nothing.
use Prim.Native.Nat.{ℕ, suc, ◌+◌, ◌-◌, ◌≤◌}
use mathlib.Core.Path.{◌≡◌, refl, sym, ap, ◌∙◌}
use mathlib.Core.List.{List, [], ◌∷◌, ◌++◌, append_assoc, append-nil}
use native.Mathlib.Nat.{add-zero, zero-add}
use native.Mathlib.Omega.{arith}
use lib.ListN.{length, length-append}
use Rattle.std.specs.Prelude.{Ok}
use Rattle.book.specs.declared.record.Record.{Record}
use Rattle.book.specs.declared.record.Record.TheVariants as r
use Rattle.book.specs.declared.record.Test.{Test}
use Rattle.book.specs.Record.{record_at, test_size, size_of}
use Rattle.book.specs.Rules.{Rule, tests_size, conditions_size, rules_size}
use Rattle.book.specs.Read.{accepted, bytes_of, read_book}
use Rattle.book.specs.Stands.{TestsStand, ConditionsStand, RulesStand}
use Rattle.book.proofs.Stands.{read-stands}
use Rattle.writer.specs.Values.{test_records, condition_records, records_of, goes_on, records_from, records_in}
use Rattle.writer.proofs.Laying.{test_some}
use Rattle.writer.proofs.Passing.{records_end}

-- ---- how many there are: no more than bytes

tests-few : (tests : List Test) → length (test_records tests) ≤ tests_size tests
unfolding test_records tests_size
tests-few [] = omega arith
tests-few (t ∷ tests) = omega (arith, test_some t, tests-few tests)

conditions-few : (conditions : List (List Test)) → length (condition_records conditions) ≤ conditions_size conditions
unfolding condition_records conditions_size
conditions-few [] = omega arith
conditions-few (tests ∷ conditions) = omega (arith, length-append (test_records tests) (condition_records conditions), tests-few tests, conditions-few conditions)

pub rules_few : (rules : List Rule) → length (records_of rules) ≤ rules_size rules
unfolding records_of rules_size
rules_few [] = omega arith
rules_few (rule ∷ rules) = omega (arith, length-append (condition_records rule.conditions) (records_of rules), conditions-few rule.conditions, rules_few rules)

-- ---- n records from `at` on, of which so many are known

module _ (book : List ℕ) where
  from_one : (n at : ℕ) (rec : Record) (size : ℕ) → 1 ≤ n → record_at book at ≡ Ok rec → size_of rec ≡ size → ((more : List Record) → goes_on (Ok rec) more ≡ rec ∷ more)
      → records_from n book at ≡ rec ∷ records_from (n - 1) book (at + size)
  unfolding records_from bytes_of
  from_one n at rec size h e s on =
      let left : n ≡ suc (n - 1) = omega arith in
      ap (λ (k : ℕ). records_from k book at) left ∙ rw (e, s) (on _)

  -- what stands behind the records `some`, which take so many bytes
  abbrev From : ℕ → ℕ → List Record → ℕ → Type 0
  From n at some size = length some ≤ n → records_from n book at ≡ some ++ records_from (n - length some) book (at + size)

  from_then : (n at : ℕ) (a b : List Record) (size wide : ℕ) → From n at a size → From (n - length a) (at + size) b wide → From n at (a ++ b) (size + wide)
  from_then n at a b size wide f g h =
      let long = length-append a b in
      let left : n - length a - length b ≡ n - length (a ++ b) = omega arith in
      let place : at + size + wide ≡ at + (size + wide) = omega arith in
      f (omega arith) ∙ ap (λ (l : List Record). a ++ l) (g (omega arith)) ∙ sym (append_assoc a b _) ∙ rw (left, place)

  from_cons : (n at : ℕ) (rec : Record) (some : List Record) (size wide : ℕ) → (1 ≤ n → records_from n book at ≡ rec ∷ records_from (n - 1) book (at + size)) → From (n - 1) (at + size) some wide
      → From n at (rec ∷ some) (size + wide)
  from_cons n at rec some size wide one more h =
      let left : n - 1 - length some ≡ n - length (rec ∷ some) = omega arith in
      let place : at + size + wide ≡ at + (size + wide) = omega arith in
      one (omega arith) ∙ ap (λ (l : List Record). rec ∷ l) (more (omega arith)) ∙ rw (left, place)

  from_none : (n at : ℕ) → From n at [] 0
  from_none n at h = let all : n - 0 ≡ n = omega arith in rw (all, add-zero at)

  from_tests : (n at : ℕ) (tests : List Test) → TestsStand book at tests → From n at (test_records tests) (tests_size tests)
  unfolding test_records tests_size size_of goes_on
  from_tests n at [] s = from_none n at
  from_tests n at (t ∷ tests) s =
      from_cons n at (r.Test t) (test_records tests) (test_size t) (tests_size tests) (λ h. from_one n at (r.Test t) (test_size t) h s.0 refl (λ more. refl)) (from_tests (n - 1) (at + test_size t) tests s.1)

  from_conditions : (n at : ℕ) (conditions : List (List Test)) → ConditionsStand book at conditions → From n at (condition_records conditions) (conditions_size conditions)
  unfolding condition_records conditions_size size_of goes_on
  from_conditions n at [] s = from_none n at
  from_conditions n at (tests ∷ conditions) s =
      let place : at + 1 + tests_size tests ≡ at + (1 + tests_size tests) = omega arith in
      let size : 1 + (tests_size tests + conditions_size conditions) ≡ 1 + tests_size tests + conditions_size conditions = omega arith in
      rw (← size) (from_cons n at r.Condition (test_records tests ++ condition_records conditions) 1 (tests_size tests + conditions_size conditions)
      (λ h. from_one n at r.Condition 1 h s.0.begins refl (λ more. refl))
      (from_then (n - 1) (at + 1) (test_records tests) (condition_records conditions) (tests_size tests) (conditions_size conditions)
      (from_tests (n - 1) (at + 1) tests s.0.tests)
      (rw place (from_conditions (n - 1 - length (test_records tests)) (at + (1 + tests_size tests)) conditions s.1))))

  from_rules : (n at : ℕ) (rules : List Rule) → RulesStand book at rules → From n at (records_of rules) (rules_size rules)
  unfolding records_of rules_size size_of goes_on
  from_rules n at [] s = from_none n at
  from_rules n at (rule ∷ rules) s =
      let wide = conditions_size rule.conditions in
      let own = condition_records rule.conditions in
      let place : at + 27 + wide ≡ at + (27 + wide) = omega arith in
      let size : 27 + (wide + rules_size rules) ≡ 27 + wide + rules_size rules = omega arith in
      rw (← size) (from_cons n at (r.Rule rule.number) (own ++ records_of rules) 27 (wide + rules_size rules)
      (λ h. from_one n at (r.Rule rule.number) 27 h s.0.begins refl (λ more. refl))
      (from_then (n - 1) (at + 27) own (records_of rules) wide (rules_size rules)
      (from_conditions (n - 1) (at + 27) rule.conditions s.0.conditions)
      (rw place (from_rules (n - 1 - length own) (at + (27 + wide)) rules s.1))))

  pub records_in-accepted : (rules : List Rule) → read_book book ≡ accepted rules → records_in book ≡ records_of rules
  records_in-accepted rules e =
      let s = (read-stands book rules e).0 in
      let few = rules_few rules in
      from_rules (length book) 0 rules s.stand (omega (arith, s.last))
      ∙ ap (λ (l : List Record). records_of rules ++ l) (ap (records_from (length book - length (records_of rules)) book) (zero-add (rules_size rules)) ∙ records_end book (rules_size rules) _ s.end)
      ∙ append-nil (records_of rules)
