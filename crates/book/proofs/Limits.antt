-- The rules of an accepted book keep to document 01's limits, because each record that is taken keeps to them.
-- Assumes nothing.
use Prim.Native.Nat.{ℕ, ◌+◌, ◌*◌, ◌-◌, ◌≤◌, ◌<◌}
use mathlib.Core.Path.{◌≡◌, refl}
use mathlib.Core.List.{List, [], ◌∷◌, ◌++◌}
use mathlib.Core.Bool.{true}
use native.Mathlib.Omega.{arith}
use lib.ListN.{length, drop}
use Rattle.std.specs.Prelude.{Ok}
use Rattle.book.specs.declared.record.Record.TheVariants as r
use Rattle.book.specs.declared.record.Test.{Test}
use Rattle.book.specs.Record.{record_at}
use Rattle.book.specs.Judgement.{taken, wording_of, test_fits, rule_judged}
use Rattle.book.specs.Rules.{Rule, no_rule, last_or, on_last, with_condition, with_test, standing, condition_count}
use Rattle.book.specs.Read.{accepted, grown, read_book}
use Rattle.book.specs.Limits.{All, Ascending, ConditionKept, RuleKept, Kept}
use Rattle.book.proofs.Judged.{rule-taken, condition_taken, test_taken, end-taken, finished_some, standing-some}
use Rattle.book.proofs.Laid.{length_sums, total-append, total-on_last, laid-append, laid-on_last}
use Rattle.book.proofs.RuleAt.{rule-wording-length}
use Rattle.book.proofs.Walk.{Carried, read-ends}

-- ---- one more at the end, and the last one changed

module _ {A : Type 0} (P : A → Type 0) where
  all_append : (l : List A) (a : A) → All P l → P a → All P (l ++ a ∷ [])
  all_append [] a h p = (p, tt)
  all_append (b ∷ l) a h p = (h.0, all_append l a h.1 p)

  all-on_last : (f : A → A) (d : A) (l : List A) → All P l → (P (last_or d l) → P (f (last_or d l))) → All P (on_last f l)
  unfolding last_or on_last
  all-on_last f d [] h s = tt
  all-on_last f d (a ∷ []) h s = (s h.0, tt)
  all-on_last f d (a ∷ (b ∷ l)) h s = (h.0, all-on_last f d (b ∷ l) h.1 s)

ascending-append : (d rule : Rule) (rules : List Rule) → Ascending d.number rules → (last_or d rules).number < rule.number → Ascending d.number (rules ++ rule ∷ [])
unfolding last_or
ascending-append d rule [] h s = (s, tt)
ascending-append d rule (a ∷ rules) h s = (h.0, ascending-append a rule rules h.1 s)

ascending-on_last : (f : Rule → Rule) → ((rule : Rule) → (f rule).number ≡ rule.number) → (last : ℕ) (rules : List Rule) → Ascending last rules → Ascending last (on_last f rules)
unfolding on_last
ascending-on_last f same last [] h = tt
ascending-on_last f same last (a ∷ []) h = (rw (same a) h.0, tt)
ascending-on_last f same last (a ∷ (b ∷ rules)) h = (h.0, ascending-on_last f same a.number (b ∷ rules) h.1)

-- every rule before the last has a condition
abbrev Earlier : List Rule → Type 0
Earlier [] = Unit {0}
Earlier (a ∷ []) = Unit {0}
Earlier (a ∷ (b ∷ rules)) = (0 < length a.conditions) × Earlier (b ∷ rules)

abbrev LastSome : List Rule → Type 0
LastSome rules = 0 < length rules → 0 < length (last_or no_rule rules).conditions

earlier-append : (rule : Rule) (rules : List Rule) → Earlier rules → LastSome rules → Earlier (rules ++ rule ∷ [])
unfolding last_or
earlier-append rule [] h s = tt
earlier-append rule (a ∷ []) h s = (s (omega arith), tt)
earlier-append rule (a ∷ (b ∷ rules)) h s = (h.0, earlier-append rule (b ∷ rules) h.1 (λ p. s (omega arith)))

earlier-on_last : (f : Rule → Rule) (rules : List Rule) → Earlier rules → Earlier (on_last f rules)
unfolding on_last
earlier-on_last f [] h = tt
earlier-on_last f (a ∷ []) h = tt
earlier-on_last f (a ∷ (b ∷ [])) h = (h.0, tt)
earlier-on_last f (a ∷ (b ∷ (c ∷ rules))) h = (h.0, earlier-on_last f (b ∷ (c ∷ rules)) h.1)

earlier-all : (rules : List Rule) → Earlier rules → LastSome rules → All (λ rule. 0 < length rule.conditions) rules
unfolding last_or
earlier-all [] h s = tt
earlier-all (a ∷ []) h s = (s (omega arith), tt)
earlier-all (a ∷ (b ∷ rules)) h s = (h.0, earlier-all (b ∷ rules) h.1 (λ p. s (omega arith)))

-- ---- a rule with one condition or one test more

rule_with_condition : (rule : Rule) → length rule.conditions < 6 → RuleKept rule → RuleKept (with_condition rule)
unfolding with_condition
rule_with_condition rule room k =
    record {
      whole = k.whole;
      printed = k.printed;
      most = omega (arith, total-append length_sums rule.conditions []);
      conditions = laid-append length_sums ConditionKept 0 rule.conditions [] k.conditions (record { most = omega arith; fit = tt });
    }

module _ (t : Test) (rule : Rule) (some : 0 < length rule.conditions) (room : length (last_or [] rule.conditions) < 8)
    (fits : test_fits t (length rule.conditions - 1) ≡ true) where
  rule_with_test : RuleKept rule → RuleKept (with_test t rule)
  unfolding with_test
  rule_with_test k =
      let put : List Test → List Test = λ tests. tests ++ t ∷ [] in
      let last : List Test = last_or [] rule.conditions in
      record {
        whole = k.whole;
        printed = k.printed;
        most = omega (arith, total-on_last length_sums put 0 [] rule.conditions some (omega arith));
        conditions = laid-on_last length_sums ConditionKept put [] 0 rule.conditions k.conditions (λ p ends c.
            let own : length rule.conditions - 1 ≡ p = omega (arith, ends) in
            record {
              most = omega (arith, c.most, total-append length_sums last t);
              fit = all_append (λ t. test_fits t p ≡ true) last t c.fit (rw own at fits);
            });
      }

-- ---- one record more

-- what the rules read so far keep to: the last one may have no condition yet
record Growing (rules : List Rule) : Type 0 where
  most : length rules ≤ 32
  ascending : Ascending 0 rules
  each : All RuleKept rules
  earlier : Earlier rules

module _ (book : List ℕ) where
  rule-more : (at number : ℕ) (rules : List Rule) → record_at book at ≡ Ok (r.Rule number) → rule_judged (standing rules) number (drop (at + 1) book) ≡ taken
      → Growing rules → Growing (grown rules (r.Rule number) (drop (at + 1) book))
  unfolding grown standing no_rule
  rule-more at number rules e j g =
      let new : Rule = record { number = number; wording = wording_of (drop (at + 1) book); conditions = [] } in
      let taken = rule-taken (standing rules) number (drop (at + 1) book) j in
      record {
        most = omega (arith, taken.room, total-append length_sums rules new);
        ascending = ascending-append no_rule new rules g.ascending taken.above;
        each = all_append RuleKept rules new g.each (record { whole = rule-wording-length book at number e; printed = taken.printed; most = omega arith; conditions = tt });
        earlier = earlier-append new rules g.earlier (finished_some (standing rules) taken.finished);
      }

  -- the last rule changed, to one of the same number that keeps to the limits too
  last-changed : (f : Rule → Rule) (rules : List Rule) → ((rule : Rule) → (f rule).number ≡ rule.number)
      → (RuleKept (last_or no_rule rules) → RuleKept (f (last_or no_rule rules))) → 0 < length rules → Growing rules → Growing (on_last f rules)
  last-changed f rules same keeps some g =
      record {
        most = omega (arith, g.most, total-on_last length_sums f 0 no_rule rules some (omega arith));
        ascending = ascending-on_last f same 0 rules g.ascending;
        each = all-on_last RuleKept f no_rule rules g.each keeps;
        earlier = earlier-on_last f rules g.earlier;
      }

  kept_carried : Carried book (λ at. Growing)
  unfolding standing with_condition with_test
  kept_carried =
      record {
        rule = rule-more;
        condition = λ at rules e j.
            let taken = condition_taken (standing rules) j in
            last-changed with_condition rules (λ rule. refl) (rule_with_condition (last_or no_rule rules) taken.room) taken.under;
        test = λ at t rules e j.
            let taken = test_taken (standing rules) t j in
            last-changed (with_test t) rules (λ rule. refl) (rule_with_test t (last_or no_rule rules) taken.under taken.room taken.fits) (standing-some rules taken.under);
      }

  -- ---- all records

  pub read_kept : (rules : List Rule) → read_book book ≡ accepted rules → Kept rules
  unfolding standing
  read_kept rules e =
      let w = (read-ends book (λ at. Growing) kept_carried rules e (record { most = omega arith; ascending = tt; each = tt; earlier = tt })).1 in
      let g = w.holds in
      record {
        most = g.most;
        ascending = g.ascending;
        each = g.each;
        some = earlier-all rules g.earlier (finished_some (standing rules) (end-taken (standing rules) w.taken));
      }

conditions-within : (rules : List Rule) → All RuleKept rules → condition_count rules ≤ 6 * length rules
unfolding condition_count
conditions-within [] h = omega arith
conditions-within (rule ∷ rules) h = omega (arith, h.0.most, conditions-within rules h.1)

-- "32 rules, 6 conditions a rule"
pub condition_count_kept : (rules : List Rule) → Kept rules → condition_count rules ≤ 192
condition_count_kept rules k = omega (arith, conditions-within rules k.each, k.most)
