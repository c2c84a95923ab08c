-- What one record more makes of the rules read: their standing, their size in bytes, and their places. Assumes nothing.
use Prim.Native.Nat.{ℕ, suc, ◌+◌, ◌-◌, ◌≤◌, ◌<◌}
use mathlib.Core.Path.{◌≡◌, refl, sym, ap, ◌∙◌}
use mathlib.Core.List.{List, [], ◌∷◌, ◌++◌, map, append_assoc, append-nil}
use native.Mathlib.Nat.{add-zero, zero-add}
use native.Mathlib.Omega.{arith}
use lib.ListN.{length, set, replicate, length-append, length-set}
use lib.Seq.{set_at, set-append_left}
use Rattle.book.specs.declared.record.Test.{Test}
use Rattle.book.specs.declared.record.Record.TheVariants as r
use Rattle.book.specs.Judgement.{after}
use Rattle.book.specs.Steps.{rule_noted, condition_noted}
use borrow.Author.Tests.{lt-leb, le-ltb, ne_eqb}
use Rattle.book.specs.Rules.{Rule, last_or, on_last, no_rule, with_condition, with_test, condition_count, standing, tests_size, conditions_size, rules_size, rule_places, condition_places_in, condition_places, padded, places_of}
use Rattle.book.proofs.Judged.{standing-some}
use Rattle.book.proofs.Lasts.{last_or_snoc, length-on_last, last_or-on_last, map-on_last, map-on_last-same}

-- a rule that has no condition yet
abbrev pub bare : ℕ → List ℕ → Rule
bare number wording = record { number = number; wording = wording; conditions = [] }

-- ---- conditions counted

pub condition_count-bare : (rules : List Rule) (n : ℕ) (w : List ℕ) → condition_count (rules ++ bare n w ∷ []) ≡ condition_count rules
unfolding condition_count
condition_count-bare [] n w = refl
condition_count-bare (r ∷ rules) n w = rw (condition_count-bare rules n w)

pub condition_count_condition : (rules : List Rule) → 1 ≤ length rules → condition_count (on_last with_condition rules) ≡ condition_count rules + 1
unfolding condition_count on_last with_condition
condition_count_condition [] h = absurd (omega arith)
condition_count_condition (r ∷ []) h = simp length-append (omega arith)
condition_count_condition (r ∷ (q ∷ rules)) h = omega (arith, condition_count_condition (q ∷ rules) (omega arith))

pub condition_count_test : (t : Test) (rules : List Rule) → condition_count (on_last (with_test t) rules) ≡ condition_count rules
unfolding condition_count on_last with_test
condition_count_test t [] = refl
condition_count_test t (r ∷ []) = rw (length-on_last (λ tests. tests ++ t ∷ []) r.conditions)
condition_count_test t (r ∷ (q ∷ rules)) = omega (arith, condition_count_test t (q ∷ rules))

-- ---- places

pub rule_places-bare : (at : ℕ) (rules : List Rule) (n : ℕ) (w : List ℕ) → rule_places at (rules ++ bare n w ∷ []) ≡ rule_places at rules ++ (at + rules_size rules) ∷ []
unfolding rule_places rules_size
rule_places-bare at [] n w = rw (add-zero at)
rule_places-bare at (r ∷ rules) n w =
    let e : at + (27 + conditions_size r.conditions) + rules_size rules ≡ at + (27 + conditions_size r.conditions + rules_size rules) = omega arith in
    ap (λ (l : List ℕ). at ∷ l) (rw e at (rule_places-bare (at + (27 + conditions_size r.conditions)) rules n w))

pub rule_places-on_last : (f : Rule → Rule) (at : ℕ) (rules : List Rule) → rule_places at (on_last f rules) ≡ rule_places at rules
unfolding rule_places on_last
rule_places-on_last f at [] = refl
rule_places-on_last f at (r ∷ []) = refl
rule_places-on_last f at (r ∷ (q ∷ rules)) = ap (λ (l : List ℕ). at ∷ l) (rule_places-on_last f (at + (27 + conditions_size r.conditions)) (q ∷ rules))

condition_places_in_snoc : (at : ℕ) (conditions : List (List Test)) → condition_places_in at (conditions ++ [] ∷ []) ≡ condition_places_in at conditions ++ (at + conditions_size conditions + 1) ∷ []
unfolding condition_places_in conditions_size
condition_places_in_snoc at [] = rw (add-zero at)
condition_places_in_snoc at (c ∷ conditions) =
    let e : at + (1 + tests_size c) + conditions_size conditions ≡ at + (1 + tests_size c + conditions_size conditions) = omega arith in
    ap (λ (l : List ℕ). (at + 1) ∷ l) (rw e at (condition_places_in_snoc (at + (1 + tests_size c)) conditions))

condition_places_in-on_last : (f : List Test → List Test) (at : ℕ) (conditions : List (List Test)) → condition_places_in at (on_last f conditions) ≡ condition_places_in at conditions
unfolding condition_places_in on_last
condition_places_in-on_last f at [] = refl
condition_places_in-on_last f at (c ∷ []) = refl
condition_places_in-on_last f at (c ∷ (d ∷ conditions)) = ap (λ (l : List ℕ). (at + 1) ∷ l) (condition_places_in-on_last f (at + (1 + tests_size c)) (d ∷ conditions))

pub condition_places-bare : (at : ℕ) (rules : List Rule) (n : ℕ) (w : List ℕ) → condition_places at (rules ++ bare n w ∷ []) ≡ condition_places at rules
unfolding condition_places condition_places_in
condition_places-bare at [] n w = refl
condition_places-bare at (r ∷ rules) n w =
    ap (λ (l : List ℕ). condition_places_in (at + 27) r.conditions ++ l) (condition_places-bare (at + (27 + conditions_size r.conditions)) rules n w)

pub condition_places_condition : (at : ℕ) (rules : List Rule) → 1 ≤ length rules → condition_places at (on_last with_condition rules) ≡ condition_places at rules ++ (at + rules_size rules + 1) ∷ []
unfolding condition_places on_last with_condition rules_size
condition_places_condition at [] h = absurd (omega arith)
condition_places_condition at (r ∷ []) h =
    let e : at + 27 + conditions_size r.conditions + 1 ≡ at + (27 + conditions_size r.conditions + 0) + 1 = omega arith in
    append-nil (condition_places_in (at + 27) (r.conditions ++ [] ∷ []))
    ∙ condition_places_in_snoc (at + 27) r.conditions
    ∙ rw (e, append-nil (condition_places_in (at + 27) r.conditions))
condition_places_condition at (r ∷ (q ∷ rules)) h =
    let n = 27 + conditions_size r.conditions in
    let e : at + n + rules_size (q ∷ rules) + 1 ≡ at + (n + rules_size (q ∷ rules)) + 1 = omega arith in
    ap (λ (l : List ℕ). condition_places_in (at + 27) r.conditions ++ l) (rw e at (condition_places_condition (at + n) (q ∷ rules) (omega arith)))
    ∙ sym (append_assoc (condition_places_in (at + 27) r.conditions) (condition_places (at + n) (q ∷ rules)) ((at + (n + rules_size (q ∷ rules)) + 1) ∷ []))

pub condition_places_test : (t : Test) (at : ℕ) (rules : List Rule) → condition_places at (on_last (with_test t) rules) ≡ condition_places at rules
unfolding condition_places on_last with_test
condition_places_test t at [] = refl
condition_places_test t at (r ∷ []) = ap (λ (l : List ℕ). l ++ []) (condition_places_in-on_last (λ tests. tests ++ t ∷ []) (at + 27) r.conditions)
condition_places_test t at (r ∷ (q ∷ rules)) =
    ap (λ (l : List ℕ). condition_places_in (at + 27) r.conditions ++ l) (condition_places_test t (at + (27 + conditions_size r.conditions)) (q ∷ rules))

-- ---- lists filled up with zeros

replicate_suc : (n m : ℕ) → n ≡ suc m → replicate {A = ℕ} n 0 ≡ 0 ∷ replicate m 0
replicate_suc n m e = rw e

pub padded-set : (n i v : ℕ) (l : List ℕ) → i ≡ length l → i < n → set (padded n l) i v ≡ padded n (l ++ v ∷ [])
unfolding padded
padded-set n i v l e h =
    let m : n - length l ≡ suc (n - length (l ++ v ∷ [])) = omega (arith, length-append l (v ∷ [])) in
    ap (λ (z : List ℕ). set (l ++ z) i v) (replicate_suc (n - length l) (n - length (l ++ v ∷ [])) m)
    ∙ set_at l 0 (replicate (n - length (l ++ v ∷ [])) 0) v i (sym e)
    ∙ sym (append_assoc l (v ∷ []) (replicate (n - length (l ++ v ∷ [])) 0))

pub padded_zero : (n : ℕ) (l : List ℕ) → length l < n → padded n (l ++ 0 ∷ []) ≡ padded n l
unfolding padded
padded_zero n l h =
    let m : n - length l ≡ suc (n - length (l ++ 0 ∷ [])) = omega (arith, length-append l (0 ∷ [])) in
    append_assoc l (0 ∷ []) (replicate (n - length (l ++ 0 ∷ [])) 0)
    ∙ ap (λ (z : List ℕ). l ++ z) (sym (replicate_suc (n - length l) (n - length (l ++ 0 ∷ [])) m))

-- a number that stands in the list is changed there
pub padded_change : (n i v : ℕ) (l : List ℕ) → i < length l → set (padded n l) i v ≡ padded n (set l i v)
unfolding padded
padded_change n i v l h = set-append_left l (replicate (n - length l) 0) i v h ∙ rw (length-set l i v)

pub length-rule_places : (at : ℕ) (rules : List Rule) → length (rule_places at rules) ≡ length rules
unfolding rule_places
length-rule_places at [] = refl
length-rule_places at (r ∷ rules) = ap suc (length-rule_places (at + (27 + conditions_size r.conditions)) rules)

length-condition_places_in : (at : ℕ) (conditions : List (List Test)) → length (condition_places_in at conditions) ≡ length conditions
unfolding condition_places_in
length-condition_places_in at [] = refl
length-condition_places_in at (c ∷ conditions) = ap suc (length-condition_places_in (at + (1 + tests_size c)) conditions)

pub length-condition_places : (at : ℕ) (rules : List Rule) → length (condition_places at rules) ≡ condition_count rules
unfolding condition_places condition_count
length-condition_places at [] = refl
length-condition_places at (r ∷ rules) =
    length-append (condition_places_in (at + 27) r.conditions) (condition_places (at + (27 + conditions_size r.conditions)) rules)
    ∙ rw (length-condition_places_in (at + 27) r.conditions, length-condition_places (at + (27 + conditions_size r.conditions)) rules)

-- how many conditions each rule has
abbrev pub counts : List Rule → List ℕ
counts rules = map (λ r. length r.conditions) rules

pub length-counts : (rules : List Rule) → length (counts rules) ≡ length rules
length-counts [] = refl
length-counts (r ∷ rules) = ap suc (length-counts rules)

counts-bare : (rules : List Rule) (n : ℕ) (w : List ℕ) → counts (rules ++ bare n w ∷ []) ≡ counts rules ++ 0 ∷ []
counts-bare [] n w = refl
counts-bare (r ∷ rules) n w = ap (λ (l : List ℕ). length r.conditions ∷ l) (counts-bare rules n w)

length-with_condition : (r : Rule) → length (with_condition r).conditions ≡ length r.conditions + 1
unfolding with_condition
length-with_condition r = length-append r.conditions ([] ∷ [])

length-with_test : (t : Test) (r : Rule) → length (with_test t r).conditions ≡ length r.conditions
unfolding with_test
length-with_test t r = length-on_last (λ tests. tests ++ t ∷ []) r.conditions

-- ---- one record more

module _ (rules : List Rule) where
  pub standing-bare : (n : ℕ) (w : List ℕ) → standing (rules ++ bare n w ∷ []) ≡ after (standing rules) (r.Rule n)
  unfolding standing after last_or
  standing-bare n w =
      let l : length (rules ++ bare n w ∷ []) ≡ length rules + 1 = length-append rules (bare n w ∷ []) in
      let e : last_or no_rule (rules ++ bare n w ∷ []) ≡ bare n w = last_or_snoc no_rule rules (bare n w) in
      rw (l, e, condition_count-bare rules n w)

  pub standing_condition : 1 ≤ length rules → standing (on_last with_condition rules) ≡ after (standing rules) r.Condition
  unfolding standing after with_condition
  standing_condition h =
      let last = last_or no_rule rules in
      let e : last_or no_rule (on_last with_condition rules) ≡ with_condition last = last_or-on_last with_condition no_rule rules h in
      let l : length (last.conditions ++ [] ∷ []) ≡ length last.conditions + 1 = length-append last.conditions ([] ∷ []) in
      rw (e, length-on_last with_condition rules, condition_count_condition rules h, l, last_or_snoc [] last.conditions [])

  pub standing_test : (t : Test) → 1 ≤ length (last_or no_rule rules).conditions → standing (on_last (with_test t) rules) ≡ after (standing rules) (r.Test t)
  unfolding standing after with_test
  standing_test t h =
      let last = last_or no_rule rules in
      let more : List Test → List Test = λ tests. tests ++ t ∷ [] in
      let e : last_or no_rule (on_last (with_test t) rules) ≡ with_test t last = last_or-on_last (with_test t) no_rule rules (standing-some rules h) in
      let l : length (last_or [] last.conditions ++ t ∷ []) ≡ length (last_or [] last.conditions) + 1 = length-append (last_or [] last.conditions) (t ∷ []) in
      rw (e, length-on_last (with_test t) rules, condition_count_test t rules, length-on_last more last.conditions, last_or-on_last more [] last.conditions h, l)

  pub places-bare : (n : ℕ) (w : List ℕ) → length rules < 32 → rule_noted (places_of rules) (standing rules) (rules_size rules) ≡ places_of (rules ++ bare n w ∷ [])
  unfolding rule_noted places_of standing
  places-bare n w h =
      let p : set (padded 32 (rule_places 0 rules)) (length rules) (rules_size rules) ≡ padded 32 (rule_places 0 (rules ++ bare n w ∷ [])) =
      padded-set 32 (length rules) (rules_size rules) (rule_places 0 rules) (sym (length-rule_places 0 rules)) h
      ∙ ap (padded 32) (rw (← zero-add (rules_size rules)) (sym (rule_places-bare 0 rules n w))) in
      let q : padded 32 (counts rules) ≡ padded 32 (counts (rules ++ bare n w ∷ [])) =
      sym (ap (padded 32) (counts-bare rules n w) ∙ padded_zero 32 (counts rules) (omega (arith, length-counts rules))) in
      rw (lt-leb 32 (length rules) h, p, q, condition_places-bare 0 rules n w)

  pub places_condition : 1 ≤ length rules → length rules ≤ 32 → length (last_or no_rule rules).conditions < 6 → condition_count rules < 192
      → condition_noted (places_of rules) (standing rules) (rules_size rules) ≡ places_of (on_last with_condition rules)
  unfolding condition_noted places_of standing
  places_condition h h32 h6 h192 =
      let last = last_or no_rule rules in
      let p : set (padded 32 (counts rules)) (length rules - 1) (length last.conditions + 1) ≡ padded 32 (counts (on_last with_condition rules)) =
      padded_change 32 (length rules - 1) (length last.conditions + 1) (counts rules) (omega (arith, length-counts rules))
      ∙ ap (padded 32) (sym (map-on_last (λ r. length r.conditions) with_condition no_rule rules h ∙ ap (set (counts rules) (length rules - 1)) (length-with_condition last))) in
      let q : set (padded 192 (condition_places 0 rules)) (condition_count rules) (rules_size rules + 1) ≡ padded 192 (condition_places 0 (on_last with_condition rules)) =
      padded-set 192 (condition_count rules) (rules_size rules + 1) (condition_places 0 rules) (sym (length-condition_places 0 rules)) h192
      ∙ ap (padded 192) (rw (← zero-add (rules_size rules)) (sym (condition_places_condition 0 rules h))) in
      simp (ne_eqb (length rules) 0 (λ (e : length rules ≡ 0). omega arith), le-ltb 32 (length rules) h32, lt-leb 6 (length last.conditions) h6, lt-leb 192 (condition_count rules) h192, p, q, rule_places-on_last with_condition 0 rules)

  pub places_test : (t : Test) → places_of rules ≡ places_of (on_last (with_test t) rules)
  unfolding places_of
  places_test t = simp (rule_places-on_last (with_test t) 0 rules, map-on_last-same (λ (r : Rule). length r.conditions) (with_test t) (length-with_test t) rules, condition_places_test t 0 rules)
