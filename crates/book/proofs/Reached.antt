-- How far a reading has come: the rules read so far, in the code's numbers and arrays, and what is left of the definition's walk. Assumes nothing.
use Prim.Native.Nat.{ℕ, suc, ◌+◌, ◌-◌, ◌*◌, ◌≤◌, ◌<◌}
use mathlib.Core.Path.{◌≡◌, refl, sym, ap, ◌∙◌}
use mathlib.Core.Bool.{Bool, true, false, cond}
use mathlib.Core.List.{List, [], ◌∷◌, ◌++◌}
use native.Mathlib.Numerals.{add-one}
use native.Mathlib.Omega.{arith}
use borrow.Author.Tests.{le-ltb, lt-ltb}
use lib.Dec.{eqb}
use lib.ListN.{length, drop}
use Rattle.std.specs.Prelude.{Result, Ok, Err}
use Rattle.book.specs.declared.judgement.Standing.{Standing}
use Rattle.book.specs.declared.reader.BookSize.{BookSize}
use Rattle.book.specs.declared.reader.Found.{Found}
use Rattle.book.specs.declared.reader.Places.{Places}
use Rattle.book.specs.declared.reader.Step.{Step}
use Rattle.book.specs.declared.reader.Step.TheVariants.{On, Done}
use Rattle.book.specs.declared.record.Record.{Record}
use Rattle.book.specs.declared.record.Record.TheVariants as r
use Rattle.book.specs.declared.record.Test.{Test}
use Rattle.book.specs.declared.refusal.Cause.TheVariants.{BookTooLong, Misplaced}
use Rattle.book.specs.declared.refusal.Refusal.{Refusal}
use Rattle.book.specs.Refusals.{refusal}
use Rattle.book.specs.Record.{record_at, test_size, size_of}
use Rattle.book.specs.Judgement.{Judged, taken, judged, wording_of, after, Within}
use Rattle.book.specs.Rules.{Rule, last_or, on_last, no_rule, with_condition, with_test, standing, tests_size, conditions_size, rules_size, places_of, padded, rule_places, condition_places, condition_count}
use Rattle.book.specs.Read.{BookRead, accepted, refuse, unless, grown, bytes_of, ended, turn, walk, read_book, sized, placed_of}
use Rattle.book.specs.Steps.{over_if, end_of, done, step_by, step_of, rule_noted, condition_noted, noted, no_places}
use Rattle.book.proofs.Growth.{bare, standing-bare, standing_condition, standing_test, places-bare, places_condition, places_test}
use Rattle.book.proofs.Laid.{tests_sums, conditions_sums, rules_sums, total-append, total-on_last}
use Rattle.book.proofs.Judged.{standing-some, RuleTaken, ConditionTaken, TestTaken, rule-taken, condition_taken, test_taken}
use Rattle.book.proofs.RecordLaws.{record_within}

-- the limits kept so far; the conditions of all rules are at most six for each rule before the last and those of the last
pub record Bounded (s : Standing) : Type 0 where
  pub rules : s.rules ≤ 32
  pub conditions : s.conditions ≤ 6
  pub tests : s.tests ≤ 8
  pub total : s.total ≤ 6 * s.rules
  pub last : s.total + 6 ≤ 6 * s.rules + s.conditions + 6 * (1 - s.rules)

pub record Reached (book : List ℕ) (at : ℕ) (s : Standing) (p : Places) : Type 0 where
  pub rules : List Rule
  pub most : ℕ
  pub far : length book ≤ at + most
  pub stands : s ≡ standing rules
  pub places : p ≡ places_of rules
  pub sized : at ≡ rules_size rules
  pub kept : Bounded s
  pub reads : read_book book ≡ walk (suc most) book at rules

-- ---- the walk goes with the step

walk_turn : (most : ℕ) (book : List ℕ) (at : ℕ) (rules : List Rule) (rec : Result Record Refusal) → record_at book at ≡ rec
    → walk (suc most) book at rules ≡ turn book at rules rec (λ rules'. walk most book (at + bytes_of rec) rules')
unfolding walk
walk_turn most book at rules rec e = rw e

unless_taken : (judgement : Judged) (place : ℕ) (on : BookRead) → judgement ≡ taken → unless judgement place on ≡ on
unfolding unless
unless_taken judgement place on e = rw e

module _ (book : List ℕ) (at : ℕ) (s : Standing) (p : Places) (reached : Reached book at s p) where
  -- one record more, of n bytes
  advance : (rec : Record) (n : ℕ) → record_at book at ≡ Ok rec → n ≡ size_of rec → (rules' : List Rule) → walk (suc reached.most) book at reached.rules ≡ walk reached.most book (at + n) rules'
      → (s' : Standing) (p' : Places) → s' ≡ standing rules' → p' ≡ places_of rules' → rules_size rules' ≡ rules_size reached.rules + n → Bounded s'
      → Reached book (at + n) s' p' × ((at < at + n) × (at + n ≤ length book))
  advance rec n e size rules' w s' p' es ep z k =
      let h : (1 ≤ n) × ((n ≤ 27) × (at + n ≤ length book)) = rw (← size) at (record_within book at rec e) in
      let m : reached.most ≡ suc (reached.most - 1) = omega (arith, reached.far) in (
        record {
          rules = rules';
          most = reached.most - 1;
          far = omega (arith, reached.far);
          stands = es;
          places = ep;
          sized = omega (arith, reached.sized);
          kept = k;
          reads = reached.reads ∙ w ∙ ap (λ (f : ℕ). walk f book (at + n) rules') m;
        },
        (omega arith, omega arith),
      )

  -- the reading has come behind this record
  abbrev pub Onward : Record → ℕ → Type 0
  Onward rec next = Reached book next (after s rec) (noted p s rec at) × ((at < next) × (next ≤ length book))

  -- the judgement of the code's numbers is that of the rules
  same-judged : (rec : Record) → judged s rec (drop (at + 1) book) ≡ taken → judged (standing reached.rules) rec (drop (at + 1) book) ≡ taken
  same-judged rec j = rw (← reached.stands) j

  -- ---- a rule more

  walk-rule : (n : ℕ) → record_at book at ≡ Ok (r.Rule n) → judged (standing reached.rules) (r.Rule n) (drop (at + 1) book) ≡ taken
      → walk (suc reached.most) book at reached.rules ≡ walk reached.most book (at + 27) (reached.rules ++ bare n (wording_of (drop (at + 1) book)) ∷ [])
  unfolding turn grown bytes_of size_of
  walk-rule n e j = walk_turn reached.most book at reached.rules (Ok (r.Rule n)) e ∙ unless_taken _ at _ j

  note_rule : (n : ℕ) → noted p s (r.Rule n) at ≡ rule_noted (places_of reached.rules) (standing reached.rules) (rules_size reached.rules)
  unfolding noted
  note_rule n = rw (reached.stands, reached.places, reached.sized)

  kept_rule : (n : ℕ) → RuleTaken s n (drop (at + 1) book) → Bounded (after s (r.Rule n))
  unfolding after
  kept_rule n t =
      let k = reached.kept in
      record { rules = omega (arith, t.room); conditions = omega arith; tests = omega arith; total = omega (arith, k.total); last = omega (arith, k.total) }

  rule-on : (n : ℕ) → record_at book at ≡ Ok (r.Rule n) → judged s (r.Rule n) (drop (at + 1) book) ≡ taken → Onward (r.Rule n) (at + 27)
  unfolding judged standing size_of conditions_size tests_size
  rule-on n e j =
      let t = rule-taken s n (drop (at + 1) book) j in
      let w : List ℕ = wording_of (drop (at + 1) book) in
      let rules = reached.rules in
      let few : length rules < 32 = omega (arith, t.room, ap (λ (z : Standing). z.rules) reached.stands) in
      advance (r.Rule n) 27 e refl (rules ++ bare n w ∷ []) (walk-rule n e (same-judged (r.Rule n) j))
      (after s (r.Rule n)) (noted p s (r.Rule n) at)
      (ap (λ (z : Standing). after z (r.Rule n)) reached.stands ∙ sym (standing-bare rules n w))
      (note_rule n ∙ places-bare rules n w few)
      (total-append rules_sums rules (bare n w))
      (kept_rule n t)

  -- ---- a condition more

  walk_condition : record_at book at ≡ Ok r.Condition → judged (standing reached.rules) r.Condition (drop (at + 1) book) ≡ taken
      → walk (suc reached.most) book at reached.rules ≡ walk reached.most book (at + 1) (on_last with_condition reached.rules)
  unfolding turn grown bytes_of size_of
  walk_condition e j = walk_turn reached.most book at reached.rules (Ok r.Condition) e ∙ unless_taken _ at _ j

  note_condition : noted p s r.Condition at ≡ condition_noted (places_of reached.rules) (standing reached.rules) (rules_size reached.rules)
  unfolding noted
  note_condition = rw (reached.stands, reached.places, reached.sized)

  kept_condition : ConditionTaken s → Bounded (after s r.Condition)
  unfolding after
  kept_condition t =
      let k = reached.kept in
      record { rules = k.rules; conditions = omega (arith, t.room); tests = omega arith; total = omega (arith, k.last, t.room, t.under); last = omega (arith, k.last, t.under) }

  condition_on : record_at book at ≡ Ok r.Condition → judged s r.Condition (drop (at + 1) book) ≡ taken → Onward r.Condition (at + 1)
  unfolding judged standing size_of with_condition conditions_size tests_size
  condition_on e j =
      let t = condition_taken s j in
      let k = reached.kept in
      let rules = reached.rules in
      let es = reached.stands in
      let some : 1 ≤ length rules = omega (arith, t.under, ap (λ (z : Standing). z.rules) es) in
      let few : length rules ≤ 32 = omega (arith, k.rules, ap (λ (z : Standing). z.rules) es) in
      let room : length (last_or no_rule rules).conditions < 6 = omega (arith, t.room, ap (λ (z : Standing). z.conditions) es) in
      let all : condition_count rules < 192 = omega (arith, k.last, k.rules, t.room, t.under, ap (λ (z : Standing). z.total) es) in
      advance r.Condition 1 e refl (on_last with_condition rules) (walk_condition e (same-judged r.Condition j))
      (after s r.Condition) (noted p s r.Condition at)
      (ap (λ (z : Standing). after z r.Condition) es ∙ sym (standing_condition rules some))
      (note_condition ∙ places_condition rules some few room all)
      (total-on_last rules_sums with_condition 1 no_rule rules some (omega (arith, total-append conditions_sums (last_or no_rule rules).conditions [])))
      (kept_condition t)

  -- ---- a test more

  walk_test : (t : Test) → record_at book at ≡ Ok (r.Test t) → judged (standing reached.rules) (r.Test t) (drop (at + 1) book) ≡ taken
      → walk (suc reached.most) book at reached.rules ≡ walk reached.most book (at + test_size t) (on_last (with_test t) reached.rules)
  unfolding turn grown bytes_of size_of
  walk_test t e j = walk_turn reached.most book at reached.rules (Ok (r.Test t)) e ∙ unless_taken _ at _ j

  kept_test : (t : Test) → TestTaken s t → Bounded (after s (r.Test t))
  unfolding after
  kept_test t u =
      let k = reached.kept in
      record { rules = k.rules; conditions = k.conditions; tests = omega (arith, u.room); total = k.total; last = k.last }

  test_on : (t : Test) → record_at book at ≡ Ok (r.Test t) → judged s (r.Test t) (drop (at + 1) book) ≡ taken → Onward (r.Test t) (at + test_size t)
  unfolding judged standing size_of noted with_test
  test_on t e j =
      let u = test_taken s t j in
      let rules = reached.rules in
      let es = reached.stands in
      let conditions = (last_or no_rule rules).conditions in
      let some : 1 ≤ length (last_or no_rule rules).conditions = omega (arith, u.under, ap (λ (z : Standing). z.conditions) es) in
      advance (r.Test t) (test_size t) e refl (on_last (with_test t) rules) (walk_test t e (same-judged (r.Test t) j))
      (after s (r.Test t)) p
      (ap (λ (z : Standing). after z (r.Test t)) es ∙ sym (standing_test rules t some))
      (reached.places ∙ places_test rules t)
      (total-on_last rules_sums (with_test t) (test_size t) no_rule rules (standing-some rules some)
      (omega (arith, total-on_last conditions_sums (λ tests. tests ++ t ∷ []) (test_size t) [] conditions some (omega (arith, total-append tests_sums (last_or [] conditions) t)))))
      (kept_test t u)

  -- ---- what a step makes of the reading

  -- it has come behind a record more; or the step has the whole reading's answer
  abbrev Made : Result Step Refusal → BookRead → Type 0
  Made (Ok (On rec next)) read = Onward rec next
  Made (Ok (Done size)) read = ◌≡◌ {A = Result Found Refusal} (Ok (record { size = size; places = p })) (placed_of read)
  Made (Err e) read = ◌≡◌ {A = Result Found Refusal} (Err e) (placed_of read)

  made-over : (rec : Record) (on : Result Step Refusal) (after : BookRead) → (judged s rec (drop (at + 1) book) ≡ taken → Made on after)
      → Made (over_if (judged s rec (drop (at + 1) book)) at on) (unless (judged (standing reached.rules) rec (drop (at + 1) book)) at after)
  unfolding over_if unless placed_of
  made-over rec on after h = rw (← reached.stands) (by (judged s rec (drop (at + 1) book)) h) where
    by : (j : Judged) → (j ≡ taken → Made on after) → Made (over_if j at on) (unless j at after)
    by (Ok u) h = h refl
    by (Err cause) h = refl

  -- behind the end record
  made_ended : Made (done (end_of book (at + 1) s)) (ended book (at + 1) reached.rules)
  unfolding end_of ended standing done placed_of
  made_ended = by (eqb (at + 1) (length book)) where
    same : ◌≡◌ {A = BookSize} (record { rules = s.rules; conditions = s.total }) (sized reached.rules)
    same = ap (λ (z : Standing). record { rules = z.rules; conditions = z.total }) reached.stands

    by : (b : Bool) → Made (done (cond b (Ok (record { rules = s.rules; conditions = s.total })) (Err (refusal Misplaced (at + 1)))))
        (cond b (accepted reached.rules) (refuse Misplaced (at + 1)))
    by true = rw (same, ← reached.places)
    by false = refl

  made_by : (rec : Result Record Refusal) → record_at book at ≡ rec → Made (step_by book at s rec) (walk (suc reached.most) book at reached.rules)
  unfolding step_by turn size_of placed_of
  made_by (Err f) e = rw (walk_turn reached.most book at reached.rules (Err f) e)
  made_by (Ok r.End) e = rw (walk_turn reached.most book at reached.rules (Ok r.End) e) (made-over r.End _ _ (λ j. made_ended))
  made_by (Ok (r.Rule n)) e = rw (walk_turn reached.most book at reached.rules (Ok (r.Rule n)) e) (made-over (r.Rule n) _ _ (rule-on n e))
  made_by (Ok r.Condition) e = rw (walk_turn reached.most book at reached.rules (Ok r.Condition) e) (made-over r.Condition _ _ (condition_on e))
  made_by (Ok (r.Test t)) e = rw (walk_turn reached.most book at reached.rules (Ok (r.Test t)) e) (made-over (r.Test t) _ _ (test_on t e))

  made : Made (step_of book at s) (read_book book)
  unfolding step_of
  made = rw reached.reads (made_by (record_at book at) refl)

  -- where the step goes on, the reading has come as far as its record's end
  pub reached-on : (step : Step) (rec : Record) (next : ℕ) → Ok step ≡ step_of book at s → step ≡ On rec next → Onward rec next
  reached-on step rec next o e = let g : Ok (On rec next) ≡ step_of book at s = rw e at o in rw (← g) at made

  -- where it is done or refused, so is the reading
  pub reached-done : (step : Step) (size : BookSize) → Ok step ≡ step_of book at s → step ≡ Done size
      → ◌≡◌ {A = Result Found Refusal} (Ok (record { size = size; places = p })) (placed_of (read_book book))
  reached-done step size o e = let g : Ok (Done size) ≡ step_of book at s = rw e at o in rw (← g) at made

  pub reached-refused : (e : Refusal) → Err e ≡ step_of book at s → ◌≡◌ {A = Result Found Refusal} (Err e) (placed_of (read_book book))
  reached-refused e o = rw (← o) at made

-- ---- the start

pub reached-start : (book : List ℕ) → length book ≤ 8192 → (s : Standing) (p : Places) → s ≡ standing [] → p ≡ no_places → Reached book 0 s p
unfolding read_book standing places_of padded rule_places condition_places no_places rules_size condition_count last_or no_rule
reached-start book h s p es ep =
    record {
      rules = [];
      most = length book;
      far = omega arith;
      stands = es;
      places = ep;
      sized = refl;
      kept = rw es (record { rules = omega arith; conditions = omega arith; tests = omega arith; total = omega arith; last = omega arith });
      reads = rw (le-ltb 8192 (length book) h, add-one);
    }

pub bounded_within : (s : Standing) → Bounded s → Within s
bounded_within s k = record { rules = k.rules; conditions = k.conditions; tests = k.tests; total = omega (arith, k.total, k.rules) }

-- a book that is too long
pub read_too_long : (book : List ℕ) → 8192 < length book → ◌≡◌ {A = Result Found Refusal} (Err (refusal BookTooLong 0)) (placed_of (read_book book))
unfolding read_book placed_of
read_too_long book h = simp (lt-ltb 8192 (length book) h)
