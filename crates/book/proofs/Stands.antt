-- The rules of an accepted book stand in it, from its first byte to its end record, which is its last byte.
-- Assumes nothing.
use Prim.Native.Nat.{ℕ, ◌+◌, ◌≤◌, ◌<◌}
use mathlib.Core.Path.{◌≡◌, refl}
use mathlib.Core.List.{List, [], ◌∷◌, ◌++◌}
use native.Mathlib.Omega.{arith}
use lib.ListN.{length, drop}
use Rattle.std.specs.Prelude.{Ok}
use Rattle.book.specs.declared.record.Record.TheVariants as r
use Rattle.book.specs.declared.record.Test.{Test}
use Rattle.book.specs.Record.{record_at, test_size}
use Rattle.book.specs.Judgement.{wording_of}
use Rattle.book.specs.Rules.{Rule, no_rule, last_or, on_last, with_condition, with_test, standing, tests_size, conditions_size, rules_size}
use Rattle.book.specs.Read.{accepted, grown, walk, read_book}
use Rattle.book.specs.Stands.{ConditionStands, RuleStands, RulesStand, BookStands}
use Rattle.book.proofs.Judged.{standing-some, condition_taken, test_taken}
use Rattle.book.proofs.Laid.{tests_sums, conditions_sums, rules_sums, total-append, total-on_last, laid-append, laid-on_last}
use Rattle.book.proofs.Walk.{Carried, Ended, walk_ends, read-ends}

-- ---- one record more

module _ (book : List ℕ) where
  -- the rules read before `at`
  abbrev Before : ℕ → List Rule → Type 0
  Before at rules = RulesStand book 0 rules × (rules_size rules ≡ at)

  rule-more : (at number : ℕ) (rules : List Rule) → record_at book at ≡ Ok (r.Rule number) → Before at rules → Before (at + 27) (grown rules (r.Rule number) (drop (at + 1) book))
  unfolding grown conditions_size
  rule-more at number rules e h =
      let new : Rule = record { number = number; wording = wording_of (drop (at + 1) book); conditions = [] } in
      let here : 0 + rules_size rules ≡ at = omega arith in (
        laid-append rules_sums (RuleStands book) 0 rules new h.0 (rw here (record { begins = e; wording = refl; conditions = tt })),
        omega (arith, total-append rules_sums rules new),
      )

  condition_more : (at : ℕ) (rules : List Rule) → record_at book at ≡ Ok r.Condition → 0 < length rules → Before at rules → Before (at + 1) (on_last with_condition rules)
  unfolding with_condition tests_size
  condition_more at rules e some h =
      let last : List (List Test) = (last_or no_rule rules).conditions in (
        laid-on_last rules_sums (RuleStands book) with_condition no_rule 0 rules h.0 (λ p ends s.
            let here : p + 27 + conditions_size last ≡ at = omega (arith, ends) in
            record {
              begins = s.begins;
              wording = s.wording;
              conditions = laid-append conditions_sums (ConditionStands book) (p + 27) last [] s.conditions (rw here (record { begins = e; tests = tt }));
            }),
        omega (arith, total-on_last rules_sums with_condition 1 no_rule rules some (omega (arith, total-append conditions_sums last []))),
      )

  test_more : (at : ℕ) (t : Test) (rules : List Rule) → record_at book at ≡ Ok (r.Test t) → 0 < length (last_or no_rule rules).conditions → Before at rules → Before (at + test_size t) (on_last (with_test t) rules)
  unfolding with_test standing
  test_more at t rules e some h =
      let conditions : List (List Test) = (last_or no_rule rules).conditions in
      let last : List Test = last_or [] conditions in
      let put : List Test → List Test = λ tests. tests ++ t ∷ [] in (
        laid-on_last rules_sums (RuleStands book) (with_test t) no_rule 0 rules h.0 (λ p ends s.
            record {
              begins = s.begins;
              wording = s.wording;
              conditions = laid-on_last conditions_sums (ConditionStands book) put [] (p + 27) conditions s.conditions (λ q stops c.
                  let here : q + 1 + tests_size last ≡ at = omega (arith, ends, stops) in
                  record {
                    begins = c.begins;
                    tests = laid-append tests_sums _ (q + 1) last t c.tests (rw here e);
                  });
            }),
        omega (
          arith,
          total-on_last rules_sums (with_test t) (test_size t) no_rule rules (standing-some rules some)
              (omega (arith, total-on_last conditions_sums put (test_size t) [] conditions some (omega (arith, total-append tests_sums last t)))),
        ),
      )

  pub stands_carried : Carried book Before
  unfolding standing
  stands_carried =
      record {
        rule = λ at number rules e j. rule-more at number rules e;
        condition = λ at rules e j. condition_more at rules e (condition_taken (standing rules) j).under;
        test = λ at t rules e j. test_more at t rules e (test_taken (standing rules) t j).under;
      }

  -- ---- all records

  ended-stands : (final : List Rule) → Ended book Before final → BookStands book final
  ended-stands final w =
      let here : rules_size final ≡ w.at = w.holds.1 in
      record { stand = w.holds.0; end = rw here w.end; last = rw here w.last }

  pub walk-stands : (most at : ℕ) (rules final : List Rule) → walk most book at rules ≡ accepted final → RulesStand book 0 rules → rules_size rules ≡ at → BookStands book final
  walk-stands most at rules final e h s = ended-stands final (walk_ends book Before stands_carried final most at rules e (h, s))

  pub read-stands : (rules : List Rule) → read_book book ≡ accepted rules → BookStands book rules × (length book ≤ 8192)
  unfolding rules_size
  read-stands rules e =
      let w = read-ends book Before stands_carried rules e (tt, refl) in
      (ended-stands rules w.1, w.0)
