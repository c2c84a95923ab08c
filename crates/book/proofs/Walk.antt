-- The walk over a book's records: what every record that is taken carries on holds of the rules of an accepted book.
-- Assumes nothing.
use Prim.Native.Nat.{ℕ, zero, suc, ◌+◌, ◌≤◌}
use mathlib.Core.Path.{◌≡◌, refl}
use mathlib.Core.List.{List, []}
use mathlib.Core.Bool.{Bool, true, false}
use borrow.Author.Tests.{eqb-true, ltb-false}
use lib.Dec.{eqb, ltb}
use lib.ListN.{length, drop}
use Rattle.std.specs.Prelude.{Result, Ok, Err}
use Rattle.book.specs.declared.record.Record.{Record}
use Rattle.book.specs.declared.record.Record.TheVariants as r
use Rattle.book.specs.declared.record.Test.{Test}
use Rattle.book.specs.declared.refusal.Refusal.{Refusal}
use Rattle.book.specs.Record.{record_at, test_size, size_of}
use Rattle.book.specs.Judgement.{Judged, taken, rule_judged, condition_judged, test_judged, end_judged, judged}
use Rattle.book.specs.Rules.{Rule, standing, with_condition, with_test, on_last}
use Rattle.book.specs.Read.{BookRead, accepted, refused, unless, grown, bytes_of, ended, turn, walk, read_book}

never : (e : Refusal) (rules : List Rule) {A : Type 0} → refused e ≡ accepted rules → A
never e rules h = cc

unless-accepted : (judgement : Judged) (place : ℕ) (on : BookRead) (rules : List Rule) → unless judgement place on ≡ accepted rules → (judgement ≡ taken) × (on ≡ accepted rules)
unfolding unless
unless-accepted (Ok u) place on rules e = (refl, e)
unless-accepted (Err cause) place on rules e = never _ rules e

ended-accepted : (book : List ℕ) (next : ℕ) (rules final : List Rule) → ended book next rules ≡ accepted final → (next ≡ length book) × (rules ≡ final)
unfolding ended
ended-accepted book next rules final e = by (eqb next (length book)) refl where
  by : (b : Bool) → eqb next (length book) ≡ b → (next ≡ length book) × (rules ≡ final)
  by true t = let g : accepted rules ≡ accepted final = rw t at e in (eqb-true next (length book) t, cc)
  by false t = never _ final (rw t at e)

-- what holds of the rules read before `at` holds with one record more
pub record Carried (book : List ℕ) (Holds : ℕ → List Rule → Type 0) : Type 0 where
  pub rule : (at number : ℕ) (rules : List Rule) → record_at book at ≡ Ok (r.Rule number) → rule_judged (standing rules) number (drop (at + 1) book) ≡ taken
      → Holds at rules → Holds (at + 27) (grown rules (r.Rule number) (drop (at + 1) book))
  pub condition : (at : ℕ) (rules : List Rule) → record_at book at ≡ Ok r.Condition → condition_judged (standing rules) ≡ taken
      → Holds at rules → Holds (at + 1) (on_last with_condition rules)
  pub test : (at : ℕ) (t : Test) (rules : List Rule) → record_at book at ≡ Ok (r.Test t) → test_judged (standing rules) t ≡ taken
      → Holds at rules → Holds (at + test_size t) (on_last (with_test t) rules)

-- and where the walk ends: at the end record, which the last byte is
pub record Ended (book : List ℕ) (Holds : ℕ → List Rule → Type 0) (rules : List Rule) : Type 0 where
  pub at : ℕ
  pub holds : Holds at rules
  pub end : record_at book at ≡ Ok r.End
  pub taken : end_judged (standing rules) ≡ taken
  pub last : at + 1 ≡ length book

module _ (book : List ℕ) (Holds : ℕ → List Rule → Type 0) (carried : Carried book Holds) (final : List Rule) where
  turn-ends : (at : ℕ) (rules : List Rule) (rec : Result Record Refusal) (on : ℕ → List Rule → BookRead)
      → ((next : ℕ) (more : List Rule) → on next more ≡ accepted final → Holds next more → Ended book Holds final)
      → record_at book at ≡ rec → turn book at rules rec (on (at + bytes_of rec)) ≡ accepted final → Holds at rules → Ended book Holds final
  unfolding turn judged grown bytes_of size_of
  turn-ends at rules (Ok (r.Rule number)) on go e w h =
      let p = unless-accepted _ at _ final w in
      go (at + 27) _ p.1 (carried.rule at number rules e p.0 h)
  turn-ends at rules (Ok r.Condition) on go e w h =
      let p = unless-accepted _ at _ final w in
      go (at + 1) _ p.1 (carried.condition at rules e p.0 h)
  turn-ends at rules (Ok (r.Test t)) on go e w h =
      let p = unless-accepted _ at _ final w in
      go (at + test_size t) _ p.1 (carried.test at t rules e p.0 h)
  turn-ends at rules (Ok r.End) on go e w h =
      let p = unless-accepted _ at _ final w in
      let q = ended-accepted book (at + 1) rules final p.1 in
      record { at = at; holds = rw q.1 at h; end = e; taken = rw q.1 at p.0; last = q.0 }
  turn-ends at rules (Err refusal) on go e w h = never refusal final w

  pub walk_ends : (most at : ℕ) (rules : List Rule) → walk most book at rules ≡ accepted final → Holds at rules → Ended book Holds final
  unfolding walk
  walk_ends zero at rules e h = never _ final e
  walk_ends (suc most) at rules e h =
      turn-ends at rules (record_at book at) (λ next more. walk most book next more) (λ next more w k. walk_ends most next more w k) refl e h

  pub read-ends : read_book book ≡ accepted final → Holds 0 [] → (length book ≤ 8192) × Ended book Holds final
  unfolding read_book
  read-ends e h = by (ltb 8192 (length book)) refl where
    by : (b : Bool) → ltb 8192 (length book) ≡ b → (length book ≤ 8192) × Ended book Holds final
    by true t = never _ final (rw t at e)
    by false t = (ltb-false 8192 (length book) t, walk_ends (length book + 1) 0 [] (rw t at e) h)
