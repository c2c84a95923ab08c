-- A rule's record: it stands whole within the book, and its number and wording are those of the bytes behind its kind.
-- Assumes nothing.
use Prim.Native.Nat.{ℕ, ◌+◌, ◌≤◌}
use mathlib.Core.Path.{◌≡◌, refl, sym, ap, ◌∙◌}
use mathlib.Core.List.{List}
use mathlib.Core.Bool.{Bool, true, false, cond}
use native.Mathlib.Nat.{add-zero}
use native.Mathlib.Omega.{arith}
use borrow.Author.Tests.{le-leb, leb-true}
use lib.Dec.{leb, eqb}
use lib.ListN.{length, take, drop, get_or, length-drop}
use lib.Seq.{drop-drop, length-take-le}
use Rattle.std.specs.Prelude.{Result, Ok, Err}
use Rattle.numbers.specs.BigEndian.{uint}
use Rattle.numbers.proofs.BigEndian.{uint-drop}
use Rattle.book.specs.declared.record.Record.{Record}
use Rattle.book.specs.declared.record.Record.TheVariants.{Rule, Condition, Test, End}
use Rattle.book.specs.declared.refusal.Refusal.{Refusal}
use Rattle.book.specs.Record.{whole, rule_body, constant_body, position_body, gap_body, by_kind, record_at}
use Rattle.book.specs.Judgement.{wording_of}

-- of a record that is a rule: its body is all there, and its number stands first in it
abbrev RuleOf : List ℕ → Result Record Refusal → Type 0
RuleOf body (Ok (Rule n)) = (26 ≤ length body) × (n ≡ uint 2 body 0)
RuleOf body (Ok Condition) = Unit {0}
RuleOf body (Ok (Test t)) = Unit {0}
RuleOf body (Ok End) = Unit {0}
RuleOf body (Err e) = Unit {0}

rule_cond : (body : List ℕ) (b : Bool) (r s : Result Record Refusal) → (b ≡ true → RuleOf body r) → RuleOf body s → RuleOf body (cond b r s)
rule_cond body true r s p q = p refl
rule_cond body false r s p q = q

rule-by_kind : (kind : ℕ) (body : List ℕ) (at : ℕ) → RuleOf body (by_kind kind body at)
unfolding by_kind rule_body constant_body position_body gap_body whole
rule-by_kind kind body at =
    rule_cond body (eqb kind 1) _ _ (λ k. rule_cond body (leb 26 (length body)) _ _ (λ t. (leb-true 26 (length body) t, refl)) tt)
    (rule_cond body (eqb kind 2) _ _ (λ k. tt)
    (rule_cond body (eqb kind 3) _ _ (λ k. rule_cond body (leb 6 (length body)) _ _ (λ t. tt) tt)
    (rule_cond body (eqb kind 4) _ _ (λ k. rule_cond body (leb 4 (length body)) _ _ (λ t. tt) tt)
    (rule_cond body (eqb kind 5) _ _ (λ k. rule_cond body (leb 19 (length body)) _ _ (λ t. tt) tt)
    (rule_cond body (eqb kind 9) _ _ (λ k. tt) tt)))))

rule-record_at : (book : List ℕ) (at : ℕ) → RuleOf (drop (at + 1) book) (record_at book at)
unfolding record_at
rule-record_at book at =
    rule_cond (drop (at + 1) book) (leb (length book) at) _ _ (λ t. tt) (rule-by_kind (get_or book at 0) (drop (at + 1) book) at)

module _ (book : List ℕ) (at number : ℕ) (e : record_at book at ≡ Ok (Rule number)) where
  body : RuleOf (drop (at + 1) book) (Ok (Rule number))
  body = rw e at (rule-record_at book at)

  pub rule-within : at + 27 ≤ length book
  rule-within = omega (arith, body.0, length-drop (at + 1) book)

  pub rule-number : uint 2 book (at + 1) ≡ number
  rule-number = ap (uint 2 book) (sym (add-zero (at + 1))) ∙ sym (uint-drop 2 (at + 1) book 0) ∙ sym body.1

  pub rule-wording : wording_of (drop (at + 1) book) ≡ take 24 (drop (at + 3) book)
  unfolding wording_of
  rule-wording =
      let three : at + 1 + 2 ≡ at + 3 = omega arith in
      rw (le-leb 26 (length (drop (at + 1) book)) body.0, drop-drop 2 (at + 1) book, three)

  pub rule-wording-length : length (wording_of (drop (at + 1) book)) ≡ 24
  rule-wording-length = rw rule-wording (length-take-le 24 (drop (at + 3) book) (omega (arith, rule-within, length-drop (at + 3) book)))
