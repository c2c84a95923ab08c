-- A record that was taken apart stands in the book as the bytes of its value.
-- Assumes nothing.
use Prim.Native.Nat.{ℕ, suc, ◌+◌, ◌≤◌, ◌<◌}
use mathlib.Core.Path.{◌≡◌, refl, sym, ap, ◌∙◌}
use mathlib.Core.Bool.{Bool, true, false, cond}
use mathlib.Core.List.{List, [], ◌∷◌, ◌++◌, append_assoc}
use native.Mathlib.Numerals.{add-one}
use native.Mathlib.Omega.{arith}
use borrow.Author.Tests.{le-leb, leb-true, leb-false, eqb-true}
use lib.Dec.{leb, eqb}
use lib.ListN.{length, take, drop, get_or, take-append-drop}
use lib.Seq.{drop-cons, drop-drop, get_or-drop}
use Rattle.std.specs.Prelude.{Result, Ok, Err}
use Rattle.numbers.specs.BigEndian.{uint, bytes}
use Rattle.numbers.specs.Signed.{signed}
use Rattle.numbers.proofs.BigEndian.{uint-below}
use Rattle.book.specs.declared.record.Record.{Record}
use Rattle.book.specs.declared.record.Record.TheVariants.{Rule, Condition, Test, End}
use Rattle.book.specs.declared.record.Test.TheVariants.{Constant, Position, Gap}
use Rattle.book.specs.declared.refusal.Refusal.{Refusal}
use Rattle.book.specs.Record.{whole, rule_body, constant_body, position_body, gap_body, by_kind, record_at, test_size, size_of}
use Rattle.book.specs.Judgement.{wording_of}
use Rattle.writer.specs.Fields.{bits}
use Rattle.writer.specs.Bytes.{test_bytes, record_bytes}
use Rattle.writer.proofs.Numbers.{bytes-uint, bits-signed}

-- each number of the list is a byte
abbrev pub AllBytes : List ℕ → Type 0
AllBytes b = (k : ℕ) → get_or b k 0 < 256

pub bytes_drop : (n : ℕ) (b : List ℕ) → AllBytes b → AllBytes (drop n b)
bytes_drop n b h k = rw (get_or-drop n b k 0) (h (n + k))

-- kind and body are the bytes of the record, where it is one, and what stands behind it
abbrev Faithful : ℕ → List ℕ → Result Record Refusal → Type 0
Faithful kind body (Ok r) = (n : ℕ) → size_of r ≡ suc n → kind ∷ body ≡ record_bytes r (wording_of body) ++ drop n body
Faithful kind body (Err e) = Unit {0}

faithful_cond : (kind : ℕ) (body : List ℕ) (b : Bool) (r s : Result Record Refusal) → (b ≡ true → Faithful kind body r) → (b ≡ false → Faithful kind body s) → Faithful kind body (cond b r s)
faithful_cond kind body true r s p q = p refl
faithful_cond kind body false r s p q = q refl

faithful_whole : (kind : ℕ) (body : List ℕ) (size at : ℕ) (r : Record) → (size ≤ length body → Faithful kind body (Ok r)) → Faithful kind body (whole size at body r)
unfolding whole
faithful_whole kind body size at r p =
    faithful_cond kind body (leb size (length body)) (Ok r) _ (λ (t : leb size (length body) ≡ true). p (leb-true size (length body) t)) (λ f. tt)

-- the first numbers of a body
first : (b : List ℕ) (i : ℕ) → i < length b → drop i b ≡ get_or b i 0 ∷ drop (i + 1) b
first b i h = rw (add-one i) (drop-cons b i 0 h)

module _ (body : List ℕ) (byte : AllBytes body) where
  faithful_rule : 26 ≤ length body → Faithful 1 body (Ok (Rule (uint 2 body 0)))
  unfolding size_of record_bytes wording_of
  faithful_rule h n e =
      let m : n ≡ 26 = omega (arith, e) in
      let w : wording_of body ≡ take 24 (drop 2 body) = simp (le-leb 26 (length body) h) in
      let rest : drop 2 body ≡ take 24 (drop 2 body) ++ drop 26 body =
      sym (take-append-drop 24 (drop 2 body)) ∙ ap (λ (l : List ℕ). take 24 (drop 2 body) ++ l) (drop-drop 24 2 body) in
      rw (m, w) (ap (λ (l : List ℕ). 1 ∷ l) (
      bytes-uint 2 body 0 byte (omega arith)
      ∙ ap (λ (l : List ℕ). bytes 2 (uint 2 body 0) ++ l) rest
      ∙ sym (append_assoc (bytes 2 (uint 2 body 0)) (take 24 (drop 2 body)) (drop 26 body))
      ))

  faithful_constant : 6 ≤ length body → Faithful 3 body (Ok (Test (Constant (get_or body 0 0) (get_or body 1 0) (uint 4 body 2))))
  unfolding size_of test_size record_bytes test_bytes
  faithful_constant h n e =
      let m : n ≡ 6 = omega (arith, e) in
      rw m (ap (λ (l : List ℕ). 3 ∷ l) (
      first body 0 (omega arith)
      ∙ ap (λ (l : List ℕ). get_or body 0 0 ∷ l) (first body 1 (omega arith) ∙ ap (λ (l : List ℕ). get_or body 1 0 ∷ l) (bytes-uint 4 body 2 byte h))
      ))

  faithful_position : 4 ≤ length body → Faithful 4 body (Ok (Test (Position (get_or body 0 0) (get_or body 1 0) (get_or body 2 0) (get_or body 3 0))))
  unfolding size_of test_size record_bytes test_bytes
  faithful_position h n e =
      let m : n ≡ 4 = omega (arith, e) in
      rw m (ap (λ (l : List ℕ). 4 ∷ l) (
      first body 0 (omega arith)
      ∙ ap (λ (l : List ℕ). get_or body 0 0 ∷ l) (first body 1 (omega arith)
      ∙ ap (λ (l : List ℕ). get_or body 1 0 ∷ l) (first body 2 (omega arith)
      ∙ ap (λ (l : List ℕ). get_or body 2 0 ∷ l) (first body 3 (omega arith))))
      ))

  faithful_gap : 19 ≤ length body → Faithful 5 body (Ok (Test (Gap (get_or body 0 0) (get_or body 1 0) (get_or body 2 0) (signed (uint 8 body 3)) (signed (uint 8 body 11)))))
  unfolding size_of test_size record_bytes test_bytes
  faithful_gap h n e =
      let m : n ≡ 19 = omega (arith, e) in
      let low : bits (signed (uint 8 body 3)) ≡ uint 8 body 3 = bits-signed (uint 8 body 3) (uint-below 8 body 3 byte) in
      let high : bits (signed (uint 8 body 11)) ≡ uint 8 body 11 = bits-signed (uint 8 body 11) (uint-below 8 body 11 byte) in
      let rest : drop 3 body ≡ (bytes 8 (uint 8 body 3) ++ bytes 8 (uint 8 body 11)) ++ drop 19 body =
      bytes-uint 8 body 3 byte (omega arith)
      ∙ ap (λ (l : List ℕ). bytes 8 (uint 8 body 3) ++ l) (bytes-uint 8 body 11 byte h)
      ∙ sym (append_assoc (bytes 8 (uint 8 body 3)) (bytes 8 (uint 8 body 11)) (drop 19 body)) in
      rw (m, low, high) (ap (λ (l : List ℕ). 5 ∷ l) (
      first body 0 (omega arith)
      ∙ ap (λ (l : List ℕ). get_or body 0 0 ∷ l) (first body 1 (omega arith)
      ∙ ap (λ (l : List ℕ). get_or body 1 0 ∷ l) (first body 2 (omega arith)
      ∙ ap (λ (l : List ℕ). get_or body 2 0 ∷ l) rest))
      ))

  faithful_bare : (kind : ℕ) (r : Record) → size_of r ≡ 1 → record_bytes r (wording_of body) ≡ kind ∷ [] → Faithful kind body (Ok r)
  faithful_bare kind r s w n e =
      let m : n ≡ 0 = omega (arith, e) in
      rw (m, w)

  faithful_by_kind : (kind at : ℕ) → Faithful kind body (by_kind kind body at)
  unfolding by_kind rule_body constant_body position_body gap_body size_of record_bytes
  faithful_by_kind kind at =
      faithful_cond kind body (eqb kind 1) _ _ (λ (t : eqb kind 1 ≡ true). rw (eqb-true kind 1 t) (faithful_whole 1 body 26 at _ faithful_rule)) (λ f1.
      faithful_cond kind body (eqb kind 2) _ _ (λ (t : eqb kind 2 ≡ true). rw (eqb-true kind 2 t) (faithful_bare 2 Condition refl refl)) (λ f2.
      faithful_cond kind body (eqb kind 3) _ _ (λ (t : eqb kind 3 ≡ true). rw (eqb-true kind 3 t) (faithful_whole 3 body 6 at _ faithful_constant)) (λ f3.
      faithful_cond kind body (eqb kind 4) _ _ (λ (t : eqb kind 4 ≡ true). rw (eqb-true kind 4 t) (faithful_whole 4 body 4 at _ faithful_position)) (λ f4.
      faithful_cond kind body (eqb kind 5) _ _ (λ (t : eqb kind 5 ≡ true). rw (eqb-true kind 5 t) (faithful_whole 5 body 19 at _ faithful_gap)) (λ f5.
      faithful_cond kind body (eqb kind 9) _ _ (λ (t : eqb kind 9 ≡ true). rw (eqb-true kind 9 t) (faithful_bare 9 End refl refl)) (λ f9. tt))))))

pub record_at-bytes : (book : List ℕ) → AllBytes book → (at n : ℕ) (r : Record) → record_at book at ≡ Ok r → size_of r ≡ suc n
    → drop at book ≡ record_bytes r (wording_of (drop (at + 1) book)) ++ drop (at + suc n) book
unfolding record_at
record_at-bytes book byte at n r e s = by (leb (length book) at) refl where
  by : (b : Bool) → leb (length book) at ≡ b → drop at book ≡ record_bytes r (wording_of (drop (at + 1) book)) ++ drop (at + suc n) book
  by true t = let z : ◌≡◌ {A = Result Record Refusal} (Err _) (Ok r) = rw t at e in cc
  by false t =
      let body : List ℕ = drop (at + 1) book in
      let k : by_kind (get_or book at 0) body at ≡ Ok r = rw t at e in
      let f : Faithful (get_or book at 0) body (Ok r) = rw k at (faithful_by_kind body (bytes_drop (at + 1) book byte) (get_or book at 0) at) in
      let next : at + 1 + n ≡ at + suc n = omega arith in
      first book at (leb-false (length book) at t) ∙ f n s ∙ ap (λ (l : List ℕ). record_bytes r (wording_of body) ++ l) (drop-drop n (at + 1) book ∙ ap (λ (m : ℕ). drop m book) next)
