-- A slot in use is told by its reading, because the readings ascend; so choosing slots and choosing their readings are the same. Assumes nothing.
use Prim.Native.Nat.{ℕ}
use mathlib.Core.Path.{◌≡◌, refl, sym, ap, ◌∙◌}
use mathlib.Core.Bool.{Bool, true, false, cond}
use mathlib.Core.Logic.{⊎_elim}
use mathlib.Core.List.{List, [], ◌∷◌, map, Memᴰ}
use Rattle.reading.specs.declared.Reading.{Reading}
use Rattle.reading.specs.Reading.{is_less}
use Rattle.matching.specs.Lists.{keep, concat_map}
use Rattle.matching.specs.Order.{Less, Sorted, first}
use Rattle.matching.proofs.Laws.Lists.{keep_yes, keep_not, keep-map, keep_ext}
use Rattle.matching.proofs.Laws.Members.{mem_keep}
use Rattle.matching.proofs.Laws.ReadingOrder.{is_less-order}
use Rattle.room.specs.Held.{sifted}
use Rattle.room.proofs.BrokenLaws.{agreed}

-- no two of the slots os have one reading
abbrev pub Distinct : (ℕ → Reading) → List ℕ → Type 0
Distinct read os = (s s' : ℕ) → Memᴰ s os → Memᴰ s' os → read s ≡ read s' → s ≡ s'

module _ (read : ℕ → Reading) where
  -- the first of ascending readings stands nowhere else
  alone : (x : ℕ) (os : List ℕ) → ((r : Reading) → Memᴰ r (map read os) → Less is_less (read x) r) → (s : ℕ) → Memᴰ s os → read x ≡ read s → ⊥
  alone x os h s m e = is_less-order.irreflexive (read x) (h (read x) (mathlib.Core.List.Memᴰ.cast e (mathlib.Core.List.Memᴰ.map read m)))

  pub read_injective : (os : List ℕ) → Sorted (Less is_less) (map read os) → Distinct read os
  read_injective [] up s s' m m' e = absurd (mathlib.Core.List.Memᴰ.not-nil m)
  read_injective (x ∷ os) (first h up) s s' m m' e = ⊎_elim
      (λ (i : s ≡ x). ⊎_elim (λ (j : s' ≡ x). i ∙ sym j) (λ j. absurd (alone x os h s' j (sym (ap read i) ∙ e))) (mathlib.Core.List.Memᴰ.cases_cons m'))
      (λ i. ⊎_elim (λ (j : s' ≡ x). absurd (alone x os h s i (sym (ap read j) ∙ sym e))) (λ j. read_injective os up s s' i j e) (mathlib.Core.List.Memᴰ.cases_cons m'))
      (mathlib.Core.List.Memᴰ.cases_cons m)

pub sifted-is : (p : ℕ → Bool) (os : List ℕ) → sifted p os ≡ keep p os
unfolding sifted keep concat_map
sifted-is p [] = refl
sifted-is p (s ∷ os) = by (p s) refl (sifted-is p os)
  where
    by : (b : Bool) → p s ≡ b → sifted p os ≡ keep p os → cond b (s ∷ sifted p os) (sifted p os) ≡ keep p (s ∷ os)
    by true e h = ap (λ (l : List ℕ). s ∷ l) h ∙ sym (keep_yes p s os e)
    by false e h = h ∙ sym (keep_not p s os e)

module _ (read : ℕ → Reading) (p : ℕ → Bool) (q : Reading → Bool) (os : List ℕ) where
  -- slots whose readings are those that q keeps are those of which q says so
  pub sifted-keep : Distinct read os → map read (sifted p os) ≡ keep q (map read os) → (s : ℕ) → Memᴰ s os → p s ≡ q (read s)
  sifted-keep told e s m =
      let same : map read (keep p os) ≡ keep q (map read os) = rw (sifted-is p os) at e in
      agreed (p s) (q (read s)) (
        λ t. ((mem_keep q {a = read s} (map read os)).0 (rw same at (mathlib.Core.List.Memᴰ.map read ((mem_keep p {a = s} os).1 (m, t))))).1,
        λ t.
            let there : Memᴰ (read s) (map read (keep p os)) = rw same ((mem_keep q {a = read s} (map read os)).1 (mathlib.Core.List.Memᴰ.map read m, t)) in
            let of = mathlib.Core.List.Memᴰ.of_map read (keep p os) there in
            let kept = (mem_keep p {a = of.0} os).0 of.1 in
            rw (told of.0 s kept.0 m of.2) at kept.1,
      )

  pub keep-sifted : ((s : ℕ) → Memᴰ s os → p s ≡ q (read s)) → map read (sifted p os) ≡ keep q (map read os)
  keep-sifted h = ap (map read) (sifted-is p os ∙ keep_ext p (λ s. q (read s)) os h) ∙ sym (keep-map q read os)
