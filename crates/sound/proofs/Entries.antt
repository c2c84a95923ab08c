-- A list known entry by entry, from a first number on: so are the two parts of which it is put together. Assumes nothing.
use Prim.Native.Nat.{ℕ, zero, suc, ◌+◌, ◌-◌, ◌≤◌, ◌<◌}
use mathlib.Core.Path.{◌≡◌, refl, sym, ap, ◌∙◌}
use mathlib.Core.List.{List, [], ◌∷◌, ◌++◌, map}
use mathlib.Core.Logic.{⊎_elim}
use native.Mathlib.Nat.{zero-add}
use native.Mathlib.Omega.{arith}
use lib.ListN.{length, get_or, length-append, length-map, get_or-append}
use lib.Seq.{ext_get_or, get_or-append-add}
use Rattle.room.specs.Parts.{below}
use Rattle.room.proofs.Order.{length-below, get_or-below}
use Rattle.weave.proofs.Grown.{le_or_lt}

pub get_d_map : {A B : Type 0} (f : A → B) (l : List A) (k : ℕ) (d : A) (e : B) → k < length l → get_or (map f l) k e ≡ f (get_or l k d)
get_d_map f [] k d e h = absurd (omega arith)
get_d_map f (a ∷ l) zero d e h = refl
get_d_map f (a ∷ l) (suc k) d e h = get_d_map f l k d e (omega arith)

module _ {A : Type 0} (d : A) where
  -- f gives the entries of l, the first being number c
  abbrev pub Entries : (ℕ → A) → ℕ → List A → Type 0
  Entries f c l = (n : ℕ) → n < length l → f (c + n) ≡ get_or l n d

  module _ (f : ℕ → A) (c : ℕ) (a b : List A) (h : Entries f c (a ++ b)) where
    pub entries_left : Entries f c a
    entries_left j l = h j (omega (arith, length-append a b)) ∙ get_or-append a b d j l

    pub entries_right : Entries f (c + length a) b
    entries_right n l =
        let e : c + length a + n ≡ c + (length a + n) = omega arith in
        ap f e ∙ h (length a + n) (omega (arith, length-append a b)) ∙ get_or-append-add a b n d

  pub entries-append : (f : ℕ → A) (c : ℕ) (a b : List A) → Entries f c a → Entries f (c + length a) b → Entries f c (a ++ b)
  entries-append f c a b h k n l = ⊎_elim
      (λ (m : length a ≤ n).
      let e : c + n ≡ c + length a + (n - length a) = omega arith in
      let i : n ≡ length a + (n - length a) = omega arith in
      ap f e ∙ k (n - length a) (omega (arith, length-append a b)) ∙ sym (ap (λ (x : ℕ). get_or (a ++ b) x d) i ∙ get_or-append-add a b (n - length a) d))
      (λ (m : n < length a). h n m ∙ sym (get_or-append a b d n m))
      (le_or_lt (length a) n)

  -- of numbers that are known themselves
  pub entries-map : (g : ℕ → ℕ) (f : ℕ → A) (xs : List ℕ) (l : List A) → ((k : ℕ) → k < length xs → get_or xs k 0 ≡ g k) → map f xs ≡ l → Entries (λ k. f (g k)) 0 l
  entries-map g f xs l h e n b =
      let long : n < length xs = omega (arith, ap length e, length-map xs f) in
      rw (zero-add, ← e, get_d_map f xs n 0 d long, h n long)

  pub map-entries : (f : ℕ → A) (l : List A) → Entries f 0 l → map f (below (length l)) ≡ l
  map-entries f l h =
      let same : length (map f (below (length l))) ≡ length l = length-map (below (length l)) f ∙ length-below (length l) in
      ext_get_or d (map f (below (length l))) l same
      (λ i b.
      let there : i < length l = omega arith in
      let long : i < length (below (length l)) = rw (length-below (length l)) there in
      let start : 0 + i ≡ i = omega arith in
      get_d_map f (below (length l)) i 0 d long ∙ ap f (get_or-below (length l) i there ∙ sym start) ∙ h i there)
