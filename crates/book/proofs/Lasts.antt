-- A list's last element: what it is, and what a change of it leaves. Assumes nothing.
use Prim.Native.Nat.{suc, ◌-◌, ◌≤◌}
use mathlib.Core.Path.{◌≡◌, refl, ap}
use mathlib.Core.List.{List, [], ◌∷◌, ◌++◌, map}
use native.Mathlib.Omega.{arith}
use lib.ListN.{length, set}
use Rattle.book.specs.Rules.{last_or, on_last}

module _ {A : Type 0} where
  pub last_or_snoc : (d : A) (l : List A) (a : A) → last_or d (l ++ a ∷ []) ≡ a
  unfolding last_or
  last_or_snoc d [] a = refl
  last_or_snoc d (b ∷ l) a = last_or_snoc b l a

  pub length-on_last : (f : A → A) (l : List A) → length (on_last f l) ≡ length l
  unfolding on_last
  length-on_last f [] = refl
  length-on_last f (a ∷ []) = refl
  length-on_last f (a ∷ (b ∷ l)) = ap suc (length-on_last f (b ∷ l))

  pub last_or-on_last : (f : A → A) (d : A) (l : List A) → 1 ≤ length l → last_or d (on_last f l) ≡ f (last_or d l)
  unfolding last_or on_last
  last_or-on_last f d [] h = absurd (omega arith)
  last_or-on_last f d (a ∷ []) h = refl
  last_or-on_last f d (a ∷ (b ∷ l)) h = last_or-on_last f a (b ∷ l) (omega arith)

  -- what is read off each element but changes in the last alone
  pub map-on_last : {B : Type 0} (g : A → B) (f : A → A) (d : A) (l : List A) → 1 ≤ length l → map g (on_last f l) ≡ set (map g l) (length l - 1) (g (f (last_or d l)))
  unfolding last_or on_last
  map-on_last g f d [] h = absurd (omega arith)
  map-on_last g f d (a ∷ []) h = refl
  map-on_last {B} g f d (a ∷ (b ∷ l)) h =
      let e : suc (suc (length l)) - 1 ≡ suc (suc (length l) - 1) = omega arith in
      rw e (ap (λ (k : List B). g a ∷ k) (map-on_last g f a (b ∷ l) (omega arith)))

  -- what is read off each element and does not change
  pub map-on_last-same : {B : Type 0} (g : A → B) (f : A → A) → ((a : A) → g (f a) ≡ g a) → (l : List A) → map g (on_last f l) ≡ map g l
  unfolding on_last
  map-on_last-same g f same [] = refl
  map-on_last-same {B} g f same (a ∷ []) = ap (λ (b : B). b ∷ []) (same a)
  map-on_last-same {B} g f same (a ∷ (b ∷ l)) = ap (λ (k : List B). g a ∷ k) (map-on_last-same g f same (b ∷ l))
