-- A node that is the j-th condition of its rule has level j, because the rules before it have as many conditions as its number is past. Assumes nothing.
use Prim.Native.Nat.{ℕ, ◌+◌, ◌-◌, ◌<◌}
use mathlib.Core.Path.{◌≡◌, ap, ◌∙◌}
use mathlib.Core.List.{List, ◌∷◌}
use native.Mathlib.Omega.{arith}
use borrow.Author.Tests.{lt-ltb, le-ltb}
use Rattle.room.specs.Held.{level}

-- `of` gives the levels of the conditions of rules with these numbers of conditions, the first being node c
abbrev pub Levelled : (ℕ → ℕ) → ℕ → List ℕ → Type 0
Levelled of c ks = (n : ℕ) → of (c + n) ≡ level ks n

pub levelled_all : (ks : List ℕ) → Levelled (level ks) 0 ks
levelled_all ks n = ap (level ks) (let e : 0 + n ≡ n = omega arith in e)

module _ (of : ℕ → ℕ) (c k : ℕ) (ks : List ℕ) (h : Levelled of c (k ∷ ks)) where
  pub levelled_here : (j : ℕ) → j < k → of (c + j) ≡ 0 + j
  unfolding level
  levelled_here j l = h j ∙ rw (lt-ltb j k l) (let e : j ≡ 0 + j = omega arith in e)

  pub levelled_past : Levelled of (c + k) ks
  unfolding level
  levelled_past n =
      let e : c + k + n ≡ c + (k + n) = omega arith in
      let d : k + n - k ≡ n = omega arith in
      ap of e ∙ h (k + n) ∙ rw (le-ltb (k + n) k (omega arith)) (ap (level ks) d)
