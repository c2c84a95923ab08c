-- The plain order, in which every slot stands at its own place: how long it is, which slot stands where, and that no slot stands there twice. Assumes nothing.
use Prim.Native.Nat.{ℕ, zero, suc, ◌+◌, ◌≤◌, ◌<◌}
use mathlib.Core.Path.{◌≡◌, refl, ◌∙◌}
use mathlib.Core.Bool.{Bool, true, false}
use mathlib.Core.List.{List, [], ◌∷◌, ◌++◌}
use mathlib.Core.Logic.{⊎_elim}
use native.Mathlib.Nat.{eq-or-lt_of_le, le_of_suc-le-suc}
use native.Mathlib.Omega.{arith}
use borrow.Author.Tests.{eqb-true, ne_eqb}
use lib.Dec.{eqb}
use lib.ListN.{length, get_or, length-append, get_or-append}
use lib.Seq.{get_or_at}
use Rattle.room.specs.Parts.{below}
use Rattle.room.specs.Held.{times, Once}

pub length-below : (n : ℕ) → length (below n) ≡ n
unfolding below
length-below zero = refl
length-below (suc n) = omega (arith, length-append (below n) (n ∷ []), length-below n)

pub get_or-below : (n k : ℕ) → k < n → get_or (below n) k 0 ≡ k
unfolding below
get_or-below zero k h = omega arith
get_or-below (suc n) k h =
    ⊎_elim
    (λ (e : k ≡ n). rw e (get_or_at (below n) n [] 0 n (length-below n)))
    (λ (m : k < n). get_or-append (below n) (n ∷ []) 0 k (rw (length-below n) m) ∙ get_or-below n k m)
    (eq-or-lt_of_le (le_of_suc-le-suc h))

pub times-append : (s : ℕ) (a b : List ℕ) → times s (a ++ b) ≡ times s a + times s b
unfolding times
times-append s [] b = omega arith
times-append s (x ∷ a) b = omega (arith, times-append s a b)

-- what is not below n does not stand there
times_not_below : (s n : ℕ) → n ≤ s → times s (below n) ≡ 0
unfolding times below
times_not_below s zero h = refl
times_not_below s (suc n) h =
    let apart : s ≡ n → ⊥ = λ e. omega arith in
    let last : times s (n ∷ []) ≡ 0 = simp (ne_eqb s n apart) in
    omega (arith, times-append s (below n) (n ∷ []), times_not_below s n (omega arith))

pub once-below : (n : ℕ) → Once (below n)
unfolding times below
once-below zero s = omega arith
once-below (suc n) s = by (eqb s n) refl (once-below n s) where
  by : (b : Bool) → eqb s n ≡ b → times s (below n) ≤ 1 → times s (below (suc n)) ≤ 1
  by true e h =
      let q : s ≡ n = eqb-true s n e in
      let last : times s (n ∷ []) ≡ 1 = simp e in
      omega (arith, times-append s (below n) (n ∷ []), times_not_below s n (omega arith))
  by false e h =
      let last : times s (n ∷ []) ≡ 0 = simp e in
      omega (arith, times-append s (below n) (n ∷ []))
