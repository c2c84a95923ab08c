-- Sums of the first numbers of a list: of more of them it is no less. Assumes nothing.
use Prim.Native.Nat.{ℕ, ◌+◌, ◌≤◌, ◌<◌}
use mathlib.Core.Path.{◌≡◌, sym, ap, ◌∙◌}
use mathlib.Core.Logic.{⊎_elim}
use mathlib.Core.List.{List, [], ◌∷◌, ◌++◌}
use native.Mathlib.Omega.{arith}
use lib.ListN.{length, take, drop, get_or, take-append-drop}
use lib.Seq.{take-take}
use Rattle.room.specs.Broken.{sum}
use Rattle.room.proofs.BrokenLaws.{sum-take}
use Rattle.weave.proofs.Grown.{le_or_lt}

sum-append : (a b : List ℕ) → sum (a ++ b) ≡ sum a + sum b
unfolding sum
sum-append [] b = omega arith
sum-append (x ∷ a) b = omega (arith, sum-append a b)

pub sum_take_le : (ks : List ℕ) (r n : ℕ) → r ≤ n → sum (take r ks) ≤ sum (take n ks)
sum_take_le ks r n h =
    let a : sum (take r ks) + sum (drop r (take n ks)) ≡ sum (take n ks) =
    ap (λ (l : List ℕ). sum l + sum (drop r (take n ks))) (sym (take-take r n ks h))
    ∙ sym (sum-append (take r (take n ks)) (drop r (take n ks)))
    ∙ ap sum (take-append-drop r (take n ks)) in
    omega arith

-- one more of them is no more than all
pub sum-take-fits : (ks : List ℕ) (r n : ℕ) → r < n → n ≤ length ks → sum (take r ks) + get_or ks r 0 ≤ sum (take n ks)
sum-take-fits ks r n h long = omega (arith, sum-take ks r (omega arith), sum_take_le ks (r + 1) n (omega arith))

-- a condition has one rule: those of another are before it or behind it
pub same-rule : (ks : List ℕ) (r q i j : ℕ) → r < length ks → q < length ks → i < get_or ks r 0 → j < get_or ks q 0 → sum (take r ks) + i ≡ sum (take q ks) + j → r ≡ q
same-rule ks r q i j hr hq hi hj e =
    ⊎_elim
    (λ (l : q ≤ r). ⊎_elim (λ (m : r ≤ q). omega arith) (λ (m : q < r). absurd (omega (arith, sum-take-fits ks q r m (omega arith)))) (le_or_lt r q))
    (λ (l : r < q). absurd (omega (arith, sum-take-fits ks r q l (omega arith))))
    (le_or_lt q r)
