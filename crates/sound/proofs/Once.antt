-- Lists that name no slot twice. Assumes nothing.
use Prim.Native.Nat.{ℕ, suc, ◌≤◌, ◌<◌}
use mathlib.Core.Path.{◌≡◌, refl, ap}
use mathlib.Core.Logic.{⊎_elim}
use mathlib.Core.List.Memᴰ
use mathlib.Core.List.{List, [], ◌∷◌, Memᴰ}
use native.Mathlib.Omega.{arith}
use borrow.Author.Tests.{eq-eqb}
use lib.ListN.{length, take, drop, get_or, take-append-drop}
use lib.Seq.{split_at}
use Rattle.room.specs.Held.{times, Once}
use Rattle.room.proofs.Order.{times-append}

-- what stands in a list is named there
pub times_mem : (s : ℕ) (l : List ℕ) → Memᴰ s l → 1 ≤ times s l
unfolding times
times_mem s [] m = absurd (Memᴰ.not-nil m)
times_mem s (x ∷ l) m = ⊎_elim (λ (e : s ≡ x). rw (eq-eqb s x e) (omega arith)) (λ i. omega (arith, times_mem s l i)) (Memᴰ.cases_cons m)

pub once-take : (n : ℕ) (l : List ℕ) → Once l → Once (take n l)
once-take n l once s = omega (arith, once s, times-append s (take n l) (drop n l), ap (times s) (take-append-drop n l))

-- what stands at n does not stand before it
pub once-new : (l : List ℕ) (n : ℕ) → Once l → n < length l → Memᴰ (get_or l n 0) (take n l) → ⊥
once-new l n once h m =
    let x : ℕ = get_or l n 0 in
    let rest : List ℕ = x ∷ drop (suc n) l in
    omega (
      arith,
      once x,
      ap (times x) (split_at l n 0 h),
      times-append x (take n l) rest,
      times_mem x (take n l) m,
      times_mem x rest (Memᴰ.head refl),
    )
