-- Numbers of two bytes each, one after the other, as they are read: how many they are, and which stands where.
-- Assumes nothing.
use Prim.Native.Nat.{ℕ, zero, suc, ◌*◌, ◌<◌}
use mathlib.Core.Path.{◌≡◌, refl, ◌∙◌}
use mathlib.Core.List.{List, [], ◌∷◌}
use mathlib.Core.Logic.{⊎_elim}
use native.Mathlib.Nat.{eq-or-lt_of_le, le_of_suc-le-suc}
use native.Mathlib.Omega.{arith}
use lib.ListN.{length, get_or, length-append, get_or-append}
use lib.Seq.{get_or_at}
use Rattle.numbers.specs.BigEndian.{uint}
use Rattle.room.specs.Parts.{twos}

pub length-twos : (n : ℕ) (l : List ℕ) → length (twos n l) ≡ n
unfolding twos
length-twos zero l = refl
length-twos (suc n) l = length-append (twos n l) (uint 2 l (n * 2) ∷ []) ∙ omega (arith, length-twos n l)

pub get_or-twos : (n : ℕ) (l : List ℕ) (i : ℕ) → i < n → get_or (twos n l) i 0 ≡ uint 2 l (i * 2)
unfolding twos
get_or-twos zero l i h = omega arith
get_or-twos (suc n) l i h =
    ⊎_elim
    (λ (e : i ≡ n). rw e (get_or_at (twos n l) (uint 2 l (n * 2)) [] 0 n (length-twos n l)))
    (λ (m : i < n). get_or-append (twos n l) (uint 2 l (n * 2) ∷ []) 0 i (rw (length-twos n l) m) ∙ get_or-twos n l i m)
    (eq-or-lt_of_le (le_of_suc-le-suc h))
