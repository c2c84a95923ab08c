-- Judgements: the chains of `&&` that they go by, and a wording read byte by byte.
-- Assumes nothing.
use Prim.Native.Nat.{ℕ}
use mathlib.Core.Path.{◌≡◌, ◌∙◌, refl, ap}
use mathlib.Core.Logic.{◌⊎◌, ⊎_elim}
use mathlib.Core.List.{List, [], ◌∷◌}
use mathlib.Core.Bool.{Bool, true, false, ◌&&◌}
use Rattle.std.specs.List.{list_all}
use lib.Dec.{leb}
use Rattle.book.specs.Judgement.{printable}

-- ---- a && b, of which the second is asked only where the first holds

pub and_then : (a b : Bool) → a ≡ true → b ≡ (a && b)
and_then a b e = simp e

pub and_else : (a b : Bool) → a ≡ false → a ≡ (a && b)
and_else a b e = simp e

-- the flag after both ways have met
pub and_came : {P Q : Type 0} (a b flag : Bool) → (P × (flag ≡ b)) ⊎ (Q × (flag ≡ a)) → (P → a ≡ true) → (Q → a ≡ false) → flag ≡ (a && b)
and_came a b flag came taken left = ⊎_elim (λ w. w.1 ∙ and_then a b (taken w.0)) (λ w. w.1 ∙ and_else a b (left w.0)) came

-- ---- printable: each byte by itself

pub printable_all : (text : List ℕ) → printable text ≡ list_all (λ b. leb 32 b && leb b 126) text
unfolding printable
printable_all [] = refl
printable_all (b ∷ bs) = ap (λ (rest : Bool). leb 32 b && leb b 126 && rest) (printable_all bs)
