-- Parts written one behind another are one part written over, and the 64 bits of a signed number as the code has them. Assumes nothing.
use Prim.Native.Nat.{ℕ, ◌+◌, ◌≤◌}
use mathlib.Core.Path.{◌≡◌, refl, ap, ◌∙◌}
use mathlib.Core.List.{List, ◌++◌}
use borrow.Rule.Slice.PartMut.{put_mid}
use lib.IntN.{ℤ, pos, negsuc}
use lib.ListN.{length}
use mir.Syntax.{w64}
use mir.Val.{SFits, to_z, of_z}
use mir.Facts.{to_z-of_z}
use Rattle.numbers.specs.Spliced.{spliced}
use Rattle.numbers.proofs.Spliced.{put_mid-spliced, spliced_twice}
use Rattle.writer.specs.Fields.{bits}

module _ {A : Type 0} (out : List A) (at : ℕ) where
  -- the part that was lent holds zs
  pub put : (k : ℕ) (ys zs : List A) → ys ≡ zs → length zs ≡ k → put_mid at k out ys ≡ spliced out at zs
  put k ys zs e h = ap (put_mid at k out) e ∙ put_mid-spliced at k out zs h

  -- a part behind what was written
  pub behind : (xs ys : List A) (to : ℕ) {l : List A} {r : List A} → at ≤ length out → l ≡ spliced out at xs → to ≡ at + length xs → r ≡ spliced l to ys → r ≡ spliced out at (xs ++ ys)
  behind xs ys to {l} {r} h e t f = f ∙ ap (λ (k : List A). spliced k to ys) e ∙ spliced_twice out at xs h to ys t

-- the bits of a signed number
bits-cast : (z : ℤ) → of_z w64 z ≡ bits z
unfolding bits
bits-cast (pos n) = refl
bits-cast (negsuc n) = refl

pub bits-read : (z : ℤ) (n : ℕ) → SFits w64 z → n ≡ of_z w64 (to_z w64 (of_z w64 z)) → n ≡ bits z
bits-read z n f e = e ∙ ap (of_z w64) (to_z-of_z {w = w64} f) ∙ bits-cast z
