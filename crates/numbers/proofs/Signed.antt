-- Two's complement at 64 bits: the number that the library reads of the bits is `signed` of them. Assumes nothing.
use Prim.Native.Nat.{ℕ, ◌^◌}
use mathlib.Core.Path.{◌≡◌, ap, ◌∙◌}
use native.Mathlib.Decide.{dec_le}
use native.Mathlib.Nat.{lt_of_not-le}
use native.Mathlib.Omega.{arith}
use borrow.Author.Tests.{lt-ltb, le-ltb}
use lib.IntN.{ℤ}
use mir.Syntax.{w64}
use mir.Val.{Fits, to_z, of_z}
use mir.Facts.{of_z-to_z}
use Rattle.numbers.specs.Signed.{signed}

signed-read : (n : ℕ) → Fits w64 n → to_z w64 n ≡ signed n
unfolding signed
signed-read n f = elim (dec_le (2 ^ 63) n) [
  | yes w ↦ simp (le-ltb n (2 ^ 63) w, lt-ltb n (2 ^ 64) (omega arith))
  | no w ↦ simp (lt-ltb n (2 ^ 63) (lt_of_not-le w))
]

-- the same of what was read, written and read again
pub signed_again : (n : ℕ) (z : ℤ) → Fits w64 n → z ≡ to_z w64 n → to_z w64 (of_z w64 z) ≡ signed n
signed_again n z f e = ap (λ (y : ℤ). to_z w64 (of_z w64 y)) e ∙ ap (to_z w64) (of_z-to_z f) ∙ signed-read n f
