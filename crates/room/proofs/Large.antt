-- A room large enough for its parts of fixed width: it stays so while its length does, and each of those parts is as long as it should be. Assumes nothing.
use Prim.Native.Nat.{ℕ, ◌+◌, ◌≤◌}
use mathlib.Core.Path.{◌≡◌}
use mathlib.Core.List.{List}
use native.Mathlib.Omega.{arith}
use lib.ListN.{length}
use Rattle.room.specs.Parts.{part}
use Rattle.room.proofs.Put.{length_part}

pub large_kept : (l l' : List ℕ) → length l' ≡ length l → 18288 ≤ length l → 18288 ≤ length l'
large_kept l l' kept h = omega arith

pub large-part : (l : List ℕ) (a w : ℕ) → a + w ≤ 18288 → 18288 ≤ length l → length (part l a w) ≡ w
large-part l a w h large = length_part l a w (omega arith)
