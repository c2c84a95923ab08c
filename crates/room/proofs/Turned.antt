-- Numbers of two bytes each whose bytes are the wrong way round: a list of them filled in from a table, one of them turned right, and one of them written.
-- Assumes nothing.
use Prim.Native.Nat.{ℕ, ◌+◌, ◌*◌, ◌/◌, ◌%◌, ◌<◌}
use mathlib.Core.Path.{◌≡◌, sym, ap, ◌∙◌}
use mathlib.Core.List.{List, [], ◌∷◌}
use native.Mathlib.Nat.{add-zero}
use native.Mathlib.Omega.{arith}
use lib.ListN.{length, drop, get_or}
use lib.Seq.{get_or-take, get_or-drop}
use Rattle.numbers.specs.BigEndian.{uint, bytes}
use Rattle.numbers.specs.Spliced.{spliced}
use Rattle.std.specs.Int.{w16, to_le_bytes}
use borrow.Rule.Slice.PartMut.{put_mid}
use Rattle.numbers.proofs.Spliced.{put_mid-spliced}
use Rattle.room.specs.Parts.{part}
use Rattle.room.proofs.BrokenLaws.{two_of}

-- number k of a table, its bytes the wrong way round
abbrev pub turned_at : List ℕ → ℕ → ℕ
turned_at table k = get_or table (k * 2) 0 + get_or table (k * 2 + 1) 0 * 256

-- the first n of them
abbrev pub Turned : List ℕ → List ℕ → ℕ → Type 0
Turned ys table n = (k : ℕ) → k < n → get_or ys k 0 ≡ turned_at table k

-- one of them, turned right: the number of the table
pub turned_right : (table ys : List ℕ) (i : ℕ) → ((k : ℕ) → k < 64 → get_or table k 0 < 256) → Turned ys table 32 → i < 32
    → get_or ys i 0 % 256 * 256 + get_or ys i 0 / 256 ≡ uint 2 table (i * 2)
unfolding uint
turned_right table ys i byte so h = rw add-zero (omega (arith, so i h, byte (i * 2) (omega arith), byte (i * 2 + 1) (omega arith)))

-- one of the table in a room from a on
pub turned_two : (room ys : List ℕ) (a i : ℕ) → ((k : ℕ) → get_or room k 0 < 256) → Turned ys (part room a 64) 32 → i < 32
    → get_or ys i 0 % 256 * 256 + get_or ys i 0 / 256 ≡ uint 2 room (a + i * 2)
turned_two room ys a i byte so h =
    turned_right (part room a 64) ys i (λ k l. rw (get_or-take 64 (drop a room) k 0 l, get_or-drop) (byte (a + k))) so h ∙ two_of room a i h

-- the bytes of a number turned, the last first: the number in two bytes
pub turned_put : (l : List ℕ) (a x y k : ℕ) (ys : List ℕ) → k ≡ 2 → x < 65536 → y ≡ x % 256 * 256 + x / 256 → ys ≡ to_le_bytes w16 y
    → put_mid a k l ys ≡ spliced l a (bytes 2 x)
unfolding bytes
turned_put l a x y k ys two small e same =
    let first : y % 256 ≡ x / 256 % 256 = omega arith in
    let second : y / 256 % 256 ≡ x % 256 = omega arith in
    let both : ys ≡ x / 256 % 256 ∷ x % 256 ∷ [] = same ∙ rw (first, second) in
    put_mid-spliced a k l ys (ap length both ∙ sym two) ∙ ap (spliced l a) both
