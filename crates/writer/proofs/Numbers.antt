-- Numbers and their bytes: the number that bytes are written again, and two's complement both ways. Assumes nothing.
use Prim.Native.Nat.{ℕ, zero, suc, ◌+◌, ◌-◌, ◌*◌, ◌/◌, ◌%◌, ◌^◌, ◌≤◌, ◌<◌}
use mathlib.Core.Path.{◌≡◌, refl, sym, ap, ◌∙◌}
use mathlib.Core.Bool.{Bool, true, false}
use mathlib.Core.List.{List, [], ◌∷◌, ◌++◌}
use native.Mathlib.Nat.{add-zero, add-suc}
use native.Mathlib.Omega.{arith}
use borrow.Author.Tests.{lt-ltb, le-ltb, ltb-true, ltb-false}
use lib.Dec.{ltb}
use lib.ListN.{length, drop, get_or}
use lib.Seq.{append_snoc, drop-cons}
use lib.IntN.{ℤ, pos, negsuc}
use lib.Signed.{mag}
use Rattle.numbers.specs.BigEndian.{uint, bytes}
use Rattle.numbers.specs.Signed.{signed}
use Rattle.writer.specs.Fields.{bits}

-- ---- the number that bytes are, in bytes again

bytes-more : (n u x : ℕ) → x < 256 → bytes (suc n) (u * 256 + x) ≡ bytes n u ++ x ∷ []
unfolding bytes
bytes-more n u x h =
    let high : (u * 256 + x) / 256 ≡ u = omega arith in
    let low : (u * 256 + x) % 256 ≡ x = omega arith in
    rw (high, low)

bytes-none : (l : List ℕ) → l ≡ bytes 0 0 ++ l
unfolding bytes
bytes-none l = refl

pub bytes-uint : (n : ℕ) (b : List ℕ) (i : ℕ) → ((k : ℕ) → get_or b k 0 < 256) → i + n ≤ length b → drop i b ≡ bytes n (uint n b i) ++ drop (i + n) b
unfolding uint
bytes-uint zero b i byte h = rw (add-zero i) (bytes-none (drop i b))
bytes-uint (suc n) b i byte h =
    let x = get_or b (i + n) 0 in
    let next : i + suc n ≡ suc (i + n) = add-suc i n in
    bytes-uint n b i byte (omega arith)
    ∙ ap (λ (l : List ℕ). bytes n (uint n b i) ++ l) (drop-cons b (i + n) 0 (omega arith))
    ∙ sym (append_snoc (bytes n (uint n b i)) x (drop (suc (i + n)) b))
    ∙ rw (next, bytes-more n (uint n b i) x (byte (i + n)))

-- ---- two's complement, both ways

signed_low : (n : ℕ) → n < 2 ^ 63 → signed n ≡ pos n
unfolding signed
signed_low n h = simp (lt-ltb n (2 ^ 63) h)

signed_high : (n : ℕ) → n < 2 ^ 64 → 2 ^ 63 ≤ n → signed n ≡ negsuc (2 ^ 64 - suc n)
unfolding signed
signed_high n h l = simp (le-ltb n (2 ^ 63) l, lt-ltb n (2 ^ 64) h)

pub bits-signed : (n : ℕ) → n < 2 ^ 64 → bits (signed n) ≡ n
unfolding bits
bits-signed n h = by (ltb n (2 ^ 63)) refl where
  by : (b : Bool) → ltb n (2 ^ 63) ≡ b → bits (signed n) ≡ n
  by true t = rw (signed_low n (ltb-true n (2 ^ 63) t))
  by false t = let l = ltb-false n (2 ^ 63) t in rw (signed_high n h l) (omega arith)

pub signed_mag : (n : ℕ) → n < 2 ^ 64 → mag (signed n) < 2 ^ 63
signed_mag n h = by (ltb n (2 ^ 63)) refl where
  by : (b : Bool) → ltb n (2 ^ 63) ≡ b → mag (signed n) < 2 ^ 63
  by true t = let l = ltb-true n (2 ^ 63) t in rw (signed_low n l) l
  by false t = let l = ltb-false n (2 ^ 63) t in rw (signed_high n h l) (omega arith)

pub signed-bits : (z : ℤ) → mag z < 2 ^ 63 → signed (bits z) ≡ z
unfolding bits
signed-bits (pos n) h = signed_low n h
signed-bits (negsuc n) h =
    let e : 2 ^ 64 - suc (2 ^ 64 - suc n) ≡ n = omega arith in
    signed_high (2 ^ 64 - suc n) (omega arith) (omega arith) ∙ ap negsuc e

pub bits_below_word : (z : ℤ) → mag z < 2 ^ 63 → bits z < 256 ^ 8
unfolding bits
bits_below_word (pos n) h = omega arith
bits_below_word (negsuc n) h = omega arith
