-- Big-endian numbers: how they grow by a byte, how large they are, what is read back of a number written, and where a part written over changes nothing.
-- Assumes nothing.
use Prim.Native.Nat.{ℕ, zero, suc, ◌+◌, ◌*◌, ◌/◌, ◌%◌, ◌^◌, ◌≤◌, ◌<◌}
use mathlib.Core.Path.{◌≡◌, refl, sym, ap, ap₂, ◌∙◌}
use mathlib.Core.List.{List, [], ◌∷◌, ◌++◌, append-nil}
use native.Mathlib.Nat.{add-zero, mul_comm, pow-suc, pow-le-pow_right, div-add-mod', div-div-eq-div-mul}
use native.Mathlib.Numerals.{add-one}
use native.Mathlib.Omega.{arith}
use lib.ListN.{length, drop, get_or, length-append}
use lib.Seq.{append_snoc, get_or_at, get_or-drop}
use borrow.Rule.Slice.PartMut.{put_mid}
use Rattle.std.specs.Int.{byte_at, bytes_high_first}
use Rattle.numbers.specs.BigEndian.{uint, bytes}
use Rattle.numbers.specs.Spliced.{spliced}
use Rattle.numbers.proofs.Spliced.{put_mid-spliced, get_or-spliced-before, get_or-spliced_in, get_or-spliced-after}

-- ---- a byte more

below_power_suc : (k x v : ℕ) → x < 256 ^ k → v < 256 → x * 256 + v < 256 ^ suc k
below_power_suc k x v h hv = rw pow-suc (omega arith)

-- what is below 256 ^ k with k below 8 has room for a byte more in 64 bits
pub below_power_word : (k x : ℕ) → k < 8 → x < 256 ^ k → x < 2 ^ 56
below_power_word k x hk h = omega (arith, pow-le-pow_right {n = 256} (omega arith) {i = k} {j = 7} (omega arith))

-- the bytes of b from i on are passed one by one
pub uint_passed : (k x : ℕ) (b : List ℕ) (i : ℕ) → k < 8 → get_or b (i + k) 0 < 256 → (x ≡ uint k b i) × (x < 256 ^ k)
    → (x * 256 + get_or b (i + k) 0 < 2 ^ 64) × ((x * 256 + get_or b (i + k) 0 ≡ uint (k + 1) b i) × (x * 256 + get_or b (i + k) 0 < 256 ^ (k + 1)))
unfolding uint
uint_passed k x b i word byte passed =
    let next : x * 256 + get_or b (i + k) 0 < 256 ^ suc k = below_power_suc k x (get_or b (i + k) 0) passed.1 byte in (
      omega (arith, byte, below_power_word k x word passed.1),
      (rw add-one (ap (λ (p : ℕ). p * 256 + get_or b (i + k) 0) passed.0), rw add-one next),
    )

pub uint-below : (n : ℕ) (b : List ℕ) (i : ℕ) → ((k : ℕ) → get_or b k 0 < 256) → uint n b i < 256 ^ n
unfolding uint
uint-below zero b i byte = omega arith
uint-below (suc n) b i byte = below_power_suc n (uint n b i) (get_or b (i + n) 0) (uint-below n b i byte) (byte (i + n))

-- ---- the same bytes are the same number

pub uint_ext : (n : ℕ) (b : List ℕ) (i : ℕ) (b' : List ℕ) (i' : ℕ) → ((k : ℕ) → k < n → get_or b (i + k) 0 ≡ get_or b' (i' + k) 0) → uint n b i ≡ uint n b' i'
unfolding uint
uint_ext zero b i b' i' same = refl
uint_ext (suc n) b i b' i' same =
    let before : uint n b i ≡ uint n b' i' = uint_ext n b i b' i' (λ k l. same k (omega arith)) in
    let last : get_or b (i + n) 0 ≡ get_or b' (i' + n) 0 = same n (omega arith) in
    cc

pub uint-drop : (n a : ℕ) (b : List ℕ) (i : ℕ) → uint n (drop a b) i ≡ uint n b (a + i)
uint-drop n a b i = uint_ext n (drop a b) i b (a + i) λ k l. get_or-drop a b (i + k) 0 ∙ ap (λ (j : ℕ). get_or b j 0) (omega arith)

-- ---- a number written and read back

pub length-bytes : (n x : ℕ) → length (bytes n x) ≡ n
unfolding bytes
length-bytes zero x = refl
length-bytes (suc n) x = length-append (bytes n (x / 256)) (x % 256 ∷ []) ∙ omega (arith, length-bytes n (x / 256))

-- the bytes of a number as the library has them, the highest first
byte_at-more : (n x : ℕ) → byte_at (suc n) x ≡ byte_at n (x / 256)
byte_at-more zero x = refl
byte_at-more (suc n) x =
    let e : x / 256 ^ suc (suc n) ≡ x / 256 / 256 ^ suc n = sym (div-div-eq-div-mul x 256 (256 ^ suc n) ∙ ap (λ (k : ℕ). x / k) (mul_comm 256 (256 ^ suc n) ∙ sym (pow-suc 256 (suc n)))) in
    ap (λ (k : ℕ). k % 256) e

bytes_high_first-snoc : (n x : ℕ) → bytes_high_first (suc n) x ≡ bytes_high_first n (x / 256) ++ x % 256 ∷ []
bytes_high_first-snoc zero x = refl
bytes_high_first-snoc (suc n) x =
    ap₂ ◌∷◌ (byte_at-more n x) (bytes_high_first-snoc n x)

pub bytes_as_high_first : (n x : ℕ) → bytes_high_first n x ≡ bytes n x
unfolding bytes
bytes_as_high_first zero x = refl
bytes_as_high_first (suc n) x = bytes_high_first-snoc n x ∙ ap (λ (l : List ℕ). l ++ x % 256 ∷ []) (bytes_as_high_first n (x / 256))

pub uint-bytes : (n x : ℕ) (rest : List ℕ) → x < 256 ^ n → uint n (bytes n x ++ rest) 0 ≡ x
unfolding uint bytes
uint-bytes zero x rest h = omega arith
uint-bytes (suc n) x rest h =
    let fits : x < 256 ^ n * 256 = rw pow-suc at h in
    let before : uint n (bytes n (x / 256) ++ x % 256 ∷ rest) 0 ≡ x / 256 = uint-bytes n (x / 256) (x % 256 ∷ rest) (omega arith) in
    let last : get_or (bytes n (x / 256) ++ x % 256 ∷ rest) (0 + n) 0 ≡ x % 256 = get_or_at (bytes n (x / 256)) (x % 256) rest 0 (0 + n) (omega (arith, length-bytes n (x / 256))) in
    rw (append_snoc (bytes n (x / 256)) (x % 256) rest, before, last) (div-add-mod' x 256)

-- ---- a part written over

module _ (xs : List ℕ) (a : ℕ) (ys : List ℕ) (h : a ≤ length xs) where
  pub uint-spliced-before : (n i : ℕ) → i + n ≤ a → uint n (spliced xs a ys) i ≡ uint n xs i
  uint-spliced-before n i l = uint_ext n (spliced xs a ys) i xs i λ k m. get_or-spliced-before xs a ys h (i + k) 0 (omega arith)

  pub uint-spliced_in : (n i : ℕ) → i + n ≤ length ys → uint n (spliced xs a ys) (a + i) ≡ uint n ys i
  uint-spliced_in n i l =
      uint_ext n (spliced xs a ys) (a + i) ys i λ k m. ap (λ (j : ℕ). get_or (spliced xs a ys) j 0) (omega arith) ∙ get_or-spliced_in xs a ys h (i + k) 0 (omega arith)

  pub uint-spliced-after : (n i : ℕ) → a + length ys ≤ i → uint n (spliced xs a ys) i ≡ uint n xs i
  uint-spliced-after n i l = uint_ext n (spliced xs a ys) i xs i λ k m. get_or-spliced-after xs a ys h (i + k) 0 (omega arith)

-- a number written by the library's bytes of it
pub be-spliced : (xs : List ℕ) (a n x k : ℕ) (ys : List ℕ) → k ≡ n → ys ≡ bytes_high_first n x → put_mid a k xs ys ≡ spliced xs a (bytes n x)
be-spliced xs a n x k ys e l =
    let same : ys ≡ bytes n x = l ∙ bytes_as_high_first n x in
    put_mid-spliced a k xs ys (ap length same ∙ length-bytes n x ∙ sym e) ∙ ap (spliced xs a) same

pub uint-spliced : (xs : List ℕ) (a n x : ℕ) → a + n ≤ length xs → x < 256 ^ n → uint n (spliced xs a (bytes n x)) a ≡ x
uint-spliced xs a n x h l =
    ap (uint n (spliced xs a (bytes n x))) (sym (add-zero a))
    ∙ uint-spliced_in xs a (bytes n x) (omega arith) n 0 (omega (arith, length-bytes n x))
    ∙ ap (λ (b : List ℕ). uint n b 0) (sym (append-nil (bytes n x)))
    ∙ uint-bytes n x [] l
