-- The decimal digits of a number, one at a time from the last, and how many they are.
-- Assumes nothing.
use Prim.Native.Nat.{ℕ, zero, suc, ◌+◌, ◌*◌, ◌/◌, ◌%◌, ◌^◌, ◌≤◌, ◌<◌}
use mathlib.Core.Path.{◌≡◌, refl, sym, ap, ◌∙◌}
use mathlib.Core.List.{List, [], ◌∷◌, ◌++◌}
use native.Mathlib.Decide.{dec_le}
use native.Mathlib.Nat.{pow-suc, one-le-pow, lt_of_not-le}
use native.Mathlib.Omega.{arith}
use borrow.Author.Tests.{lt-ltb, le-ltb}
use lib.ListN.{length, set, length-append, length-set}
use Rattle.numbers.specs.Digits.{digits_to, digits}
use Rattle.numbers.specs.Spliced.{spliced}
use Rattle.numbers.proofs.Spliced.{set-spliced, spliced_up_to}

small_to : (most x : ℕ) → x < 10 → digits_to (suc most) x ≡ (48 + x) ∷ []
unfolding digits_to
small_to most x h = simp (lt-ltb x 10 h)

large_to : (most x : ℕ) → 10 ≤ x → digits_to (suc most) x ≡ digits_to most (x / 10) ++ ((48 + x % 10) ∷ [])
unfolding digits_to
large_to most x h = simp (le-ltb x 10 h)

-- any bound that is large enough gives the same digits
same_to : (f g x : ℕ) → x ≤ f → x ≤ g → digits_to f x ≡ digits_to g x
unfolding digits_to
same_to zero zero x h k = refl
same_to zero (suc g) x h k = let e : x ≡ 0 = omega arith in simp e
same_to (suc f) zero x h k = let e : x ≡ 0 = omega arith in simp e
same_to (suc f) (suc g) x h k = elim (dec_le 10 x) [
  | yes w ↦ large_to f x w ∙ ap (λ (l : List ℕ). l ++ ((48 + x % 10) ∷ [])) (same_to f g (x / 10) (omega arith) (omega arith)) ∙ sym (large_to g x w)
  | no w ↦ small_to f x (lt_of_not-le w) ∙ sym (small_to g x (lt_of_not-le w))
]

pub digits-small : (x : ℕ) → x < 10 → digits x ≡ (48 + x) ∷ []
unfolding digits digits_to
digits-small zero h = refl
digits-small (suc n) h = small_to n (suc n) h

pub digits-large : (x : ℕ) → 10 ≤ x → digits x ≡ digits (x / 10) ++ ((48 + x % 10) ∷ [])
unfolding digits
digits-large zero h = absurd (omega arith)
digits-large (suc n) h =
    large_to n (suc n) h ∙ ap (λ (l : List ℕ). l ++ ((48 + suc n % 10) ∷ [])) (same_to n (suc n / 10) (suc n / 10) (omega arith) (omega arith))

-- ---- how many

pub length-digits-small : (x : ℕ) → x < 10 → length (digits x) ≡ 1
length-digits-small x h = ap length (digits-small x h)

pub length-digits-large : (x : ℕ) → 10 ≤ x → length (digits x) ≡ length (digits (x / 10)) + 1
length-digits-large x h = ap length (digits-large x h) ∙ length-append (digits (x / 10)) ((48 + x % 10) ∷ [])

length-digits-some : (x : ℕ) → 1 ≤ length (digits x)
length-digits-some x = elim (dec_le 10 x) [
  | yes w ↦ omega (arith, length-digits-large x w)
  | no w ↦ omega (arith, length-digits-small x (lt_of_not-le w))
]

-- one digit is that of a number below ten, and more are those of one from ten on
pub one_digit : (x : ℕ) → length (digits x) ≤ 1 → (x < 10) × (length (digits x) ≡ 1)
one_digit x h = elim (dec_le 10 x) [
  | yes w ↦ absurd (omega (arith, length-digits-large x w, length-digits-some (x / 10)))
  | no w ↦ (lt_of_not-le w, length-digits-small x (lt_of_not-le w))
]

pub more-digits : (x : ℕ) → 1 < length (digits x) → 10 ≤ x
more-digits x h = elim (dec_le 10 x) [
  | yes w ↦ w
  | no w ↦ absurd (omega (arith, length-digits-small x (lt_of_not-le w)))
]

-- a number below 10 ^ (k + 1) has from 1 to k + 1 digits
pub length_digits : (k x : ℕ) → x < 10 ^ suc k → (1 ≤ length (digits x)) × (length (digits x) ≤ suc k)
length_digits zero x h = omega (arith, length-digits-small x h)
length_digits (suc k) x h =
    let j : x < 10 ^ suc k * 10 = rw (pow-suc 10 (suc k)) at h in
    elim (dec_le 10 x) [
      | yes w ↦ omega (arith, length-digits-large x w, length_digits k (x / 10) (omega arith))
      | no w ↦ omega (arith, length-digits-small x (lt_of_not-le w))
    ]

-- and one from 10 ^ k on has k + 1
pub length_digits_from : (k x : ℕ) → 10 ^ k ≤ x → x < 10 ^ suc k → length (digits x) ≡ suc k
length_digits_from zero x l h = length-digits-small x h
length_digits_from (suc k) x l h =
    let i : 10 ^ k * 10 ≤ x = rw (pow-suc 10 k) at l in
    let j : x < 10 ^ suc k * 10 = rw (pow-suc 10 (suc k)) at h in
    let large : 10 ≤ x = omega (arith, one-le-pow k 10 (omega arith)) in
    omega (arith, length-digits-large x large, length_digits_from k (x / 10) (omega arith) (omega arith))

pub length_digits_32 : (x : ℕ) → x < 2 ^ 32 → (1 ≤ length (digits x)) × (length (digits x) ≤ 10)
length_digits_32 x h = length_digits 9 x (omega arith)

pub length_digits_16 : (x : ℕ) → x < 2 ^ 16 → (1 ≤ length (digits x)) × (length (digits x) ≤ 5)
length_digits_16 x h = length_digits 4 x (omega arith)

-- ---- written from the last on

-- the last digit of y at its place a in xs: then the digits of its tenth make of xs what those of y make of it, and are as many as stand before that place
pub last-put : (xs : List ℕ) (y a : ℕ) → a + 1 ≡ length (digits y) → 1 ≤ a → a < length xs
    → (a ≡ length (digits (y / 10))) × (spliced (set xs a (48 + y % 10)) 0 (digits (y / 10)) ≡ spliced xs 0 (digits y))
last-put xs y a many some inside =
    let large = more-digits y (omega arith) in
    let last = 48 + y % 10 in
    let left : a ≡ length (digits (y / 10)) = omega (arith, length-digits-large y large) in (
      left,
      ap (λ (l : List ℕ). spliced l 0 (digits (y / 10))) (set-spliced xs a last inside)
          ∙ spliced_up_to xs (digits (y / 10)) a (last ∷ []) (omega arith) left
          ∙ ap (spliced xs 0) (sym (digits-large y large)),
    )

-- the last two at theirs
pub two-put : (xs : List ℕ) (y a : ℕ) → a + 2 ≡ length (digits y) → 1 ≤ a → a + 1 < length xs
    → (a ≡ length (digits (y / 100))) × (spliced (set (set xs (a + 1) (48 + y % 100 % 10)) a (48 + y % 100 / 10)) 0 (digits (y / 100)) ≡ spliced xs 0 (digits y))
two-put xs y a many some inside =
    let last = last-put xs y (a + 1) (omega arith) (omega arith) inside in
    let one = set xs (a + 1) (48 + y % 10) in
    let next = last-put one (y / 10) a last.0 some (simp length-set (omega arith)) in
    let tenth : y / 100 ≡ y / 10 / 10 = omega arith in
    let low : y % 100 % 10 ≡ y % 10 = omega arith in
    let high : y % 100 / 10 ≡ y / 10 % 10 = omega arith in
    rw (tenth, low, high) (next.0, next.1 ∙ last.1)
