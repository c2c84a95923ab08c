-- A text written at the front of a buffer, piece by piece: a byte behind what is written, or a piece into the part behind it, lent. Assumes nothing.
use Prim.Native.Nat.{ℕ, ◌+◌, ◌-◌, ◌≤◌, ◌<◌}
use mathlib.Core.Path.{◌≡◌, refl, sym, ap, ◌∙◌}
use mathlib.Core.List.{List, [], ◌∷◌, ◌++◌}
use native.Mathlib.Omega.{arith}
use lib.ListN.{length, take, drop, set, length-append}
use lib.Seq.{take_at}
use Rattle.numbers.specs.Spliced.{spliced}
use Rattle.numbers.proofs.Spliced.{spliced_nil, spliced_front, set-spliced, spliced_twice, length-spliced, lent-spliced}
use Rattle.weave.proofs.SplicedLaws.{length_stretch}

-- x is xs with ys written at its front, up to a
pub record Front (xs ys x : List ℕ) (a : ℕ) : Type 0 where
  pub bytes : x ≡ spliced xs 0 ys
  pub long : length x ≡ length xs
  pub end : a ≡ length ys
  pub fits : a ≤ length xs

pub front_spliced : (xs ys : List ℕ) {x : List ℕ} {a : ℕ} → a ≤ length xs → a ≡ length ys → x ≡ spliced xs 0 ys → Front xs ys x a
front_spliced xs ys h k e = record { bytes = e; long = ap length e ∙ length-spliced xs 0 ys (omega arith); end = k; fits = h }

pub front_nil : (xs : List ℕ) → Front xs [] xs 0
front_nil xs = front_spliced xs [] (omega arith) refl (sym (spliced_nil xs 0))

-- what stands from a on, as it is lent, and the buffer once it has come back as r
abbrev pub rest : List ℕ → ℕ → List ℕ
rest x a = take (length x - a) (drop a x)

abbrev pub back : List ℕ → ℕ → List ℕ → List ℕ
back x a r = take a x ++ (r ++ drop (length x - a) (drop a x))

-- it has place for what ends within the buffer
pub rest_long : (x : List ℕ) (a n : ℕ) → a + n ≤ length x → n ≤ length (rest x a)
rest_long x a n h = omega (arith, length_stretch x a (length x - a) (omega arith))

module _ {xs ys x : List ℕ} {a : ℕ} (front : Front xs ys x a) where
  pub front_more : (zs : List ℕ) {y : List ℕ} {n : ℕ} → a + n ≤ length xs → n ≡ length zs → y ≡ spliced x a zs → Front xs (ys ++ zs) y (a + n)
  front_more zs h k e =
      front_spliced xs (ys ++ zs) h (omega (arith, front.end, length-append ys zs))
      (e ∙ ap (λ (l : List ℕ). spliced l a zs) front.bytes ∙ spliced_twice xs 0 ys (omega arith) a zs (omega (arith, front.end)))

  pub front_lent : (zs : List ℕ) {r : List ℕ} {n : ℕ} → a + n ≤ length xs → (n ≡ length zs) × (r ≡ spliced (rest x a) 0 zs) → Front xs (ys ++ zs) (back x a r) (a + n)
  front_lent zs h e = front_more zs h e.0 (lent-spliced x a zs e.1)

  -- the same in an array, whose length the code has as a number
  pub front_lent_in : {m : ℕ} → length xs ≡ m → (zs : List ℕ) {r : List ℕ} {n : ℕ} → a + n ≤ m → (n ≡ length zs) × (r ≡ spliced (take (m - a) (drop a x)) 0 zs)
      → Front xs (ys ++ zs) (take a x ++ (r ++ drop (m - a) (drop a x))) (a + n)
  front_lent_in {m} k zs h e = let l : m ≡ length x = omega (arith, front.long) in rw l (front_lent zs (omega arith) (rw l at e))

  -- what is written can be taken from there
  pub front_taken : take a x ≡ ys
  front_taken = rw (front.bytes, spliced_front) (take_at ys (drop (length ys) xs) a (sym front.end))

  pub front_byte : (v : ℕ) → a < length xs → Front xs (ys ++ v ∷ []) (set x a v) (a + 1)
  front_byte v h = front_more (v ∷ []) (omega arith) refl (set-spliced x a v (omega (arith, front.long)))
