-- Numbers in two bytes each: written one behind the other, and read back. Assumes nothing.
use Prim.Native.Nat.{ℕ, zero, suc, ◌+◌, ◌*◌, ◌≤◌, ◌<◌}
use mathlib.Core.Path.{◌≡◌, refl, sym, ap, ap₂, ◌∙◌}
use mathlib.Core.List.{List, [], ◌∷◌, ◌++◌, append-nil, append_assoc}
use native.Mathlib.Numerals.{add-one}
use native.Mathlib.Omega.{arith}
use lib.ListN.{length, take, get_or, length-append}
use lib.Seq.{length-take-le, take_all, take-suc, drop_at}
use Rattle.numbers.specs.BigEndian.{uint, bytes}
use Rattle.numbers.proofs.BigEndian.{length-bytes, uint-bytes, uint-drop}
use Rattle.numbers.specs.Spliced.{spliced}
use Rattle.numbers.proofs.Spliced.{spliced_nil, spliced_twice}
use Rattle.room.specs.Parts.{twos, twos_bytes}
use Rattle.room.proofs.Spliced.{spliced-whole}

-- ---- written

pub length-twos_bytes : (xs : List ℕ) → length (twos_bytes xs) ≡ length xs * 2
unfolding twos_bytes
length-twos_bytes [] = refl
length-twos_bytes (x ∷ xs) = omega (arith, length-append (bytes 2 x) (twos_bytes xs), length-bytes 2 x, length-twos_bytes xs)

pub twos_bytes_snoc : (xs : List ℕ) (x : ℕ) → twos_bytes (xs ++ x ∷ []) ≡ twos_bytes xs ++ bytes 2 x
unfolding twos_bytes
twos_bytes_snoc [] x = append-nil (bytes 2 x)
twos_bytes_snoc (y ∷ xs) x = ap (λ (l : List ℕ). bytes 2 y ++ l) (twos_bytes_snoc xs x) ∙ sym (append_assoc (bytes 2 y) (twos_bytes xs) (bytes 2 x))

-- the first i numbers written over the front of a part
abbrev pub Fronted : List ℕ → List ℕ → List ℕ → ℕ → Type 0
Fronted l part xs i = l ≡ spliced part 0 (twos_bytes (take i xs))

pub fronted_none : (part xs : List ℕ) → Fronted part part xs 0
unfolding twos_bytes
fronted_none part xs = sym (spliced_nil part 0)

module _ (part xs : List ℕ) (long : length part ≡ length xs * 2) where
  -- one number more behind them
  pub fronted_more : {l l' : List ℕ} (i : ℕ) → i < length xs → Fronted l part xs i → l' ≡ spliced l (i * 2) (bytes 2 (get_or xs i 0)) → Fronted l' part xs (i + 1)
  fronted_more {l} {l'} i h so e =
      let before : length (twos_bytes (take i xs)) ≡ i * 2 = omega (arith, length-twos_bytes (take i xs), length-take-le i xs (omega arith)) in
      let more : twos_bytes (take i xs) ++ bytes 2 (get_or xs i 0) ≡ twos_bytes (take (i + 1) xs) =
      sym (rw (add-one, take-suc xs i 0) (twos_bytes_snoc (take i xs) (get_or xs i 0))) in
      e
      ∙ ap (λ (p : List ℕ). spliced p (i * 2) (bytes 2 (get_or xs i 0))) so
      ∙ spliced_twice part 0 (twos_bytes (take i xs)) (omega arith) (i * 2) (bytes 2 (get_or xs i 0)) (omega arith)
      ∙ ap (spliced part 0) more

  -- all of them
  pub fronted_all : {l : List ℕ} (i : ℕ) → length xs ≤ i → Fronted l part xs i → l ≡ twos_bytes xs
  fronted_all i h so =
      so
      ∙ ap (λ (ys : List ℕ). spliced part 0 (twos_bytes ys)) (take_all i xs h)
      ∙ spliced-whole part (twos_bytes xs) (omega (arith, length-twos_bytes xs))

-- ---- read back

pub uint-twos_bytes : (xs rest : List ℕ) (i : ℕ) → i < length xs → get_or xs i 0 < 65536 → uint 2 (twos_bytes xs ++ rest) (i * 2) ≡ get_or xs i 0
unfolding twos_bytes
uint-twos_bytes [] rest i h small = absurd (omega arith)
uint-twos_bytes (x ∷ xs) rest zero h small =
    ap (λ (l : List ℕ). uint 2 l 0) (append_assoc (bytes 2 x) (twos_bytes xs) rest) ∙ uint-bytes 2 x (twos_bytes xs ++ rest) small
uint-twos_bytes (x ∷ xs) rest (suc i) h small =
    let later : List ℕ = twos_bytes xs ++ rest in
    ap₂ (uint 2) (append_assoc (bytes 2 x) (twos_bytes xs) rest) (omega arith)
    ∙ sym (uint-drop 2 2 (bytes 2 x ++ later) (i * 2))
    ∙ ap (λ (l : List ℕ). uint 2 l (i * 2)) (drop_at (bytes 2 x) later 2 (length-bytes 2 x))
    ∙ uint-twos_bytes xs rest i (omega arith) small

-- the first n of numbers written, whatever stands behind them
twos-written : (n : ℕ) (xs rest : List ℕ) → ((i : ℕ) → get_or xs i 0 < 65536) → n ≤ length xs → twos n (twos_bytes xs ++ rest) ≡ take n xs
unfolding twos
twos-written zero xs rest small h = refl
twos-written (suc n) xs rest small h =
    ap₂ (λ (l : List ℕ) (x : ℕ). l ++ x ∷ []) (twos-written n xs rest small (omega arith)) (uint-twos_bytes xs rest n (omega arith) (small n))
    ∙ sym (take-suc xs n 0 (omega arith))

pub twos_prefix : (n : ℕ) (xs : List ℕ) → ((i : ℕ) → get_or xs i 0 < 65536) → n ≤ length xs → twos n (twos_bytes xs) ≡ take n xs
twos_prefix n xs small h = ap (twos n) (sym (append-nil (twos_bytes xs))) ∙ twos-written n xs [] small h
