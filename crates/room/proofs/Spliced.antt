-- A part of a list written over: one element more behind it, and a part that is the whole list; a list filled place after place. Assumes nothing.
use Prim.Native.Nat.{ℕ, ◌+◌, ◌<◌}
use mathlib.Core.Path.{◌≡◌, sym, ap, ◌∙◌}
use mathlib.Core.List.{List, [], ◌∷◌, ◌++◌, append-nil}
use native.Mathlib.Numerals.{add-one}
use native.Mathlib.Omega.{arith}
use borrow.Author.Count.{below_more}
use lib.ListN.{length, take, drop, get_or, set}
use lib.Seq.{length-take-le, take-suc, drop-length, get_or-set_same, get_or-set_other}
use Rattle.numbers.specs.Spliced.{spliced}
use Rattle.numbers.proofs.Spliced.{spliced_front, set-spliced, spliced_twice, length-spliced}

module _ {A : Type 0} where
  pub set-behind : (xs : List A) (a : ℕ) (ys : List A) (i : ℕ) (v : A) → a + length ys ≡ i → i < length xs
      → set (spliced xs a ys) i v ≡ spliced xs a (ys ++ v ∷ [])
  set-behind xs a ys i v e h =
      set-spliced (spliced xs a ys) i v (omega (arith, length-spliced xs a ys (omega arith)))
      ∙ spliced_twice xs a ys (omega arith) i (v ∷ []) (sym e)

  -- one more of `from`
  pub set-take-behind : (xs : List A) (a : ℕ) (from : List A) (i : ℕ) (d : A) → a + i < length xs → i < length from
      → set (spliced xs a (take i from)) (a + i) (get_or from i d) ≡ spliced xs a (take (i + 1) from)
  set-take-behind xs a from i d h k =
      set-behind xs a (take i from) (a + i) (get_or from i d) (omega (arith, length-take-le i from (omega arith))) h
      ∙ ap (spliced xs a) (rw (add-one, take-suc from i d))

  pub spliced-whole : (xs ys : List A) → length ys ≡ length xs → spliced xs 0 ys ≡ ys
  spliced-whole xs ys e =
      spliced_front xs ys
      ∙ ap (λ (k : ℕ). ys ++ drop k xs) e
      ∙ ap (λ (l : List A). ys ++ l) (drop-length xs)
      ∙ append-nil ys

-- of a list the first i are what f says, and one more is set
pub filled-set : (f : ℕ → ℕ) (l : List ℕ) (i v : ℕ) → i < length l → ((k : ℕ) → k < i → get_or l k 0 ≡ f k) → v ≡ f i → (k : ℕ) → k < i + 1 → get_or (set l i v) k 0 ≡ f k
filled-set f l i v h so e =
    below_more
    _
    i
    (λ k b. let n : k ≡ i → ⊥ = λ q. omega arith in get_or-set_other l i k v 0 n ∙ so k b)
    (get_or-set_same l i v 0 h ∙ e)
