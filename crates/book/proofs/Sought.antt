-- A rule sought by its number among the places of rule records, one place after the other.
-- Assumes nothing.
use Prim.Native.Nat.{ℕ, ◌+◌, ◌<◌}
use mathlib.Core.Path.{◌≡◌}
use mathlib.Core.List.{List}
use native.Mathlib.Numerals.{add-one}
use borrow.Author.Tests.{eq-eqb, ne_eqb}
use lib.ListN.{length, drop, get_or}
use lib.Seq.{drop-cons, drop-length}
use Rattle.std.specs.Prelude.{Ok, Err}
use Rattle.numbers.specs.BigEndian.{uint}
use Rattle.book.specs.declared.refusal.Cause.TheVariants.{NoSuchRule}
use Rattle.book.specs.Refusals.{refusal}
use Rattle.book.specs.Wording.{sought}

module _ (book places : List ℕ) (n : ℕ) where
  pub sought-here : (i : ℕ) → i < length places → uint 2 book (get_or places i 0 + 1) ≡ n → sought book (drop i places) n ≡ Ok (get_or places i 0 + 3)
  unfolding sought
  sought-here i l e = rw (drop-cons places i 0 l, eq-eqb (uint 2 book (get_or places i 0 + 1)) n e)

  pub sought-on : (i : ℕ) → i < length places → (uint 2 book (get_or places i 0 + 1) ≡ n → ⊥) → sought book (drop i places) n ≡ sought book (drop (i + 1) places) n
  unfolding sought
  sought-on i l e = rw (drop-cons places i 0 l, ne_eqb (uint 2 book (get_or places i 0 + 1)) n e, add-one i)

  pub sought-over : sought book (drop (length places) places) n ≡ Err (refusal NoSuchRule 0)
  unfolding sought
  sought-over = rw drop-length
