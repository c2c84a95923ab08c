-- Things laid one after the other: one more behind the last, and the last one changed.
-- Assumes nothing.
use Prim.Native.Nat.{ℕ, ◌+◌, ◌<◌}
use mathlib.Core.Path.{◌≡◌, refl}
use mathlib.Core.List.{List, [], ◌∷◌, ◌++◌}
use native.Mathlib.Omega.{arith}
use lib.ListN.{length}
use Rattle.book.specs.Record.{test_size}
use Rattle.book.specs.Rules.{last_or, on_last, tests_size, conditions_size, rules_size}
use Rattle.book.specs.Stands.{Laid, condition_size, rule_size}

-- ---- what a list takes is what its elements take together

pub record Sums {A : Type 0} (size : A → ℕ) (total : List A → ℕ) : Type 0 where
  pub none : total [] ≡ 0
  pub more : (a : A) (l : List A) → total (a ∷ l) ≡ size a + total l

pub tests_sums : Sums test_size tests_size
unfolding tests_size
tests_sums = record { none = refl; more = λ t tests. refl }

pub conditions_sums : Sums condition_size conditions_size
unfolding conditions_size
conditions_sums = record { none = refl; more = λ tests conditions. refl }

pub rules_sums : Sums rule_size rules_size
unfolding rules_size
rules_sums = record { none = refl; more = λ rule rules. refl }

-- each element counts one
pub length_sums : {A : Type 0} → Sums {A = A} (λ a. 1) length
length_sums = record { none = refl; more = λ a l. omega arith }

-- ---- one more, and the last one changed

module _ {A : Type 0} {size : A → ℕ} {total : List A → ℕ} (sums : Sums size total) where
  pub total-append : (l : List A) (a : A) → total (l ++ a ∷ []) ≡ total l + size a
  total-append [] a = omega (arith, sums.none, sums.more a [])
  total-append (b ∷ l) a = omega (arith, total-append l a, sums.more b (l ++ a ∷ []), sums.more b l)

  pub total-on_last : (f : A → A) (n : ℕ) (d : A) (l : List A) → 0 < length l → size (f (last_or d l)) ≡ size (last_or d l) + n → total (on_last f l) ≡ total l + n
  unfolding last_or on_last
  total-on_last f n d [] h e = absurd (omega arith)
  total-on_last f n d (a ∷ []) h e = omega (arith, sums.more (f a) [], sums.more a [])
  total-on_last f n d (a ∷ (b ∷ l)) h e =
      omega (arith, sums.more a (on_last f (b ∷ l)), sums.more a (b ∷ l), total-on_last f n d (b ∷ l) (omega arith) e)

  module _ (Stands : ℕ → A → Type 0) where
    pub laid-append : (at : ℕ) (l : List A) (a : A) → Laid size Stands at l → Stands (at + total l) a → Laid size Stands at (l ++ a ∷ [])
    laid-append at [] a h s = let e : at + total [] ≡ at = omega (arith, sums.none) in (rw e at s, tt)
    laid-append at (b ∷ l) a h s =
        let e : at + total (b ∷ l) ≡ at + size b + total l = omega (arith, sums.more b l) in
        (h.0, laid-append (at + size b) l a h.1 (rw e at s))

    -- the last one ends where all end
    pub laid-on_last : (f : A → A) (d : A) (at : ℕ) (l : List A) → Laid size Stands at l
        → ((p : ℕ) → p + size (last_or d l) ≡ at + total l → Stands p (last_or d l) → Stands p (f (last_or d l)))
        → Laid size Stands at (on_last f l)
    unfolding last_or on_last
    laid-on_last f d at [] h s = tt
    laid-on_last f d at (a ∷ []) h s = (s at (omega (arith, sums.none, sums.more a [])) h.0, tt)
    laid-on_last f d at (a ∷ (b ∷ l)) h s =
        (h.0, laid-on_last f d (at + size a) (b ∷ l) h.1 (λ p e. s p (omega (arith, e, sums.more a (b ∷ l)))))
