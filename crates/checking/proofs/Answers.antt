-- The answer of a test that looks at one thing after another: yes where all is as asked, no as soon as something is not. Assumes nothing.
use mathlib.Core.Path.{◌≡◌, refl}
use mathlib.Core.Bool.{Bool, true, false, not, beq, xor, false≢true, true≢false}
use mathlib.Core.Logic.{◌↔◌}
use mathlib.Mathlib.Data.Bool.Basic.{xor_iff_ne}

module _ {P : Type 0} where
  pub yes : P → (true ≡ true) ↔ P
  yes p = (λ e. p, λ q. refl)

  pub no : (P → ⊥) → (false ≡ true) ↔ P
  no n = (λ e. absurd (false≢true e), λ p. absurd (n p))

-- two answers compared
pub unlike : (a b : Bool) → not (beq a b) ≡ true → a ≡ b → ⊥
unfolding xor
unlike a b = xor_iff_ne.0

pub alike : (a b : Bool) → not (beq a b) ≡ false → a ≡ b
alike true true h = refl
alike true false h = absurd (true≢false h)
alike false true h = absurd (true≢false h)
alike false false h = refl
