-- Decimal digits. "In decimal without leading zeros." Assumes nothing: these are definitions.
use Rattle.std.specs.Prelude.{ℕ, zero, suc, ◌+◌, ◌/◌, ◌%◌, List, [], ◌∷◌, ◌++◌, cond, ltb}

-- of a number at most as large as the first argument: below ten its one digit, else the digits of its tenth and then the last one
unfoldable pub digits_to : ℕ → ℕ → List ℕ
digits_to zero x = 48 ∷ []
digits_to (suc most) x = cond (ltb x 10) ((48 + x) ∷ []) (digits_to most (x / 10) ++ ((48 + x % 10) ∷ []))

-- the digits of x as bytes
unfoldable pub digits : ℕ → List ℕ
digits x = digits_to x x
