-- Numbers in the fields of a record: whether a field can hold a number, and the bits of a signed one. Assumes nothing: these are definitions.
use Rattle.std.specs.Prelude.{ℕ, suc, ◌-◌, ◌^◌, Bool, false, cond, leb, ℤ, pos, negsuc}

-- whether a field whose highest number is `most` can hold the number
unfoldable pub fits : ℕ → ℤ → Bool
fits most (pos n) = leb n most
fits most (negsuc n) = false

-- the number, or the highest of the field where it cannot hold it
unfoldable pub clamped : ℕ → ℤ → ℕ
clamped most (pos n) = cond (leb n most) n most
clamped most (negsuc n) = most

-- "signed ones are two's complement": the 64 bits of a number
unfoldable pub bits : ℤ → ℕ
bits (pos n) = n
bits (negsuc n) = 2 ^ 64 - suc n
