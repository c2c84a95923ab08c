-- Signed numbers. "Signed ones are two's complement." Assumes nothing: this is a definition.
use Rattle.std.specs.Prelude.{ℕ, ◌^◌, cond, ltb, ℤ, pos, ◌-ℤ◌}

-- the whole number that 64 bits hold: n from the lower half, n - 2 ^ 64 from the upper
unfoldable pub signed : ℕ → ℤ
signed n = cond (ltb n (2 ^ 63)) (pos n) (pos n -ℤ pos (2 ^ 64))
