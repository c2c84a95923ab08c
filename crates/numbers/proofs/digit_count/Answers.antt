-- `numbers::digit_count` meets its contract: each comparison that fails says that `x` is from the next power of ten on, and the one that holds that it is below the one after.
-- Assumes nothing.
use Prim.Native.Nat.{ℕ, suc, ◌^◌, ◌≤◌, ◌<◌}
use mathlib.Core.Path.{◌≡◌}
use native.Mathlib.Omega.{arith}
use lib.ListN.{length}
use Rattle.numbers.specs.Digits.{digits}
use Rattle.numbers.proofs.Digits.{length-digits-small, length_digits_from}
use Rattle.numbers.proofs.digit_count.Goals as goal

counted : (k x : ℕ) → k < 10 → 10 ^ k ≤ x → x < 10 ^ suc k → (suc k ≡ length (digits x)) × (suc k ≤ 10)
counted k x few l h = omega (arith, length_digits_from k x l h)

pub returns-then-x-lt10 : goal.returns-then-x-lt10
returns-then-x-lt10 c = omega (arith, length-digits-small c.args.x (omega arith))

pub returns-then-x-lt100 : goal.returns-then-x-lt100
returns-then-x-lt100 c = counted 1 _ (omega arith) (omega arith) (omega arith)

pub returns-then-x-lt1000 : goal.returns-then-x-lt1000
returns-then-x-lt1000 c = counted 2 _ (omega arith) (omega arith) (omega arith)

pub returns-then-x-lt10000 : goal.returns-then-x-lt10000
returns-then-x-lt10000 c = counted 3 _ (omega arith) (omega arith) (omega arith)

pub returns-then-x-lt100000 : goal.returns-then-x-lt100000
returns-then-x-lt100000 c = counted 4 _ (omega arith) (omega arith) (omega arith)

pub returns-then-x-lt1000000 : goal.returns-then-x-lt1000000
returns-then-x-lt1000000 c = counted 5 _ (omega arith) (omega arith) (omega arith)

pub returns-then-x-lt10000000 : goal.returns-then-x-lt10000000
returns-then-x-lt10000000 c = counted 6 _ (omega arith) (omega arith) (omega arith)

pub returns-then-x-lt100000000 : goal.returns-then-x-lt100000000
returns-then-x-lt100000000 c = counted 7 _ (omega arith) (omega arith) (omega arith)

pub returns-then-x-lt1000000000 : goal.returns-then-x-lt1000000000
returns-then-x-lt1000000000 c = counted 8 _ (omega arith) (omega arith) (omega arith)

pub returns : goal.returns
returns c = counted 9 _ (omega arith) (omega arith) (omega arith)
