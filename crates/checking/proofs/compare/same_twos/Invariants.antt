-- The numbers looked at so far are the same.
use Rattle.std.proofs.Common.{◌≡◌, ℕ, ◌*◌, ◌<◌, get_or}
use Rattle.numbers.specs.BigEndian.{uint}
use Rattle.checking.proofs.compare.same_twos.Given as goal

abbrev pub invariant-loop-i : goal.invariant-loop-i
invariant-loop-i l = (k : ℕ) → k < l.i → uint 2 l.table (k * 2) ≡ get_or l.fn.numbers k 0
