-- The loop: the first k numbers of the header are at most the k highest that they may be.
use Rattle.std.proofs.Common.{ℕ, ◌*◌, ◌≤◌, ◌<◌, get_or}
use Rattle.numbers.specs.BigEndian.{uint}
use Rattle.room.proofs.broken.head_fits.Given as goal

abbrev pub invariant-loop-k : goal.invariant-loop-k
invariant-loop-k l = (j : ℕ) → j < l.k → uint 2 l.room (j * 2) ≤ get_or l.most-items j 0
