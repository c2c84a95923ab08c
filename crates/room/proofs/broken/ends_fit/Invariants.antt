-- The loop: the first i numbers of both tables are at most `most`.
use Rattle.std.proofs.Common.{ℕ, ◌+◌, ◌*◌, ◌≤◌, ◌<◌}
use Rattle.numbers.specs.BigEndian.{uint}
use Rattle.room.proofs.broken.ends_fit.Given as goal

abbrev pub invariant-loop-i : goal.invariant-loop-i
invariant-loop-i l = (k : ℕ) → k < l.i → (uint 2 l.room (8688 + k * 2) ≤ l.most) × (uint 2 l.room (8752 + k * 2) ≤ l.most)
