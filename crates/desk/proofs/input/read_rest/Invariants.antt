-- What is read so far lies within the array. The measure is how much of the array is free: each turn reads at least one byte, or is the last.
use Rattle.std.proofs.Common.{length, ◌-◌, ◌≤◌}
use Rattle.desk.proofs.input.read_rest.Given as goal

abbrev pub invariant-loop-have : goal.invariant-loop-have
invariant-loop-have g l = l.have ≤ length l.initial.space

abbrev pub decreases-loop-have : goal.decreases-loop-have
decreases-loop-have g l = length l.initial.space - l.have
