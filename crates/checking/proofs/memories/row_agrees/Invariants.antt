-- The bits of the conditions before c are the same.
use Rattle.std.proofs.Common.{◌≡◌, ℕ, ◌<◌}
use Rattle.room.specs.Held.{in_memory}
use Rattle.checking.proofs.memories.row_agrees.Given as goal

abbrev pub invariant-loop-c : goal.invariant-loop-c
invariant-loop-c l = (k : ℕ) → k < l.c → in_memory l.rows k l.s ≡ in_memory l.row k 0
