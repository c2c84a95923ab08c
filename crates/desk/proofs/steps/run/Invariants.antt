-- The bytes read and not yet taken, from `at` up to `have`, are within the chunk: `refill` answers at most its length, and `take` takes no more than it is lent.
use Rattle.std.proofs.Common.{◌≤◌, length, ◌≡◌}
use Rattle.desk.proofs.steps.run.Given as goal

abbrev pub invariant-loop : goal.invariant-loop
invariant-loop g l = (length l.chunk ≡ length l.initial.chunk) × (l.at ≤ l.have) × (l.have ≤ length l.initial.chunk)
