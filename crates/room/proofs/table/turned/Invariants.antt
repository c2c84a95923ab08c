-- The loop: the first i numbers of the table stand in the array, their bytes the wrong way round.
use Rattle.room.proofs.Turned.{Turned}
use Rattle.room.proofs.table.turned.Given as goal

abbrev pub invariant-loop-i : goal.invariant-loop-i
invariant-loop-i l = Turned l.y-items l.table l.i
