-- The first loop: the first i numbers stand in the array, their bytes the wrong way round. The second: the first i numbers are written over the front of the table.
use Rattle.std.proofs.Common.{◌≡◌, ℕ, ◌+◌, ◌*◌, ◌/◌, ◌%◌, ◌<◌, get_or}
use Rattle.room.proofs.Twos.{Fronted}
use Rattle.room.proofs.table.put_table.Given as goal

abbrev pub invariant-loop-i : goal.invariant-loop-i
invariant-loop-i l = (k : ℕ) → k < l.i → get_or l.y-items k 0 ≡ get_or l.numbers k 0 % 256 * 256 + get_or l.numbers k 0 / 256

abbrev pub invariant-loop-i-2 : goal.invariant-loop-i-2
invariant-loop-i-2 l = Fronted l.table l.initial.table l.numbers l.i
