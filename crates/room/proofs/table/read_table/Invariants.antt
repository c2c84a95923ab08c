-- The loop: the first i numbers of the table stand in `numbers`.
use Rattle.std.proofs.Common.{◌≡◌, ℕ, ◌*◌, ◌<◌, get_or}
use Rattle.numbers.specs.BigEndian.{uint}
use Rattle.room.proofs.table.read_table.Given as goal

abbrev pub invariant-loop-i : goal.invariant-loop-i
invariant-loop-i l = (k : ℕ) → k < l.i → get_or l.numbers k 0 ≡ uint 2 l.table (k * 2)
