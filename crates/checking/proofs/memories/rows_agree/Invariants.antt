-- The rows of the slots before place i of the order are as asked, and the numbers of the header are as read.
use Rattle.std.proofs.Common.{ℕ, ◌+◌, ◌<◌, get_or}
use Rattle.checking.proofs.Numbers.{Numbered}
use Rattle.checking.proofs.RowsLaws.{RowAgrees}
use Rattle.checking.proofs.memories.rows_agree.Given as goal

abbrev pub invariant-loop-i : goal.invariant-loop-i
invariant-loop-i l = Numbered l.room l.n l.end l.conditions × ((k : ℕ) → k < l.i → RowAgrees l.room (get_or l.room (8816 + k) 0))
