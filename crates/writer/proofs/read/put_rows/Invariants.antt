-- The rows of the records gone over stand at the front. Assumes nothing.
use Rattle.writer.specs.Left.{records_left}
use Rattle.writer.proofs.Passing.{Rowing}
use Rattle.writer.proofs.read.put_rows.Given as goal

abbrev pub invariant-loop-k : goal.invariant-loop-k
invariant-loop-k l = Rowing l.book l.initial.rows l.k-iterator.count (records_left l.k-iterator.iter) l.rows
