-- The rows gone over stand laid out, one behind the other, and the others are to be laid out behind them. Assumes nothing.
use Rattle.writer.proofs.Laying.{Laying}
use Rattle.writer.proofs.layout.lay_rows.Given as goal

abbrev pub invariant-loop-row : goal.invariant-loop-row
invariant-loop-row l = Laying l.initial.out l.rows l.wordings l.row-index l.at l.left l.out
