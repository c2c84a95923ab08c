-- The answer is that of the rows left at the place left. Assumes nothing.
use Rattle.std.proofs.Common.{◌≡◌, ◌-◌, ◌*◌, drop}
use Rattle.writer.specs.Layout.{row_count, unfit_at}
use Rattle.writer.proofs.layout.is_unfit_at.Given as goal

abbrev pub invariant-loop-row : goal.invariant-loop-row
invariant-loop-row l = unfit_at (row_count l.rows) l.rows l.place ≡ unfit_at (row_count l.rows - l.row-index) (drop (l.row-index * 6) l.rows) l.left
