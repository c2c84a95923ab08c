-- The bytes counted and those of the rows left are those of all rows. Assumes nothing.
use Rattle.std.proofs.Common.{◌≡◌, ◌+◌, ◌-◌, ◌*◌, drop}
use Rattle.writer.specs.Layout.{laid_size, row_count}
use Rattle.writer.proofs.layout.book_length.Given as goal

abbrev pub invariant-loop-row : goal.invariant-loop-row
invariant-loop-row l = l.length + laid_size (row_count l.rows - l.row-index) (drop (l.row-index * 6) l.rows) ≡ laid_size (row_count l.rows) l.rows + 1
