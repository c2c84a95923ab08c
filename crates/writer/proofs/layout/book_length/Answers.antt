-- `writer::layout::book_length` meets its contract. Assumes nothing.
use Rattle.std.proofs.Common.{arith, [], get_or, ap}
use Rattle.writer.specs.Rows.{span_of}
use Rattle.writer.proofs.Laying.{row_at, row_size-some, laid_size-next, counted-over, counted-all}
use Rattle.writer.proofs.layout.book_length.Goals as goal

pub returns-then-length-gt-MOST_BYTES : goal.returns-then-length-gt-MOST_BYTES
returns-then-length-gt-MOST_BYTES c = counted-over _ _ _ c.loop-row.invariant c.if-length-gt-MOST_BYTES.true

pub overflow_add-length : goal.overflow_add-length
overflow_add-length c =
    let some = row_size-some (get_or c.as_chunks.result.0.now c.loop-row.row-index []) in
    record { fits = omega (arith, ap span_of c.record_of.ensures) }

pub loop-row-preserved : goal.loop-row-preserved
loop-row-preserved c =
    let row = row_at c.args.rows.now c.as_chunks.result.0.now c.loop-row.row-index c.as_chunks.ensures.front (omega arith) in
    omega (arith, ap span_of c.record_of.ensures, laid_size-next _ _ _ row)

pub returns : goal.returns
returns c = counted-all _ _ _ c.loop-row.invariant (omega arith)
