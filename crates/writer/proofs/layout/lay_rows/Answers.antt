-- `writer::layout::lay_rows` meets its contract. Assumes nothing.
use Rattle.std.proofs.Common.{arith}
use Rattle.writer.proofs.Laying.{row_at, laying_none, laying_more, laying_room, laying_length, laying_over}
use Rattle.writer.proofs.layout.lay_rows.Goals as goal

pub loop-row-init : goal.loop-row-init
loop-row-init c = laying_none _ _ _

pub lay_row-at-requires : goal.lay_row-at-requires
lay_row-at-requires c =
    let row = row_at c.args.rows.now c.as_chunks.result.0.now c.loop-row.row-index c.as_chunks.ensures.front (omega arith) in
    laying_room _ _ _ _ _ _ _ c.loop-row.invariant c.requires _ row

pub overflow_add-at : goal.overflow_add-at
overflow_add-at c =
    let row = row_at c.args.rows.now c.as_chunks.result.0.now c.loop-row.row-index c.as_chunks.ensures.front (omega arith) in
    let room = laying_room _ _ _ _ _ _ _ c.loop-row.invariant c.requires _ row in
    let long = laying_length _ _ _ _ _ _ _ c.loop-row.invariant c.requires in
    record { fits = omega arith }

pub loop-row-preserved : goal.loop-row-preserved
loop-row-preserved c =
    let row = row_at c.args.rows.now c.as_chunks.result.0.now c.loop-row.row-index c.as_chunks.ensures.front (omega arith) in
    laying_more _ _ _ _ _ _ _ c.loop-row.invariant _ row _ _ _ c.lay_row-at.ensures.size c.wordings_after-left.ensures c.lay_row-at.ensures.laid

pub bounds-out-at : goal.bounds-out-at
bounds-out-at c = (laying_over _ _ _ _ _ _ _ c.loop-row.invariant c.requires (omega arith)).0

pub returns : goal.returns
returns c = (laying_over _ _ _ _ _ _ _ c.loop-row.invariant c.requires (omega arith)).1
