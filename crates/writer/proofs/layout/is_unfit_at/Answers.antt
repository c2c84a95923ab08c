-- `writer::layout::is_unfit_at` meets its contract. Assumes nothing.
use Rattle.std.proofs.Common.{arith, ◌-◌, ℕ, ap, sym, ◌∙◌}
use Rattle.writer.specs.Rows.{span_of}
use Rattle.writer.specs.Layout.{unfit_at}
use Rattle.writer.proofs.Laying.{row_at, unfit_at-here, unfit_at-next, unfit_at-over}
use Rattle.writer.proofs.layout.is_unfit_at.Goals as goal

pub returns-then-left-eq0 : goal.returns-then-left-eq0
returns-then-left-eq0 c =
    let row = row_at c.args.rows.now c.as_chunks.result.0.now c.loop-row.row-index c.as_chunks.ensures.front (omega arith) in
    c.is_unfit_rule.ensures ∙ sym (c.loop-row.invariant ∙ unfit_at-here _ _ _ row c.loop-row.left c.if-left-eq0.true)

pub loop-row-preserved : goal.loop-row-preserved
loop-row-preserved c =
    let row = row_at c.args.rows.now c.as_chunks.result.0.now c.loop-row.row-index c.as_chunks.ensures.front (omega arith) in
    let size = c.row_size.ensures ∙ ap span_of c.record_of.ensures in
    let left = c.saturating_sub-left.ensures ∙ ap (λ (n : ℕ). c.loop-row.left - n) size in
    c.loop-row.invariant ∙ unfit_at-next _ _ _ row c.loop-row.left (omega arith) ∙ ap (unfit_at _ _) (sym left)

pub returns : goal.returns
returns c = sym (c.loop-row.invariant ∙ unfit_at-over _ _ c.args.rows.now c.loop-row.left (omega arith))
