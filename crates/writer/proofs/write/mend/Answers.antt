-- `writer::write::mend` meets its contract. Assumes nothing.
use Rattle.std.proofs.Common.{sym, ◌∙◌}
use Rattle.writer.proofs.Judging.{mended-five, mended-fit, mended-other}
use Rattle.writer.proofs.write.mend.Goals as goal
use Rattle.writer.proofs.write.mend.Goals.{else-eq-via-then-eq+else-is_unfit_at, else-eq-via-else-eq}

pub returns-then-is_unfit_at : goal.returns-then-is_unfit_at
returns-then-is_unfit_at c = mended-five c.args.rows.now c.args.refusal c.eq.result c.eq.ensures c.if-eq.true (sym c.is_unfit_at.ensures ∙ c.if-is_unfit_at.true)

pub returns : goal.returns
returns c =
    elim c.else-eq.branch [
      | else-eq-via-then-eq+else-is_unfit_at w ↦ mended-fit c.args.rows.now c.args.refusal c.eq.result c.eq.ensures (sym w.is_unfit_at.ensures ∙ w.if-is_unfit_at.false)
      | else-eq-via-else-eq w ↦ mended-other c.args.rows.now c.args.refusal c.eq.result c.eq.ensures w.if-eq.false
    ]
