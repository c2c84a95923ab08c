-- `writer::layout::lay_row` meets its contract: by what the row says. Assumes nothing.
use Rattle.std.proofs.Common.{arith, ◌≡◌, ◌∙◌, ap, sym, ◌<◌, length}
use Rattle.std.specs.Prelude.{Result, Ok}
use Rattle.numbers.proofs.Spliced.{set-spliced}
use Rattle.book.specs.declared.record.Record.{Record}
use Rattle.book.specs.declared.record.Record.TheVariants as r
use Rattle.book.specs.declared.refusal.Cause.{Cause}
use Rattle.writer.specs.Bytes.{said_bytes, record_bytes}
use Rattle.writer.specs.Layout.{wording_for, row_bytes}
use Rattle.writer.proofs.Laying.{row_size-some}
use Rattle.writer.proofs.layout.lay_row.Goals as goal
use Rattle.writer.proofs.layout.lay_row.Goals.{in-Ok-Rule, in-Ok-Condition, in-Ok-Test, in-Ok-End, in-Err}

pub returns-clause-laid : goal.returns-clause-laid
unfolding row_bytes said_bytes record_bytes
returns-clause-laid c =
    let row = c.args.row.now in
    let words = wording_for row c.args.wordings.now in
    let laid : (said : Result Record Cause) → c.record_of-said.result ≡ said → row_bytes row c.args.wordings.now ≡ said_bytes said words = λ said e. ap (λ (s : Result Record Cause). said_bytes s words) (sym c.record_of-said.ensures ∙ e) in
    let inside : c.args.at < length c.args.out.now = omega (arith, row_size-some row) in
    elim c.match-said.branch [
      | in-Ok-Rule w ↦
          let a = w.in-Ok-Rule.is in
          let b : w.in-Ok-Rule.field-0 ≡ r.Rule w.in-Ok-Rule.number = rw a at w.in-Ok-Rule.field-0-is in
          rw (w.out-is, laid _ (a ∙ ap Ok b), ← w.wording_for.ensures) w.put_rule.ensures
      | in-Ok-Condition w ↦
          let a = w.in-Ok-Condition.is in
          let b : w.in-Ok-Condition.field-0 ≡ r.Condition = rw a at w.in-Ok-Condition.field-0-is in
          rw (w.out-is, laid _ (a ∙ ap Ok b)) (set-spliced _ _ _ inside)
      | in-Ok-Test w ↦
          let a = w.in-Ok-Test.is in
          let b : w.in-Ok-Test.field-0 ≡ r.Test w.in-Ok-Test.t = rw a at w.in-Ok-Test.field-0-is in
          rw (w.out-is, laid _ (a ∙ ap Ok b)) w.put_test.ensures
      | in-Ok-End w ↦
          let a = w.in-Ok-End.is in
          let b : w.in-Ok-End.field-0 ≡ r.End = rw a at w.in-Ok-End.field-0-is in
          rw (w.out-is, laid _ (a ∙ ap Ok b)) (set-spliced _ _ _ inside)
      | in-Err w ↦ rw (w.out-is, laid _ w.in-Err.is) (set-spliced _ _ _ inside)
    ]
