-- `writer::read::record_count` meets its contract. Assumes nothing.
use Rattle.std.proofs.Common.{arith, refl, ap, ◌∙◌, length}
use Rattle.std.proofs.lemmas.Iterator.Consumers.{YieldsList-from_first, count_from_yields_List}
use mathlib.Core.Logic.{inl}
use Rattle.writer.specs.Left.{records_at, records_left}
use Rattle.writer.proofs.Passing.{left_all, length-left}
use Rattle.writer.proofs.read.record_count.Goals as goal

pub count-requires-clause-fits : goal.count-requires-clause-fits
count-requires-clause-fits c = inl (omega (arith, length-left c.args.book.now))

pub returns : goal.returns
returns c =
    count_from_yields_List _ c.count.result c.count.ensures.ran (YieldsList-from_first (λ x. x) records_left (records_at c.args.book.now 0) refl) ∙ ap length (left_all c.args.book.now)
