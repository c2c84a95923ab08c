-- `next` of `writer::read::Records` meets its contract: the record at the place is the first of those left. Assumes nothing.
use Rattle.std.proofs.Common.{arith, rules, ◌≡◌, ◌+◌, ◌∷◌, [], ap, sym, ◌∙◌}
use Rattle.book.proofs.RecordLaws.{record_within}
use Rattle.writer.specs.Left.{records_at, records_left}
use Rattle.writer.proofs.Passing.{left_end, left-more, said_ok, said-none}
use Rattle.writer.proofs.read.RecordsIterator.next.Goals as goal

pub overflow_add-self : goal.overflow_add-self
overflow_add-self c =
    let w = record_within _ _ _ (said_ok _ _ _ c.record_at.ensures _ c.in_ok-record.ensures.value) in
    record { fits = omega (arith, c.size_of.ensures) }

pub returns-in_err-record : goal.returns-in_err-record
returns-in_err-record c =
    let none : records_left c.args.self.now ≡ [] = said-none _ _ _ c.record_at.ensures c.in_err-record.ensures.value in
    rw c.from_residual.ensures (record { steps = (none, none); goes = search rules })

pub returns-in-End-clause-steps : goal.returns-in-End-clause-steps
returns-in-End-clause-steps c =
    let none = left_end _ _ (said_ok _ _ _ c.record_at.ensures _ (rw c.in-End.is at c.in_ok-record.ensures.value)) in
    (none, none)

pub returns : goal.returns
returns c =
    let at = c.args.self.now.at in
    let book = c.args.self.now.book.now in
    let more : records_at book at ≡ c.in_ok-record.record ∷ records_at book (at + c.size_of.result) =
    left-more book at _ (said_ok _ _ _ c.record_at.ensures _ c.in_ok-record.ensures.value) c.in_default.not-End
    ∙ ap (λ n. c.in_ok-record.record ∷ records_at book (at + n)) (sym c.size_of.ensures) in
    record { steps = more; goes = search rules }
