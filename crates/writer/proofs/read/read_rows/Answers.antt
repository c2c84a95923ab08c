-- `writer::read::read_rows` meets its contract: by the reader's verdict, and then by what was lent. Assumes nothing.
use Rattle.std.proofs.Common.{arith, refl, ap, ◌∙◌, ℕ, ◌<◌, length-take, get_or-take}
use Rattle.std.proofs.lemmas.Result.{err_from_is_err_and}
use Rattle.numbers.specs.Spliced.{spliced}
use Rattle.book.proofs.Wordings.{accepted-within}
use Rattle.writer.specs.Promise.{left_by}
use Rattle.writer.proofs.Reading.{rows-refused, rows_are, wordings_are, rows_fit, rows_few, wordings_few, rows-read}
use Rattle.writer.proofs.read.read_rows.Goals as goal
use Rattle.writer.proofs.read.read_rows.Goals.{then-rows-records-via-then-rows-records, then-rows-records-via-else-rows-records+then-wordings-rules}

pub returns-in_err-found : goal.returns-in_err-found
unfolding left_by
returns-in_err-found c =
    let a = c.args in
    let p = err_from_is_err_and c.from_residual.result c.from_residual.ensures.1 in
    rw (p.1, p.2) (record { answered = rows-refused a.book.now _ _ _ c.in_err-found.ensures; rows_left = refl; wordings_left = refl })

pub returns-then-rows-records : goal.returns-then-rows-records
unfolding left_by
returns-then-rows-records c =
    let a = c.args in
    let e = c.in_ok-found.ensures in
    let n = c.record_count-records in
    record {
      answered = elim c.then-rows-records.branch [
        | then-rows-records-via-then-rows-records w ↦ rows_few a.book.now _ e n.result n.ensures _ _ w.if-rows-records.true
        | then-rows-records-via-else-rows-records+then-wordings-rules w ↦ wordings_few a.book.now _ e n.result n.ensures _ _ w.if-rows-records.false w.if-wordings-rules.true
      ];
      rows_left = refl;
      wordings_left = refl;
    }

pub put_rows-requires : goal.put_rows-requires
put_rows-requires c = rows_fit c.args.book.now _ c.in_ok-found.ensures c.record_count-records.result c.record_count-records.ensures _ 0 c.if-rows-records.false

pub put_wordings-requires-clause-inside : goal.put_wordings-requires-clause-inside
put_wordings-requires-clause-inside c = λ k h.
    let within = accepted-within c.args.book.now _ c.in_ok-found.ensures in
    let m : k < c.in_ok-found.found.size.rules = omega (arith, length-take {A = ℕ}) in
    rw get_or-take (within.1 k m)

pub returns : goal.returns
unfolding left_by
returns c =
    let a = c.args in
    let e = c.in_ok-found.ensures in
    let n = c.record_count-records in
    record {
      answered = rows-read a.book.now _ e n.result n.ensures _ _ c.if-rows-records.false c.if-wordings-rules.false;
      rows_left = c.put_rows.ensures ∙ ap (spliced a.rows.now 0) (rows_are a.book.now _ e);
      wordings_left = c.put_wordings.ensures ∙ ap (spliced a.wordings.now 0) (wordings_are a.book.now _ e);
    }
