-- `writer::write::judge_laid` meets its contract: by the reader's verdict, and then by the buffer's length. Assumes nothing.
use Rattle.std.proofs.Common.{refl, ap, ◌∙◌, length}
use Rattle.std.specs.Prelude.{Err}
use Rattle.numbers.proofs.Spliced.{spliced_front}
use Rattle.book.specs.Read.{read_book}
use Rattle.writer.specs.Promise.{buffer_left}
use Rattle.writer.proofs.Judging.{write_refused, write_short, write_fits}
use Rattle.writer.proofs.write.judge_laid.Goals as goal

pub returns-in-Err : goal.returns-in-Err
unfolding buffer_left
returns-in-Err c =
    let a = c.args in
    record { answered = ap Err c.mend.ensures ∙ write_refused a.rows.now (length a.laid.now) (length a.buffer.now) (read_book a.laid.now) _ c.in-Err.ensures; written = refl }

pub returns-in-Ok : goal.returns-in-Ok
unfolding buffer_left
returns-in-Ok c =
    let a = c.args in
    record { answered = write_short a.rows.now (length a.laid.now) (length a.buffer.now) (read_book a.laid.now) _ c.in-Ok.ensures c.if-buffer-laid.true; written = refl }

pub returns-in-Ok-2 : goal.returns-in-Ok-2
unfolding buffer_left
returns-in-Ok-2 c =
    let a = c.args in
    record {
      answered = write_fits a.rows.now (length a.laid.now) (length a.buffer.now) (read_book a.laid.now) _ c.in-Ok-2.ensures c.if-buffer-laid.false;
      written = rw (spliced_front, c.copy_from_slice.ensures.after);
    }
