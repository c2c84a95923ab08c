-- `writer::write::write_book` meets its contract: a book that would be too long is refused with 1, as the reader does; any other is laid out and judged. Assumes nothing.
use Rattle.std.proofs.Common.{refl, rules}
use Rattle.writer.specs.Promise.{buffer_left}
use Rattle.writer.proofs.Judging.{laid-filled, write_long}
use Rattle.writer.proofs.write.write_book.Goals as goal

pub returns-then-length-gt-MOST_BYTES : goal.returns-then-length-gt-MOST_BYTES
unfolding buffer_left
returns-then-length-gt-MOST_BYTES c =
    record { answered = write_long c.args.rows.now c.args.wordings.now _ _ c.book_length-length.ensures c.if-length-gt-MOST_BYTES.true; written = refl }

pub returns : goal.returns
returns c =
    let filled = laid-filled c.args.rows.now c.args.wordings.now _ c.book_length-length.ensures c.if-length-gt-MOST_BYTES.false _ _ (search rules) c.lay_rows.ensures in
    rw filled at c.judge_laid.ensures
