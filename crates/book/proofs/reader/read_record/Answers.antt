-- A record that was taken apart stands whole within the book.
use Rattle.std.proofs.Common.{sym, arith}
use Rattle.book.proofs.RecordLaws.{record_within}
use Rattle.book.proofs.reader.read_record.Goals as goal

pub overflow_add-from : goal.overflow_add-from
overflow_add-from c = omega (arith, record_within _ _ _ (sym c.in_ok-record.ensures))

pub slice_bounds-judge-count : goal.slice_bounds-judge-count
slice_bounds-judge-count c = omega (arith, record_within _ _ _ (sym c.in_ok-record.ensures))

pub slice_bounds-judge-start : goal.slice_bounds-judge-start
slice_bounds-judge-start c = omega (arith, record_within _ _ _ (sym c.in_ok-record.ensures))

pub overflow_add-result : goal.overflow_add-result
overflow_add-result c = omega (arith, c.size_of.ensures, record_within _ _ _ (sym c.in_ok-record.ensures))
