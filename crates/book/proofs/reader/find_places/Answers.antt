-- Each record leads the reading onward, or ends it with the whole reading's answer.
use Rattle.std.proofs.Common.{refl, ◌≤◌, length, arith, rules}
use Rattle.book.specs.Rules.{standing, last_or, no_rule, condition_count}
use Rattle.book.proofs.Reached.{reached-start, reached-on, reached-done, reached-refused, bounded_within, read_too_long}
use Rattle.book.proofs.reader.find_places.Goals as goal

pub returns-then-book-gt-MOST_BYTES : goal.returns-then-book-gt-MOST_BYTES
returns-then-book-gt-MOST_BYTES c = read_too_long c.args.book.now c.if-book-gt-MOST_BYTES.true

pub loop-record-init : goal.loop-record-init
unfolding standing last_or no_rule condition_count
loop-record-init c =
    let short : length c.args.book.now ≤ 8192 = c.if-book-gt-MOST_BYTES.false in
    record { short = short; within = omega arith; reached = reached-start _ short _ _ refl c.none-places.ensures }

pub returns-in_err-record : goal.returns-in_err-record
returns-in_err-record c = let h = reached-refused _ _ _ _ c.loop-record.invariant.reached _ c.in_err-record.ensures in search rules

pub note-requires : goal.note-requires
note-requires c = omega (arith, (reached-on _ _ _ _ c.loop-record.invariant.reached _ _ _ c.in_ok-record.ensures c.in-On.is).1, c.loop-record.invariant.short)

pub stood-standing-requires : goal.stood-standing-requires
stood-standing-requires c = bounded_within _ c.loop-record.invariant.reached.kept

pub loop-record-smaller : goal.loop-record-smaller
loop-record-smaller c = omega (arith, (reached-on _ _ _ _ c.loop-record.invariant.reached _ _ _ c.in_ok-record.ensures c.in-On.is).1)

pub loop-record-preserved : goal.loop-record-preserved
loop-record-preserved c =
    let onward = reached-on _ _ _ _ c.loop-record.invariant.reached _ _ _ c.in_ok-record.ensures c.in-On.is in
    record { short = c.loop-record.invariant.short; within = onward.1.1; reached = rw (c.stood-standing.ensures, c.note.ensures) onward.0 }

pub returns-in-Done : goal.returns-in-Done
returns-in-Done c = reached-done _ _ _ _ c.loop-record.invariant.reached _ _ c.in_ok-record.ensures c.in-Done.is
