-- `malletfrond::line` meets its contract: a broken room is refused by 10; a complaint that is past the counted ones, is not found, or names a rule whose record goes past
-- the book, by 16; any other is put in the buffer, or refused by 15 where it has no place there, as `lines-put` says. Assumes nothing.
use Rattle.std.proofs.Common.{arith, refl}
use lib.Dec.{lit≤}
use Rattle.step.proofs.Lending.{in_room}
use Rattle.malletfrond.proofs.LineCallLaws.{lines_none, lines_lost, lines-beyond, rule-low, rule_placed, record_lent, lines-put}
use Rattle.malletfrond.proofs.line.Goals as goal

pub returns-then-complete_of-k : goal.returns-then-complete_of-k
returns-then-complete_of-k c = rw c.refused.ensures (lines_none _ _ _ c.in_ok-whole.ensures (omega (arith, c.complete_of.ensures, c.if-complete_of-k.true)))

pub returns-in_default : goal.returns-in_default
returns-in_default c =
    rw c.refused-in_default.ensures (lines_lost _ _ _ c.in_ok-whole.ensures (omega (arith, c.complete_of.ensures, c.if-complete_of-k.false)) (c.in_default.ensures {u = tt}))

pub slice_bounds-two_at-end : goal.slice_bounds-two_at-end
slice_bounds-two_at-end c = in_room _ c.in_ok-whole.ensures (lit≤ tt)

pub overflow_mul-c : goal.overflow_mul-c
overflow_mul-c c = omega (arith, rule-low c.in_ok-whole.ensures c.in-Some.ensures)

pub two_at-place-requires : goal.two_at-place-requires
two_at-place-requires c = rule_placed c.in_ok-whole.ensures c.in-Some.ensures

pub returns-then-to-gt-CONDITION_PLACES : goal.returns-then-to-gt-CONDITION_PLACES
returns-then-to-gt-CONDITION_PLACES c =
    rw c.refused-then-to-gt-CONDITION_PLACES.ensures
    (lines-beyond _ _ _ c.in_ok-whole.ensures c.in-Some.ensures (omega (arith, c.two_at-place.ensures.0, c.if-to-gt-CONDITION_PLACES.true)))

pub two_at-number-requires : goal.two_at-number-requires
two_at-number-requires c = (record_lent _ c.two_at-place.result c.in_ok-whole.ensures c.if-to-gt-CONDITION_PLACES.false).0

pub slice_bounds-put_line-end : goal.slice_bounds-put_line-end
slice_bounds-put_line-end c = (record_lent _ c.two_at-place.result c.in_ok-whole.ensures c.if-to-gt-CONDITION_PLACES.false).1

pub returns : goal.returns
returns c =
    rw (c.ok_or.ensures.value, c.refused-2.ensures)
    (lines-put c.in_ok-whole.ensures (omega (arith, c.complete_of.ensures, c.if-complete_of-k.false)) c.in-Some.ensures c.two_at-place.result c.two_at-number.result _ _
    c.two_at-place.ensures.0 c.two_at-number.ensures.0 refl refl _ _ _ c.put_line.ensures.1.1 c.put_line.ensures.0 c.put_line.ensures.1.0)
