use Rattle.std.proofs.Common.{◌<◌, arith, get_or}
use lib.Seq.{take_all}
use Rattle.checking.proofs.Answers.{yes, no}
use Rattle.checking.proofs.Noted.{noted-none, noted_twice, noted_more}
use Rattle.checking.proofs.slots.each_once.Goals as goal

pub loop-s-init : goal.loop-s-init
loop-s-init c = noted-none

pub returns-then-seen-s : goal.returns-then-seen-s
returns-then-seen-s c =
    let l = c.loop-s in
    let small : get_or c.args.order.now l.s-index 0 < 256 = omega (arith, c.type_inv.order l.s-index) in
    no (noted_twice c.args.order.now l.s-index c.loop-s-test.true l.seen l.invariant small (rw c.from-s.ensures at c.if-seen-s.true))

pub loop-s-preserved : goal.loop-s-preserved
loop-s-preserved c =
    let l = c.loop-s in
    let small : get_or c.args.order.now l.s-index 0 < 256 = omega (arith, c.type_inv.order l.s-index) in
    rw c.from-s.ensures (noted_more c.args.order.now l.s-index c.loop-s-test.true l.seen l.invariant small (rw c.from-s.ensures at c.if-seen-s.false))

pub returns : goal.returns
returns c = yes (rw (take_all c.loop-s.s-index c.args.order.now (omega arith)) at c.loop-s.invariant.once)
