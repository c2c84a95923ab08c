-- `malletfrond::add` meets its contract: a broken room is refused, then a reading that stands at its place, then one without a slot; any other is worked out aside, and
-- refused with nothing written where its tokens are too many, as `adds_too_many` and `adds_new` say. Assumes nothing.
use Rattle.std.proofs.Common.{arith}
use lib.Dec.{lit≤}
use Rattle.step.proofs.Lending.{in_room}
use Rattle.sound.proofs.ReadBack.{Fits}
use Rattle.malletfrond.proofs.LookedUp.{adds_old, adds_no_slot, slot_free, adds_too_many, adds_new}
use Rattle.malletfrond.proofs.add.Goals as goal

pub returns-then-looked : goal.returns-then-looked
returns-then-looked c = rw c.refused.ensures (adds_old c.in_ok-whole.ensures c.look_up-looked.ensures c.if-looked.true)

pub two_at-requires : goal.two_at-requires
two_at-requires c = in_room _ c.in_ok-whole.ensures (lit≤ tt)

pub returns-then-two_at-looked : goal.returns-then-two_at-looked
returns-then-two_at-looked c =
    rw c.refused-then-two_at-looked.ensures (adds_no_slot c.in_ok-whole.ensures c.look_up-looked.ensures c.if-looked.false c.two_at.ensures.0 c.if-two_at-looked.true)

pub add_at-requires : goal.add_at-requires
add_at-requires c =
    let k = c.look_up-looked.ensures in
    (c.in_ok-whole.ensures, (omega (arith, k.within, k.many), slot_free c.in_ok-whole.ensures k c.if-looked.false c.two_at.ensures.0 c.if-two_at-looked.false))

pub returns-in_default : goal.returns-in_default
returns-in_default c =
    let fits : Fits (record { line = c.args.line; column = c.args.column; value = c.args.value }) = record { line = omega arith; column = omega arith; value = omega arith } in
    rw c.refused-in_default.ensures
    (adds_too_many c.in_ok-whole.ensures c.look_up-looked.ensures c.if-looked.false c.two_at.ensures.0 c.if-two_at-looked.false fits (c.in_default.ensures {u = tt}).added (omega arith))

pub returns : goal.returns
returns c =
    let fits : Fits (record { line = c.args.line; column = c.args.column; value = c.args.value }) = record { line = omega arith; column = omega arith; value = omega arith } in
    adds_new c.in_ok-whole.ensures c.look_up-looked.ensures c.if-looked.false c.two_at.ensures.0 c.if-two_at-looked.false fits c.in-Ok.ensures.added c.in-Ok.ensures.few
    c.complete_of-before.ensures c.saturating_sub.ensures
