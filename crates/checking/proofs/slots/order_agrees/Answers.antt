-- The order and the slots stand in a room that is not broken, and the readings are asked after only where no slot is named twice. Assumes nothing.
use Rattle.std.proofs.Common.{sym, ◌∙◌, arith}
use lib.Dec.{lit≤}
use Rattle.room.proofs.BrokenLaws.{head_number-at}
use Rattle.room.proofs.Large.{large-part}
use Rattle.checking.proofs.Numbers.{bounds}
use Rattle.checking.proofs.slots.order_agrees.Goals as goal

pub slice_bounds-order-end : goal.slice_bounds-order-end
slice_bounds-order-end c = let b = bounds _ c.requires in omega arith

pub slice_bounds-ascend-end : goal.slice_bounds-ascend-end
slice_bounds-ascend-end c = let b = bounds _ c.requires in omega arith

pub two_at-requires : goal.two_at-requires
two_at-requires c = let b = bounds _ c.requires in omega arith

pub ascend-requires : goal.ascend-requires
ascend-requires c =
    let room = c.args.room.now in
    let b = bounds room c.requires in
    (omega (arith, c.two_at.ensures.0, head_number-at room 2 (lit≤ tt), large-part room 8816 256 (lit≤ tt) b.large, b.readings), large-part room 9072 3072 (lit≤ tt) b.large)

pub returns-then-each_once : goal.returns-then-each_once
returns-then-each_once c =
    let rises = rw (c.two_at.ensures.0 ∙ sym (head_number-at c.args.room.now 2 (lit≤ tt))) at c.ascend.ensures in
    (λ t. (c.each_once.ensures.0 c.if-each_once.true, rises.0 t), λ b. rises.1 b.1)
