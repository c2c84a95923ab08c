-- A copy of the order, the slots from p up to n moved up in it, and the slot of n set before them. Assumes nothing.
use Rattle.std.proofs.Common.{arith}
use Rattle.row.proofs.OrderLaws.{moved_in-set}
use Rattle.row.proofs.order.put_in.Goals as goal

pub returns : goal.returns
returns c =
    rw (c.copy_from_slice.ensures.after, c.copy_from_slice-2.ensures.after)
    (moved_in-set c.args.order.now c.args.p c.args.n (omega arith) (omega arith) (omega arith))
