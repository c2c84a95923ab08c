-- `room::write::put_plain_order` meets its contract: 256 slots, each at its own place, are the plain order. Assumes nothing.
use Rattle.std.proofs.Common.{◌∙◌, sym, arith}
use lib.Seq.{ext_get_or}
use Rattle.room.specs.Parts.{below}
use Rattle.room.proofs.Order.{length-below, get_or-below}
use Rattle.room.proofs.write.put_plain_order.Goals as goal

pub returns : goal.returns
returns c =
    ext_get_or 0 _ (below 256) (omega (arith, length-below 256)) λ k h. c.loop-i.invariant k (omega arith) ∙ sym (get_or-below 256 k (omega arith))
