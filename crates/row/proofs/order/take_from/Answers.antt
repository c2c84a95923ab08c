-- The slots behind p are written where they go, and the slot of p behind them. Assumes nothing.
use Rattle.std.proofs.Common.{arith, ◌+◌, ◌-◌, refl}
use Rattle.weave.proofs.SplicedLaws.{put-copied}
use Rattle.row.proofs.OrderLaws.{moved_out-set}
use Rattle.row.proofs.order.take_from.Goals as goal

pub returns : goal.returns
returns c =
    let a = c.args in
    let l = a.order.now in
    rw (c.copy_from_slice-2.ensures.after, c.copy_from_slice.ensures.after)
    (moved_out-set l _ a.p a.n (omega arith) (omega arith) (put-copied l l a.p (a.p + 1) (a.n - 1 - a.p) (omega arith) refl (omega arith) refl))
