-- `room::table::put_table` meets its contract: the bytes of a number turned, the last first, are those of the number. Assumes nothing.
use Rattle.std.proofs.Common.{◌*◌, ◌∙◌, get_or, arith}
use Rattle.room.proofs.Turned.{turned_put}
use Rattle.room.proofs.Twos.{fronted_none, fronted_more, fronted_all}
use Rattle.room.proofs.table.put_table.Goals as goal

pub loop-i-2-init : goal.loop-i-2-init
loop-i-2-init c = fronted_none c.args.table.now c.args.numbers.now

pub loop-i-2-preserved : goal.loop-i-2-preserved
loop-i-2-preserved c =
    let l = c.loop-i-2 in
    let x = get_or c.args.numbers.now l.i 0 in
    fronted_more _ _ (omega arith) l.i (omega arith) l.invariant
    (turned_put l.table (l.i * 2) x _ _ _ (omega arith) (omega (arith, c.type_inv.numbers l.i)) (c.loop-i.invariant l.i (omega arith)) (c.copy_from_slice.ensures.after ∙ c.to_le_bytes.ensures))

pub returns : goal.returns
returns c = fronted_all _ _ (omega arith) c.loop-i-2.i (omega arith) c.loop-i-2.invariant
