-- `room::table::read_table` meets its contract: each number turned right is the table's, and in the end all 32 stand there. Assumes nothing.
use Rattle.std.proofs.Common.{◌≡◌, ◌*◌, ◌∙◌, sym, length, arith}
use lib.Seq.{ext_get_or}
use Rattle.numbers.specs.BigEndian.{uint}
use Rattle.room.specs.Parts.{twos}
use Rattle.room.proofs.Spliced.{filled-set}
use Rattle.room.proofs.Turned.{turned_right}
use Rattle.room.proofs.TwosRead.{length-twos, get_or-twos}
use Rattle.room.proofs.table.read_table.Goals as goal

pub loop-i-preserved : goal.loop-i-preserved
loop-i-preserved c =
    let table = c.args.table.now in
    let number = c.turn.ensures ∙ turned_right table c.turned.result c.loop-i.i (λ k h. omega (arith, c.type_inv.table k)) c.turned.ensures.1 (omega arith) in
    filled-set (λ k. uint 2 table (k * 2)) _ _ _ (omega arith) c.loop-i.invariant number

pub returns : goal.returns
returns c =
    let table = c.args.table.now in
    let long : length c.loop-i.numbers ≡ length (twos 32 table) = omega (arith, length-twos 32 table) in
    ext_get_or 0 _ _ long λ k h. c.loop-i.invariant k (omega arith) ∙ sym (get_or-twos 32 table k (omega arith))
