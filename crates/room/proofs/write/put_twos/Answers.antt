-- `room::write::put_twos` meets its contract: each number is written behind those before it. Assumes nothing.
use Rattle.std.proofs.Common.{arith}
use Rattle.room.proofs.Twos.{fronted_none, fronted_more, fronted_all}
use Rattle.room.proofs.write.put_twos.Goals as goal

pub loop-i-init : goal.loop-i-init
loop-i-init c = fronted_none c.args.part.now c.args.numbers.now

pub loop-i-preserved : goal.loop-i-preserved
loop-i-preserved c = fronted_more _ _ c.requires c.loop-i.i (omega arith) c.loop-i.invariant c.put_two.ensures

pub returns : goal.returns
returns c = fronted_all _ _ c.requires c.loop-i.i (omega arith) c.loop-i.invariant
