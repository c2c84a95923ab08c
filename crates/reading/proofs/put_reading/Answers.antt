-- `reading::put_reading` meets its contract: three numbers written one behind the other are one part written over. Assumes nothing.
use Rattle.std.proofs.Common.{arith}
use Rattle.reading.proofs.Bytes.{reading_bytes-spliced}
use Rattle.reading.proofs.put_reading.Goals as goal

pub returns : goal.returns
returns c = reading_bytes-spliced _ _ _ _ _ c.args.r (omega arith) c.put_four.ensures c.put_four-2.ensures c.put_four-3.ensures
