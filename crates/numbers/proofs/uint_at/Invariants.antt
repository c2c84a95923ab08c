-- `acc` is the number of the bytes passed.
use Rattle.std.proofs.Common.{◌≡◌, ◌^◌, ◌<◌}
use Rattle.numbers.specs.BigEndian.{uint}
use Rattle.numbers.proofs.uint_at.Given as goal

abbrev pub invariant-loop-byte : goal.invariant-loop-byte
invariant-loop-byte l = (l.acc ≡ uint l.byte-index l.fn.b l.fn.i) × (l.acc < 256 ^ l.byte-index)
