-- The first i bytes of `from` are written over the part from `at` on. Assumes nothing.
use Rattle.std.proofs.Common.{◌≡◌, length, take}
use Rattle.numbers.specs.Spliced.{spliced}
use Rattle.room.proofs.write.copy_at.Given as goal

abbrev pub invariant-loop-i : goal.invariant-loop-i
invariant-loop-i l = (length l.part ≡ length l.fn.part) × (l.part ≡ spliced l.fn.part l.at (take l.i l.from))
