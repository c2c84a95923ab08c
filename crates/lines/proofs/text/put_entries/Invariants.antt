-- The entries of the readings that are passed stand at the front, up to `at`.
use Rattle.std.proofs.Common.{take}
use Rattle.lines.specs.Line.{entries}
use Rattle.lines.proofs.Front.{Front}
use Rattle.lines.proofs.text.put_entries.Given as goal

abbrev pub invariant-loop-r : goal.invariant-loop-r
invariant-loop-r l = Front l.initial.free (entries (take l.r-index l.readings)) l.free l.at
