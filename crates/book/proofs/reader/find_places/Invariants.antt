-- Some rules are read: the locals are their standing and places, and the rest of the definition's walk is what is left. The measure is the bytes that are left.
use Rattle.std.proofs.Common.{◌-◌, ◌≤◌, length}
use Rattle.book.proofs.Reached.{Reached}
use Rattle.book.proofs.reader.find_places.Given as goal

abbrev pub invariant-loop-record : goal.invariant-loop-record
invariant-loop-record l =
    record { short : length l.book ≤ 8192; within : l.at ≤ length l.book; reached : Reached l.book l.at l.standing l.places }

abbrev pub decreases-loop-record : goal.decreases-loop-record
decreases-loop-record l = length l.book - l.at
