-- The slots looked at so far are those noted, none of them twice.
use Rattle.std.proofs.Common.{take}
use Rattle.checking.proofs.Noted.{Noted}
use Rattle.checking.proofs.slots.each_once.Given as goal

abbrev pub invariant-loop-s : goal.invariant-loop-s
invariant-loop-s l = Noted l.seen (take l.s-index l.order)
