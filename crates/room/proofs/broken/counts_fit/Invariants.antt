-- The loop, of the first i places: `wrong` counts what is wrong there, and where that is nothing each rule has 1 to 6 conditions, none are behind the rules, and `total` is their sum.
use Rattle.room.proofs.Counts.{Counted}
use Rattle.room.proofs.broken.counts_fit.Given as goal

abbrev pub invariant-loop-i : goal.invariant-loop-i
invariant-loop-i l = Counted l.counts l.rules l.i l.wrong l.total
