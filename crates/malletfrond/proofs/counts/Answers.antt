-- `malletfrond::counts` meets its contract: a broken room is refused, and of any other the counts are those of its header and of its table of rules, which a sound
-- room holds as the definition says. Assumes nothing.
use Rattle.std.proofs.Common.{rules}
use lib.Dec.{lit≤}
use Rattle.step.proofs.Lending.{in_room}
use Rattle.malletfrond.proofs.CallLaws.{counts-broken, counts_whole}
use Rattle.malletfrond.proofs.counts.Goals as goal

pub returns-in_err-whole : goal.returns-in_err-whole
returns-in_err-whole c = let h = counts-broken c.args.room.now c.in_err-whole.ensures.1 in let e = c.in_err-whole.ensures.0 in search rules

pub two_at-requires : goal.two_at-requires
two_at-requires c = in_room _ c.in_ok-whole.ensures (lit≤ tt)

pub two_at-requires-2 : goal.two_at-requires-2
two_at-requires-2 c = in_room _ c.in_ok-whole.ensures (lit≤ tt)

pub returns : goal.returns
returns c = counts_whole _ c.in_ok-whole.ensures _ _ _ c.two_at.ensures.0 c.two_at-2.ensures.0 c.complete_of.ensures
