-- `malletfrond::remove` meets its contract: a broken room is refused, then a reading that does not stand at its place; any other is taken out there, as
-- `removes_found` says. Assumes nothing.
use Rattle.std.proofs.Common.{arith}
use borrow.Author.Tests.{not-true, not-false}
use Rattle.malletfrond.proofs.LookedUp.{found-low, removes_new, removes_found}
use Rattle.malletfrond.proofs.remove.Goals as goal

pub returns-then-not-looked : goal.returns-then-not-looked
returns-then-not-looked c = rw c.refused.ensures (removes_new c.in_ok-whole.ensures c.look_up-looked.ensures (not-true _ c.if-not-looked.true))

pub overflow_sub-result : goal.overflow_sub-result
overflow_sub-result c =
    let low = found-low c.in_ok-whole.ensures c.look_up-looked.ensures (not-false _ c.if-not-looked.false) in omega (arith, c.look_up-looked.ensures.many)

pub returns : goal.returns
returns c =
    removes_found c.in_ok-whole.ensures c.look_up-looked.ensures (not-false _ c.if-not-looked.false) c.remove_at-after.ensures c.complete_of-before.ensures c.saturating_sub.ensures
