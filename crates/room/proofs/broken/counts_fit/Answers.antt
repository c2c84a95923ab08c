-- `room::broken::counts_fit` meets its contract: each place adds to what is counted of those before it. Assumes nothing.
use Rattle.std.proofs.Common.{◌≡◌, ◌+◌, ◌≤◌, ◌∙◌, arith}
use borrow.Author.Tests.{eqb-true}
use Rattle.room.specs.Parts.{below}
use Rattle.room.proofs.Counts.{Noted, noted_wrong, noted_right, Added, Filled, filled, counted_none, counted-more, counts_right}
use Rattle.room.proofs.Order.{get_or-below}
use Rattle.room.proofs.broken.counts_fit.Goals as goal
use Rattle.room.proofs.broken.counts_fit.Goals.{then-k-le6, else-k-le6, then-k-place, else-k-place}

pub loop-i-init : goal.loop-i-init
loop-i-init c = counted_none c.args.counts.now c.args.rules

-- the counts after each of the two tests
added : (c : goal.Joined-k-place) →
    (c.if-k-le6.total ≤ c.loop-i.total + 6) × Noted c.loop-i.wrong c.if-k-le6.wrong (Added c.args.counts.now c.loop-i.i c.loop-i.total c.if-k-le6.total)
added c = elim c.if-k-le6.branch [
  | then-k-le6 w ↦ (omega arith, noted_right (omega arith) (omega arith))
  | else-k-le6 w ↦ (omega arith, noted_wrong (omega arith))
]

fill : (c : goal.Joined-k-place) → Noted c.if-k-le6.wrong c.if-k-place.wrong (Filled c.args.counts.now c.args.rules c.loop-i.i)
unfolding below
fill c = elim c.if-k-place.branch [
  | then-k-place w ↦ noted_wrong (omega arith)
  | else-k-place w ↦ noted_right (omega arith) (filled c.args.counts.now c.args.rules c.loop-i.i (get_or-below 32 c.loop-i.i (omega arith)) w.if-k-place.false)
]

pub loop-i-preserved : goal.loop-i-preserved
loop-i-preserved c =
    let a = added c in
    counted-more _ _ c.loop-i.i (omega arith) c.loop-i.invariant a.0 a.1 (fill c)

pub returns-then-wrong-eq0 : goal.returns-then-wrong-eq0
returns-then-wrong-eq0 c e =
    let l = c.loop-i in
    let all : l.i ≡ 32 = omega arith in
    let fits = counts_right c.args.counts.now c.args.rules c.requires.0 c.requires.1 (rw (all, c.if-wrong-eq0.true) at l.invariant) in
    (fits.0, fits.1 ∙ eqb-true _ _ e)
