-- `room::broken::ends_fit` meets its contract: what is higher than one number and the next is higher than both. Assumes nothing.
use Rattle.std.proofs.Common.{ℕ, ◌<◌, get_or, ◌∙◌, arith}
use borrow.Author.Count.{below_more}
use Rattle.room.proofs.Turned.{turned_two}
use Rattle.room.proofs.broken.ends_fit.Goals as goal

pub loop-i-preserved : goal.loop-i-preserved
loop-i-preserved c =
    let l = c.loop-i in
    let byte : (k : ℕ) → get_or c.args.room.now k 0 < 256 = λ k. omega (arith, c.type_inv.room k) in
    let end = c.turn.ensures ∙ turned_two c.args.room.now _ 8688 l.i byte c.turned-ends.ensures.1 (omega arith) in
    let full = c.turn-in-loop-i.ensures ∙ turned_two c.args.room.now _ 8752 l.i byte c.turned-fulls.ensures.1 (omega arith) in
    below_more _ l.i (λ k h. omega (arith, l.invariant k h)) (omega arith)
