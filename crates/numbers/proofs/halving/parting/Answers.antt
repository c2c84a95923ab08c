-- The middle passes, or it does not. Assumes nothing.
use Rattle.std.proofs.Common.{arith, of_calls, refl, ◌+◌, ◌/◌}
use Rattle.std.proofs.lemmas.Fn.{called}
use Rattle.numbers.proofs.Halves.{next_answers, passed, failed}
use Rattle.numbers.proofs.halving.parting.Goals as goal

pub loop-low-preserved-then-passes : goal.loop-low-preserved-then-passes
loop-low-preserved-then-passes g c =
    let low = c.loop-low.low in let high = c.loop-low.high in let mid = (low + high) / 2 in
    let k = called g.P.FnMut c.if-passes.ensures refl in
    (search of_calls, omega arith, omega arith, λ p h. let i = c.loop-low.invariant.3 p h in let n = next_answers g.P.FnMut _ _ _ _ _ k i.0 in (n.1, passed p c.args.bytes.now low high mid (omega arith) i.1 n.0))

pub loop-low-preserved : goal.loop-low-preserved
loop-low-preserved g c =
    let low = c.loop-low.low in let high = c.loop-low.high in let mid = (low + high) / 2 in
    let k = called g.P.FnMut c.if-passes.ensures refl in
    (search of_calls, omega arith, omega arith, λ p h. let i = c.loop-low.invariant.3 p h in let n = next_answers g.P.FnMut _ _ _ _ _ k i.0 in (n.1, failed p c.args.bytes.now low high mid (omega arith) i.1 n.0))
