use Rattle.std.proofs.Common.{arith, ◌<◌, below_more}
use lib.Seq.{get_or-take, length-take-le}
use Rattle.checking.proofs.Answers.{yes, no}
use Rattle.checking.proofs.Fronts.{twos_front}
use Rattle.checking.proofs.compare.same_twos.Goals as goal

pub returns-then-two_at-from : goal.returns-then-two_at-from
returns-then-two_at-from c =
    let i = c.loop-i.i in
    let within : i < c.args.n = omega (arith, length-take-le c.args.n c.args.numbers.now c.requires.1.0) in
    no λ e. let same = (twos_front c.args.n c.args.table.now c.args.numbers.now c.requires.1.0).0 e i within in
    omega (arith, get_or-take c.args.n c.args.numbers.now i 0 within)

pub loop-i-preserved : goal.loop-i-preserved
loop-i-preserved c =
    let within : c.loop-i.i < c.args.n = omega (arith, length-take-le c.args.n c.args.numbers.now c.requires.1.0) in
    below_more _ _ c.loop-i.invariant (omega (arith, get_or-take c.args.n c.args.numbers.now c.loop-i.i 0 within))

pub returns : goal.returns
returns c =
    let long = length-take-le c.args.n c.args.numbers.now c.requires.1.0 in
    yes ((twos_front c.args.n c.args.table.now c.args.numbers.now c.requires.1.0).1 λ k h. c.loop-i.invariant k (omega arith))
