-- `room::broken::Tables::each_fits` meets its contract: a rule that does not fit says that the tables do not, and where each does the sum decides. Assumes nothing.
use Rattle.std.proofs.Common.{◌≡◌, sym, refl, arith}
use borrow.Author.Count.{below_none, below_more}
use Rattle.room.specs.Broken.{sum}
use Rattle.room.proofs.BrokenLaws.{RuleFits, total-more, some_unfit, all_fit}
use Rattle.room.proofs.broken.Tables.each_fits.Goals as goal

pub loop-i-init : goal.loop-i-init
unfolding sum
loop-i-init c = record { total = refl; low = omega arith; fits = below_none _ }

pub returns-then-k-lt1 : goal.returns-then-k-lt1
returns-then-k-lt1 c =
    sym (some_unfit c.args.self.now.room.now (omega arith) c.args.self.now.counted c.two_at-tokens.ensures.0 (omega arith) λ all. let h = all c.loop-i.i (omega arith) in omega (arith, c.then-k-lt1.either))

pub loop-i-preserved : goal.loop-i-preserved
loop-i-preserved c =
    let l = c.loop-i in
    let here : RuleFits c.args.self.now.room.now c.two_at-tokens.result l.i = omega arith in record {
      total = omega (arith, total-more c.args.self.now.room.now (omega arith) l.i (omega arith));
      low = omega arith;
      fits = below_more _ _ l.invariant.fits here;
    }

pub returns : goal.returns
returns c =
    let l = c.loop-i in
    let e : l.i ≡ c.args.self.now.rules = omega arith in
    all_fit
    c.args.self.now.room.now
    (omega arith)
    c.args.self.now.counted
    c.two_at-tokens.ensures.0
    (omega arith)
    c.two_at.ensures.0
    (λ k h. l.invariant.fits k (omega arith))
    (rw (← e) l.invariant.total)
