-- Some bytes are left to look at, the ones before them pass, the ones behind them do not. Assumes nothing.
use Rattle.std.proofs.Common.{◌-◌, ◌≤◌, ℕ, Bool, length}
use Rattle.std.specs.Fn.{ComputesKey}
use Rattle.numbers.proofs.Halves.{Halved}
use Rattle.numbers.proofs.halving.parting.Given as goal

abbrev pub invariant-loop-low : goal.invariant-loop-low
invariant-loop-low g l =
    goal.P-IsAlwaysCallable g l.passes
    × (l.low ≤ l.high)
    × (l.high ≤ length l.bytes)
    × ((p : ℕ → Bool) → ComputesKey g.P.FnMut p l.fn.passes → ComputesKey g.P.FnMut p l.passes × Halved p l.bytes l.low l.high)

abbrev pub decreases-loop-low : goal.decreases-loop-low
decreases-loop-low g l = l.high - l.low
