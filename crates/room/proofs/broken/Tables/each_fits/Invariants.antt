-- The loop: the first i rules fit, and `total` is the sum of their conditions, so at most 6 for each.
use Rattle.std.proofs.Common.{◌≡◌, ℕ, ◌*◌, ◌≤◌, ◌<◌, take}
use Rattle.room.specs.Parts.{part}
use Rattle.room.specs.Broken.{sum}
use Rattle.room.proofs.BrokenLaws.{RuleFits}
use Rattle.room.proofs.broken.Tables.each_fits.Given as goal

abbrev pub invariant-loop-i : goal.invariant-loop-i
invariant-loop-i l = record {
  total : l.total ≡ sum (take l.i (part l.self.room.now 8656 32));
  low : l.total ≤ l.i * 6;
  fits : (k : ℕ) → k < l.i → RuleFits l.self.room.now l.tokens k;
}
