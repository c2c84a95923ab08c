-- The loop: `at` is how many digits `y` has, and the digits of `y` put into the front of `rest` as it stands make of it what those of `x` make of it as it was.
use Rattle.std.proofs.Common.{◌≡◌, ◌≤◌, length}
use Rattle.numbers.specs.Digits.{digits}
use Rattle.numbers.specs.Spliced.{spliced}
use Rattle.numbers.proofs.put_digits.Given as goal

abbrev pub invariant-loop-at : goal.invariant-loop-at
invariant-loop-at l = record {
  count : l.at ≡ length (digits l.y);
  room : l.at ≤ length l.rest;
  same : spliced l.rest 0 (digits l.y) ≡ spliced l.initial.rest 0 (digits l.x);
}

abbrev pub decreases-loop-at : goal.decreases-loop-at
decreases-loop-at l = l.at
