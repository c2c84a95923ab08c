-- The first bytes up to `last` have the same trimmed as all of the wording.
use Rattle.std.proofs.Common.{◌≡◌, ◌≤◌, length, take}
use Rattle.lines.specs.Line.{trimmed}
use Rattle.lines.proofs.text.trimmed_length.Given as goal

abbrev pub invariant-loop-last : goal.invariant-loop-last
invariant-loop-last l = (l.last ≤ length l.wording) × (trimmed (take l.last l.wording) ≡ trimmed l.wording)
