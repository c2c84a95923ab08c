-- The wordings at the places gone over stand at the front. Assumes nothing.
use Rattle.writer.proofs.Worded.{Worded}
use Rattle.writer.proofs.read.put_wordings.Given as goal

abbrev pub invariant-loop-i : goal.invariant-loop-i
invariant-loop-i l = Worded l.book l.places l.initial.wordings l.i l.wordings
