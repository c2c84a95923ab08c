-- The loop: the first i numbers are written over the front of the part.
use Rattle.room.proofs.Twos.{Fronted}
use Rattle.room.proofs.write.put_twos.Given as goal

abbrev pub invariant-loop-i : goal.invariant-loop-i
invariant-loop-i l = Fronted l.part l.initial.part l.numbers l.i
