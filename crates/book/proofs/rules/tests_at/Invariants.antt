-- So many tests are read and stand in the array; the next would stand at the place.
use Rattle.book.proofs.TestsFrom.{TestsFilled}
use Rattle.book.proofs.rules.tests_at.Given as goal

abbrev pub invariant-loop-count : goal.invariant-loop-count
invariant-loop-count l = TestsFilled l.book l.fn.at l.count l.place l.tests
