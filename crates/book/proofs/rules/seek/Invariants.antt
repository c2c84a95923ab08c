-- What is sought does not stand before the place's index, so it is what is sought from there on.
use Rattle.std.proofs.Common.{◌≡◌, drop}
use Rattle.book.specs.Wording.{sought}
use Rattle.book.proofs.rules.seek.Given as goal

abbrev pub invariant-loop-place : goal.invariant-loop-place
invariant-loop-place l = sought l.book l.places l.number ≡ sought l.book (drop l.place-index l.places) l.number
