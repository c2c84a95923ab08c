-- `room::broken::is_broken` meets its contract: it asks the four tests of the rule in their order, and what the tables need stands once the header fits. Assumes nothing.
use Rattle.std.proofs.Common.{◌+◌, ◌*◌, ◌∙◌, not, sym, ap, length, arith}
use mathlib.Core.Bool.{or-true}
use borrow.Author.Tests.{lt-ltb, le-ltb}
use Rattle.room.specs.Layout.{limit}
use Rattle.room.specs.Broken.{broken}
use Rattle.room.proofs.BrokenLaws.{head_number-at, head_read}
use Rattle.room.proofs.broken.is_broken.Goals as goal
use Rattle.room.proofs.broken.is_broken.Goals.{then-room-lt16-via-then-room-lt16, then-room-lt16-via-else-room-lt16+then-not-head_fits, then-room-lt16-via-else-room-lt16+else-not-head_fits+then-room-two_at}

pub returns-then-room-lt16 : goal.returns-then-room-lt16
unfolding broken
returns-then-room-lt16 c = elim c.then-room-lt16.branch [
  | then-room-lt16-via-then-room-lt16 w ↦ sym (simp (lt-ltb _ _ w.if-room-lt16.true))
  | then-room-lt16-via-else-room-lt16+then-not-head_fits w ↦ sym (simp (sym w.head_fits.ensures ∙ w.if-not-head_fits.true, or-true))
  | then-room-lt16-via-else-room-lt16+else-not-head_fits+then-room-two_at w ↦
      let room = c.args.room.now in
      let short = lt-ltb (length room) (18288 + limit room * 2) (omega (arith, head_number-at room 1 (omega arith))) in
      sym (simp (short, or-true))
]

pub invariant_of-tables : goal.invariant_of-tables
invariant_of-tables c =
    let h = (head_read _).0 (sym c.head_fits.ensures ∙ c.if-not-head_fits.false) in
    record { large = omega arith; counted = omega arith; few = omega arith }

pub returns : goal.returns
unfolding broken
returns c =
    let room = c.args.room.now in
    let there = le-ltb (length room) 16 (omega arith) in
    let large = le-ltb (length room) (18288 + limit room * 2) (omega (arith, head_number-at room 1 (omega arith))) in
    ap not c.fit.ensures ∙ sym (simp (there, sym c.head_fits.ensures ∙ c.if-not-head_fits.false, large))
