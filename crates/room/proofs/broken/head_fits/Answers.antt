-- `room::broken::head_fits` meets its contract: a number that is higher than it may be says that the header does not fit, and where none is the two limits decide. Assumes nothing.
use Rattle.std.proofs.Common.{◌≡◌, ℕ, ◌*◌, false, sym, List, arith}
use mathlib.Mathlib.Data.Bool.Basic.{eq-false_of_not-eq-true}
use borrow.Author.Tests.{leb-true, le-leb}
use Rattle.numbers.specs.BigEndian.{uint}
use Rattle.room.specs.Broken.{head_fits}
use Rattle.room.proofs.BrokenLaws.{agreed, Head, head_read, head-highest, highest-head}
use Rattle.room.proofs.broken.head_fits.Goals as goal

unfit : (room : List ℕ) → (Head (λ k. uint 2 room (k * 2)) → ⊥) → false ≡ head_fits room
unfit room outside = sym (eq-false_of_not-eq-true λ t. outside ((head_read room).0 t))

pub returns-then-most-two_at : goal.returns-then-most-two_at
returns-then-most-two_at c =
    unfit _ λ h. omega (arith, head-highest _ c.two_at-e.ensures.0 c.two_at-t.ensures.0 h c.loop-k.k (omega arith))

pub returns-then-e-ge1 : goal.returns-then-e-ge1
returns-then-e-ge1 c =
    let t = c.two_at-t.result in
    agreed _ _ (
      λ some. (head_read _).1 (highest-head _ c.two_at-e.ensures.0 c.two_at-t.ensures.0 (λ k l. c.loop-k.invariant k (omega arith)) (omega arith) (leb-true 1 t some)),
      λ fits. let h = (head_read _).0 fits in le-leb 1 t (omega arith),
    )

pub returns-else-e-ge1 : goal.returns-else-e-ge1
returns-else-e-ge1 c =
    let e = c.two_at-e.result in
    agreed _ _ (λ some. absurd (omega (arith, leb-true 1 e some)), λ fits. let h = (head_read _).0 fits in absurd (omega arith))
