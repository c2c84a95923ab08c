-- A place is where it is sought, or the rest is left.
use Rattle.std.proofs.Common.{◌≡◌, sym, ◌∙◌, length, arith}
use Rattle.book.proofs.Sought.{sought-here, sought-on, sought-over}
use Rattle.book.proofs.rules.seek.Goals as goal

pub returns-then-two_at-number : goal.returns-then-two_at-number
returns-then-two_at-number c =
    let l = c.loop-place in
    sym (l.invariant ∙ sought-here _ _ _ l.place-index (omega arith) (sym c.two_at.ensures.0 ∙ c.if-two_at-number.true))

pub loop-place-preserved : goal.loop-place-preserved
loop-place-preserved c =
    let l = c.loop-place in
    l.invariant ∙ sought-on _ _ _ l.place-index (omega arith) (λ e. c.if-two_at-number.false (c.two_at.ensures.0 ∙ e))

pub returns : goal.returns
returns c =
    let l = c.loop-place in
    let end : l.place-index ≡ length c.args.places.now = omega arith in
    sym (l.invariant ∙ rw end (sought-over c.args.book.now c.args.places.now c.args.number))
