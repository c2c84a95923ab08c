-- `numbers::put_digits` meets its contract: two digits of `y` written leave those of its hundredth, and behind the loop one digit is left. Assumes nothing.
use Rattle.std.proofs.Common.{◌≡◌, ◌+◌, ◌-◌, ◌/◌, ◌<◌, ◌∙◌, sym, ap, refl, length, arith, length-set}
use Rattle.numbers.specs.Digits.{digits}
use Rattle.numbers.specs.Spliced.{spliced}
use Rattle.numbers.proofs.Digits.{digits-small, one_digit, last-put, two-put}
use Rattle.numbers.proofs.Spliced.{set-spliced}
use Rattle.numbers.proofs.put_digits.Goals as goal
use Rattle.numbers.proofs.put_digits.Goals.{then-at-eq2, else-at-eq2}

pub loop-at-init : goal.loop-at-init
loop-at-init c = record { count = omega arith; room = omega arith; same = refl }

pub loop-at-preserved : goal.loop-at-preserved
loop-at-preserved c =
    let l = c.loop-at in
    let two = two-put l.rest l.y (l.at - 2) (omega arith) (omega arith) (omega arith) in record {
      count = two.0;
      room = simp length-set (omega arith);
      same = two.1 ∙ l.invariant.same;
    }

-- before the first digit is written
record OneLeft (c : goal.After-row_known-1) : Type 0 where
  small : c.if-at-eq2.y < 10
  some : 0 < length c.if-at-eq2.rest
  same : spliced c.if-at-eq2.rest 0 (digits c.if-at-eq2.y) ≡ spliced c.args.rest.now 0 (digits c.args.x)

one_left : (c : goal.After-row_known-1) → OneLeft c
one_left c =
    let l = c.loop-at in
    elim c.if-at-eq2.branch [
      | then-at-eq2 w ↦
          let last = last-put l.rest l.y 1 (omega arith) (omega arith) (omega arith) in
          record {
            small = rw w.y-is (one_digit (l.y / 10) (omega arith)).0;
            some = omega (arith, w.if-at-eq2.true, c.if-at-eq2.auto.rest);
            same = rw (w.rest-is, w.y-is) (last.1 ∙ l.invariant.same);
          }
      | else-at-eq2 w ↦ record {
        small = rw w.y-is (one_digit l.y (omega arith)).0;
        some = omega (arith, c.if-at-eq2.auto.rest, one_digit l.y (omega arith));
        same = rw (w.rest-is, w.y-is) l.invariant.same;
      }
    ]

pub overflow_cast-rest-2 : goal.overflow_cast-rest-2
overflow_cast-rest-2 c = omega (arith, (one_left c).small)

pub overflow_add-rest-2 : goal.overflow_add-rest-2
overflow_add-rest-2 c = omega (arith, (one_left c).small)

pub bounds-rest-0 : goal.bounds-rest-0
bounds-rest-0 c = (one_left c).some

pub returns : goal.returns
returns c =
    let j = c.if-at-eq2 in
    let o = one_left c in
    (omega arith, set-spliced j.rest 0 (48 + j.y) o.some ∙ ap (spliced j.rest 0) (sym (digits-small j.y o.small)) ∙ o.same)
