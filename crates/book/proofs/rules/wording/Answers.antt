-- Where there is a place, the 24 bytes there are the wording and stand within the book; else there is none.
use Rattle.std.proofs.Common.{◌≡◌, ◌+◌, ◌-◌, arith, sym}
use Rattle.book.proofs.Wordings.{wording-at, wording-none}
use Rattle.book.proofs.rules.wording.Goals as goal

pub overflow_add-to : goal.overflow_add-to
overflow_add-to c = omega (arith, (wording-at _ _ _ c.in-Ok.ensures).0)

pub slice_bounds-result-end : goal.slice_bounds-result-end
slice_bounds-result-end c = (wording-at _ _ _ c.in-Ok.ensures).0

pub returns-in-Ok : goal.returns-in-Ok
returns-in-Ok c =
    let p = c.in-Ok.from in
    let n : p + 24 - p ≡ 24 = omega arith in
    rw n (wording-at _ _ _ c.in-Ok.ensures).1

pub returns-in-Err : goal.returns-in-Err
returns-in-Err c = sym (wording-none _ _ _ c.in-Err.ensures)
