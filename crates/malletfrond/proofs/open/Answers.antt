-- `malletfrond::open` meets its contract: it refuses by 8, by 9 and by the book, in this order and before it writes; what it then writes are the parts of a room that
-- holds the book, the limits and nothing else, as `opens-found` says. Assumes nothing.
use Rattle.std.proofs.Common.{rules, arith, sym, ◌∙◌}
use Rattle.malletfrond.proofs.OpenLaws.{limits_fit_lem, opens_unfit, opens_small, opens_not_read, found-few, found-opening, opens-found}
use Rattle.malletfrond.proofs.open.Goals as goal

pub returns-then-not-limits_fit : goal.returns-then-not-limits_fit
returns-then-not-limits_fit c = rw c.refused.ensures (opens_unfit _ _ _ _ (sym c.limits_fit.ensures ∙ c.if-not-limits_fit.true))

pub overflow_mul-t : goal.overflow_mul-t
overflow_mul-t c = let l = (limits_fit_lem _ _).0 (sym c.limits_fit.ensures ∙ c.if-not-limits_fit.false) in omega arith

pub overflow_add-t : goal.overflow_add-t
overflow_add-t c = let l = (limits_fit_lem _ _).0 (sym c.limits_fit.ensures ∙ c.if-not-limits_fit.false) in omega arith

pub returns-then-room-t : goal.returns-then-room-t
returns-then-room-t c = rw c.refused-then-room-t.ensures (opens_small _ _ _ _ (sym c.limits_fit.ensures ∙ c.if-not-limits_fit.false) c.if-room-t.true)

pub returns-in_err-found : goal.returns-in_err-found
returns-in_err-found c =
    let h = opens_not_read _ _ _ _ (sym c.limits_fit.ensures ∙ c.if-not-limits_fit.false) c.if-room-t.false _ c.in_err-found.ensures in search rules

pub overflow_cast-limits : goal.overflow_cast-limits
overflow_cast-limits c = let l = (limits_fit_lem _ _).0 (sym c.limits_fit.ensures ∙ c.if-not-limits_fit.false) in omega arith

pub overflow_cast-limits-2 : goal.overflow_cast-limits-2
overflow_cast-limits-2 c = let l = (limits_fit_lem _ _).0 (sym c.limits_fit.ensures ∙ c.if-not-limits_fit.false) in omega arith

pub overflow_cast-index : goal.overflow_cast-index
overflow_cast-index c = let h = found-few _ _ c.in_ok-found.ensures in omega arith

pub overflow_cast-index-2 : goal.overflow_cast-index-2
overflow_cast-index-2 c = let h = found-few _ _ c.in_ok-found.ensures in omega arith

pub write_opening-requires : goal.write_opening-requires
write_opening-requires c = found-opening _ _ c.in_ok-found.ensures _ _ c.if-room-t.false

pub returns : goal.returns
returns c =
    opens-found _ _ c.in_ok-found.ensures _ _ _ _ (sym c.limits_fit.ensures ∙ c.if-not-limits_fit.false) c.if-room-t.false c.write_opening.auto.room c.write_opening.ensures
