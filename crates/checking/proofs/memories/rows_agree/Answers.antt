-- For each place of the order in use a row is made anew and compared. Assumes nothing.
use Rattle.std.proofs.Common.{◌+◌, ◌-◌, take, drop, sym, ◌∙◌, arith, length-take, length-drop}
use mathlib.Core.Bool.{false≢true}
use borrow.Author.Count.{below_none, below_more}
use Rattle.room.specs.Parts.{part}
use Rattle.row.specs.Row.{RowOf, book_flags}
use Rattle.checking.specs.Checked.{counts_in}
use Rattle.checking.proofs.Answers.{yes, no}
use Rattle.checking.proofs.RowsLaws.{rows_known, row_known}
use Rattle.checking.proofs.Numbers.{bounds, rules_few, conditions_are, row-asked}
use Rattle.checking.proofs.memories.rows_agree.Goals as goal

pub two_at-n-requires : goal.two_at-n-requires
two_at-n-requires c = let b = bounds _ c.requires in omega arith

pub two_at-end-requires : goal.two_at-end-requires
two_at-end-requires c = let b = bounds _ c.requires in omega arith

pub two_at-conditions-requires : goal.two_at-conditions-requires
two_at-conditions-requires c = let b = bounds _ c.requires in omega arith

pub loop-i-init : goal.loop-i-init
loop-i-init c = (
  record {
    bounded = bounds _ c.requires;
    readings = c.two_at-n.ensures.0;
    book = omega (arith, c.two_at-end.ensures);
    conditions = c.two_at-conditions.ensures.0;
  },
  below_none _,
)

pub make_row-requires : goal.make_row-requires
make_row-requires c = row-asked _ _ _ _ c.loop-i.invariant.0

pub row_agrees-requires : goal.row_agrees-requires
row_agrees-requires c =
    let slot = c.type_inv.room (8816 + c.loop-i.i) in
    (simp (length-take, length-drop) (omega arith), (c.make_row.ensures.long.0, omega arith))

pub returns-then-not-row_agrees : goal.returns-then-not-row_agrees
returns-then-not-row_agrees c =
    let l = c.loop-i in
    let R = (c.make_row.ensures.made _ (rules_few _ _ _ _ l.invariant.0) (conditions_are _ _ _ _ l.invariant.0)).0 in
    no λ all.
    let own = (rows_known _ l.invariant.0.bounded).0 all l.i (omega arith) in
    let answered = row_known _ _ _ _ l.invariant.0 _ _ _ _ c.reading_at-w.ensures R c.row_agrees.ensures in
    false≢true (sym c.if-not-row_agrees.true ∙ answered.1 own)

pub loop-i-preserved : goal.loop-i-preserved
loop-i-preserved c =
    let l = c.loop-i in
    let R = (c.make_row.ensures.made _ (rules_few _ _ _ _ l.invariant.0) (conditions_are _ _ _ _ l.invariant.0)).0 in
    let answered = row_known _ _ _ _ l.invariant.0 _ _ _ _ c.reading_at-w.ensures R c.row_agrees.ensures in
    (l.invariant.0, below_more _ _ l.invariant.1 (answered.0 c.if-not-row_agrees.false))

pub returns : goal.returns
returns c = let l = c.loop-i in yes ((rows_known _ l.invariant.0.bounded).1 λ k h. l.invariant.1 k (omega arith))
