-- `writer::read::put_rows` meets its contract. Assumes nothing.
use Rattle.std.proofs.Common.{arith, ◌∙◌}
use mathlib.Core.Logic.{inl}
use Rattle.writer.proofs.Passing.{length-left, length-row_of, rowing_none, rowing_over, rowing_room, rowing_more}
use Rattle.writer.proofs.Put.{put}
use Rattle.writer.proofs.read.put_rows.Goals as goal

pub loop-k-init-derived : goal.loop-k-init-derived
loop-k-init-derived c =
    let some = length-left c.args.book.now in
    rw (c.into_iter-k-iterator.ensures.into_iter_gives, c.enumerate-k-items.ensures.count, c.enumerate-k-items.ensures.source) ((tt, tt, inl (omega arith)), tt)

pub loop-k-init : goal.loop-k-init
loop-k-init c = rw (c.into_iter-k-iterator.ensures.into_iter_gives, c.enumerate-k-items.ensures.count, c.enumerate-k-items.ensures.source) (rowing_none _ _)

pub slice_bounds-copy_from_slice-end : goal.slice_bounds-copy_from_slice-end
slice_bounds-copy_from_slice-end c =
    let s = c.in-Some.ensures.steps in
    let room = rowing_room _ _ _ _ _ c.loop-k.invariant _ _ s.0 c.requires in
    omega arith

pub loop-k-preserved : goal.loop-k-preserved
loop-k-preserved c =
    let s = c.in-Some.ensures.steps in
    rw (s.1, s.2)
    (rowing_more _ _ _ _ _ c.loop-k.invariant _ _ s.0 _
    (put _ _ _ _ _ (c.copy_from_slice.ensures.after ∙ c.row_of.ensures) (omega (arith, length-row_of c.in-Some.record))))

pub returns : goal.returns
returns c = rowing_over _ _ _ _ _ c.loop-k.invariant c.in-None.ensures.steps.0.0
