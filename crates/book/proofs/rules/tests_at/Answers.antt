-- A test more is read, or there is none; a test stands whole within the book, so the place behind it does not wrap.
use Rattle.std.proofs.Common.{◌≡◌, arith}
use Rattle.book.proofs.TestsFrom.{a_test, no_test, test_within, filled_none, filled_more, counted-over, counted-full, filled-over, filled-full}
use Rattle.book.proofs.rules.tests_at.Goals as goal

pub loop-count-init : goal.loop-count-init
loop-count-init c = filled_none _ _

pub returns-in_default : goal.returns-in_default
returns-in_default c =
    let none = no_test _ c.in_default.ensures in
    record { count = counted-over _ _ _ _ _ c.loop-count.invariant none; tests = filled-over _ _ _ _ _ c.loop-count.invariant none }

pub overflow_add-place : goal.overflow_add-place
overflow_add-place c = omega (arith, c.test_size-place.ensures, test_within _ _ _ (a_test _ _ c.in-Some.ensures))

pub loop-count-preserved : goal.loop-count-preserved
loop-count-preserved c =
    filled_more _ _ _ _ _ c.loop-count.invariant _ _ c.loop-count-test.true (a_test _ _ c.in-Some.ensures) c.test_size-place.ensures

pub returns : goal.returns
returns c =
    let all : c.loop-count.count ≡ 8 = omega arith in
    record { count = rw all at (counted-full _ _ _ _ _ c.loop-count.invariant all); tests = filled-full _ _ _ _ _ c.loop-count.invariant all }
