-- The first bit that differs is an answer. Assumes nothing.
use Rattle.std.proofs.Common.{sym, ◌∙◌, arith}
use borrow.Author.Count.{below_more}
use Rattle.checking.proofs.Answers.{yes, no, unlike, alike}
use Rattle.checking.proofs.memories.row_agrees.Goals as goal

pub returns-then-bit_at : goal.returns-then-bit_at
returns-then-bit_at c = no λ e. unlike _ _ c.if-bit_at.true (c.bit_at.ensures ∙ e c.loop-c.c (omega arith) ∙ sym c.bit_at-in-loop-c.ensures)

pub loop-c-preserved : goal.loop-c-preserved
loop-c-preserved c = below_more _ _ c.loop-c.invariant (sym c.bit_at.ensures ∙ alike _ _ c.if-bit_at.false ∙ c.bit_at-in-loop-c.ensures)

pub returns : goal.returns
returns c = yes λ k l. c.loop-c.invariant k (omega arith)
