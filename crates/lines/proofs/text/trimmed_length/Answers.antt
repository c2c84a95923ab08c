-- A last byte that is a space changes nothing, and what ends with another is its own trimmed.
use Rattle.std.proofs.Common.{◌≡◌, ◌+◌, ◌-◌, ℕ, take, sym, ap, ◌∙◌, arith}
use Rattle.lines.specs.Line.{trimmed}
use Rattle.lines.proofs.LineLaws.{trimmed_shorter, trimmed_itself}
use Rattle.lines.proofs.text.trimmed_length.Goals as goal

pub returns-then-wording-last-ne32 : goal.returns-then-wording-last-ne32
returns-then-wording-last-ne32 c =
    let n : ℕ = c.loop-last.last in
    let e : n - 1 + 1 ≡ n = omega arith in
    (rw e (sym (trimmed_itself c.args.wording.now n (omega arith) (omega arith) c.if-wording-last-ne32.true) ∙ c.loop-last.invariant.1), omega arith)

pub loop-last-preserved : goal.loop-last-preserved
loop-last-preserved c =
    (omega arith, sym (trimmed_shorter c.args.wording.now c.loop-last.last (omega arith) (omega arith) c.if-wording-last-ne32.false) ∙ c.loop-last.invariant.1)

pub returns : goal.returns
unfolding trimmed
returns c =
    let e : c.loop-last.last ≡ 0 = omega arith in
    (ap (λ (k : ℕ). trimmed (take k c.args.wording.now)) (sym e) ∙ c.loop-last.invariant.1, omega arith)
