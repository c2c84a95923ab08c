-- `room::write::copy_at` meets its contract: one byte more behind those that are written is a longer front of `from`. Assumes nothing.
use Rattle.std.proofs.Common.{List, ℕ, ◌≡◌, ◌+◌, ◌∙◌, ap, sym, refl, set, get_or, take, arith, length-set}
use Rattle.numbers.specs.Spliced.{spliced}
use Rattle.numbers.proofs.Spliced.{spliced_nil}
use Rattle.room.proofs.Spliced.{set-take-behind}
use Rattle.room.proofs.write.copy_at.Goals as goal

pub loop-i-init : goal.loop-i-init
loop-i-init c = (refl, sym (spliced_nil c.args.part.now c.args.at))

pub loop-i-preserved : goal.loop-i-preserved
loop-i-preserved c =
    let l = c.loop-i in
    let a = c.args in (
      simp length-set (omega arith),
      ap (λ (p : List ℕ). set p (a.at + l.i) (get_or a.from.now l.i 0)) l.invariant.1 ∙ set-take-behind a.part.now a.at a.from.now l.i 0 (omega arith) (omega arith),
    )

pub returns : goal.returns
returns c =
    let l = c.loop-i in
    let a = c.args in
    let e : l.i ≡ a.n = omega arith in
    l.invariant.1 ∙ ap (λ (k : ℕ). spliced a.part.now a.at (take k a.from.now)) e
