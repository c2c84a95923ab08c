-- `malletfrond::check` meets its contract: what a sound room has is asked part after part, so a no anywhere is the check's, and where all before it was a yes the answer
-- on the tokens is the check's, as `Asked` and `checks_yes` say. Assumes nothing.
use mathlib.Core.Bool.{false, not}
use mathlib.Core.Path.{◌≡◌, ap}
use Rattle.room.specs.Broken.{broken}
use Rattle.room.specs.Held.{Once}
use Rattle.room.specs.Layout.{parts, order_part}
use Rattle.checking.specs.Checked.{Indexed, Rises, RowsAgree}
use Rattle.malletfrond.proofs.CheckLaws.{Asked, asked_whole, asked_more, asked_less, sound_indexed, sound-rises, sound-rows, checks_no, checks_yes}
use Rattle.malletfrond.proofs.check.Goals as goal
use Rattle.malletfrond.proofs.check.Goals.{Joined-order_agrees, then-not-is_broken, else-not-is_broken, then-index_agrees, else-index_agrees, then-order_agrees, else-order_agrees}

-- what is asked before the tokens, part after part
asked : (c : Joined-order_agrees) → Asked c.args.room.now c.if-order_agrees.value
    (((broken c.args.room.now ≡ false × Indexed c.args.room.now) × (Once (order_part (parts c.args.room.now)) × Rises c.args.room.now)) × RowsAgree c.args.room.now)
asked c =
    let first = asked_whole _ c.is_broken.ensures in
    let second : Asked _ c.if-not-is_broken.value (broken c.args.room.now ≡ false × Indexed c.args.room.now) =
    elim c.if-not-is_broken.branch [
      | then-not-is_broken w ↦ asked_more _ first (ap not w.if-not-is_broken.true) w.index_agrees.ensures (sound_indexed _) w.value-is
      | else-not-is_broken w ↦ asked_less _ first (ap not w.if-not-is_broken.false) w.value-is
    ] in
    let third : Asked _ c.if-index_agrees.value ((broken c.args.room.now ≡ false × Indexed c.args.room.now) × (Once (order_part (parts c.args.room.now)) × Rises c.args.room.now)) =
    elim c.if-index_agrees.branch [
      | then-index_agrees w ↦ asked_more _ second w.if-index_agrees.true w.order_agrees.ensures (λ s. (s.arranged.once, sound-rises _ s)) w.value-is
      | else-index_agrees w ↦ asked_less _ second w.if-index_agrees.false w.value-is
    ] in
    elim c.if-order_agrees.branch [
      | then-order_agrees w ↦ asked_more _ third w.if-order_agrees.true w.rows_agree.ensures (sound-rows _) w.value-is
      | else-order_agrees w ↦ asked_less _ third w.if-order_agrees.false w.value-is
    ]

pub returns-then-rows_agree : goal.returns-then-rows_agree
returns-then-rows_agree c = checks_yes _ (asked (goal.at.returns-then-rows_agree c).Joined-order_agrees) c.if-rows_agree.true c.tokens_agree.ensures

pub returns-else-rows_agree : goal.returns-else-rows_agree
returns-else-rows_agree c = checks_no _ (asked (goal.at.returns-else-rows_agree c).Joined-order_agrees) c.if-rows_agree.false
