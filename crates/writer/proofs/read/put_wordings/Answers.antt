-- `writer::read::put_wordings` meets its contract. Assumes nothing.
use Rattle.std.proofs.Common.{arith, ◌≡◌, ◌+◌, ◌-◌, ℕ, List, ap, ◌∙◌, get_or, length, length-drop, take, drop}
use lib.Seq.{length-take-le, take-length}
use Rattle.numbers.specs.Spliced.{spliced}
use Rattle.writer.specs.Values.{wordings_at}
use Rattle.writer.proofs.Put.{put}
use Rattle.writer.proofs.Worded.{wording_at, worded_none, worded_more}
use Rattle.writer.proofs.read.put_wordings.Goals as goal

pub loop-i-init : goal.loop-i-init
loop-i-init c = worded_none _ _ _

pub loop-i-preserved : goal.loop-i-preserved
loop-i-preserved c =
    let book = c.args.book.now in
    let p = get_or c.args.places.now c.loop-i.i 0 in
    let within = c.requires.inside c.loop-i.i (omega arith) in
    let n : p + 3 + 24 - (p + 3) ≡ 24 = omega arith in
    let part : c.copy_from_slice.new.self ≡ wording_at book p = c.copy_from_slice.ensures.after ∙ ap (λ (k : ℕ). take k (drop (p + 3) book)) n in
    let long = length-take-le 24 (drop (p + 3) book) (omega (arith, length-drop (p + 3) book)) in
    worded_more _ _ _ _ _ c.loop-i.invariant (omega arith) within _ (put _ _ _ _ (wording_at book p) part (omega arith))

pub returns : goal.returns
returns c =
    let all : c.loop-i.i ≡ length c.args.places.now = omega arith in
    c.loop-i.invariant.stands ∙ ap (λ (l : List ℕ). spliced c.args.wordings.now 0 (wordings_at c.args.book.now l)) (ap (λ (k : ℕ). take k c.args.places.now) all ∙ take-length c.args.places.now)
