-- The closure is asked of each byte of the text.
use Rattle.std.proofs.Common.{◌&&◌, leb, sym, ◌∙◌, rules, tests}
use Rattle.std.proofs.lemmas.Iterator.{YieldsList-from_slice}
use Rattle.std.proofs.lemmas.Iterator.Search.{all_from_yields_List}
use Rattle.book.proofs.JudgementLaws.{printable_all}
use Rattle.book.proofs.judgement.all_printable.Goals as goal

pub returns : goal.returns
returns c =
    all_from_yields_List (λ b. leb 32 b && leb b 126) _ _ c.all.result c.all.ensures.ran (YieldsList-from_slice c.args.text.now cc) (λ x b q k. search (rules, tests))
    ∙ sym (printable_all c.args.text.now)
