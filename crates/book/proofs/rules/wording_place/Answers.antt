-- Of a refused book the answer is the refusal. Of an accepted one the places found are those of its rules' records, which stand within the book, so what is
-- sought among them is the wording's place.
use Rattle.std.proofs.Common.{rules, ◌∙◌, ℕ, ◌<◌, arith, length-take, get_or-take}
use Rattle.book.proofs.Wordings.{refused-place, accepted-within, accepted-place}
use Rattle.book.proofs.rules.wording_place.Goals as goal

pub returns-in_err-found : goal.returns-in_err-found
returns-in_err-found c = let h = refused-place _ c.args.number _ c.in_err-found.ensures in search rules

pub seek-requires : goal.seek-requires
seek-requires c = λ k l.
    let within = accepted-within _ c.in_ok-found.found c.in_ok-found.ensures in
    let m : k < c.in_ok-found.found.size.rules = omega (arith, length-take {A = ℕ}) in
    rw get_or-take (within.1 k m)

pub returns : goal.returns
returns c = c.seek.ensures ∙ accepted-place _ c.in_ok-found.found c.in_ok-found.ensures _
