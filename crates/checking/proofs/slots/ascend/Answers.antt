-- The call is asked about each two neighbours, and the order of readings is transitive, so that neighbours are enough.
use Rattle.std.proofs.Common.{rules, take}
use Rattle.std.proofs.lemmas.Fn.{always_returns_same}
use Rattle.reading.specs.Reading.{is_less, reading_at}
use Rattle.checking.proofs.Fronts.{ascending}
use Rattle.checking.proofs.slots.ascend.Goals as goal

pub returns : goal.returns
returns c =
    let read = reading_at c.args.slots.now in
    ascending read (take c.args.n c.args.order.now) c.is_sorted_by.result (c.is_sorted_by.ensures.cases (λ a b. is_less (read a) (read b)) (always_returns_same _ _ _ λ a r f k. search rules))
