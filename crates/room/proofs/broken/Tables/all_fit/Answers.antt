-- `room::broken::Tables::all_fit` meets its contract: what its two tests answer together is what is asked of each rule and of the sum of their conditions. Assumes nothing.
use Rattle.std.proofs.Common.{ℕ, ◌<◌, refl, arith}
use Rattle.numbers.specs.BigEndian.{uint}
use Rattle.room.proofs.BrokenLaws.{RuleFits, count_at, tables_read}
use Rattle.room.proofs.broken.Tables.all_fit.Goals as goal

pub returns-then-counts_fit : goal.returns-then-counts_fit
returns-then-counts_fit c e =
    let room = c.args.self.now.room.now in
    let conditions = c.counts_fit.ensures c.if-counts_fit.true in
    let fits : (i : ℕ) → i < c.args.self.now.rules → RuleFits room (uint 2 room 6) i =
    λ i l. omega (arith, conditions.0 i l, c.ends_fit.ensures e i (omega arith), count_at room i (omega arith)) in
    (tables_read room (omega arith) c.args.self.now.counted refl c.two_at-conditions.ensures.0 (omega arith)).1 (fits, conditions.1)
