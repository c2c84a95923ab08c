-- Where the readings ascend, the place that parts those that come before w from the others is its rank. Assumes nothing.
use Rattle.std.proofs.Common.{arith, rules, take, length-take-le}
use Rattle.std.proofs.lemmas.List.Sorted.{IsPartitionPoint-from_clause}
use Rattle.row.specs.Row.{lesser}
use Rattle.row.proofs.OrderLaws.{parted-by, parted-rank}
use Rattle.row.proofs.order.rank_of.Goals as goal

pub returns : goal.returns
returns c =
    let a = c.args in
    let long = length-take-le a.n a.order.now (omega arith) in (
      omega (arith, c.parting.ensures.bound),
      λ up. parted-rank a.slots.now a.w (take a.n a.order.now) up c.parting.result c.parting.ensures.bound
          (IsPartitionPoint-from_clause (lesser a.slots.now a.w) (take a.n a.order.now) _ c.parting.ensures.partitioned (parted-by a.slots.now a.w (take a.n a.order.now) up) (λ x r f' k. search rules)),
    )
