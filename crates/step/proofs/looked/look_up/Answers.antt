-- `step::looked::look_up` meets its contract: the order and the slots stand in a room that is not broken, and it says what the order's calls do of them. Assumes nothing.
use lib.Dec.{lit≤}
use Rattle.step.proofs.Lending.{in_room, many_read, parts-lent}
use Rattle.step.proofs.looked.look_up.Goals as goal

pub slice_bounds-order-end : goal.slice_bounds-order-end
slice_bounds-order-end c = in_room _ c.requires (lit≤ tt)

pub slice_bounds-slots-end : goal.slice_bounds-slots-end
slice_bounds-slots-end c = in_room _ c.requires (lit≤ tt)

pub two_at-count-requires : goal.two_at-count-requires
two_at-count-requires c = in_room _ c.requires (lit≤ tt)

pub rank_of-place-requires : goal.rank_of-place-requires
rank_of-place-requires c = parts-lent _ c.requires c.two_at-count.ensures.0

pub stands_at-present-requires : goal.stands_at-present-requires
stands_at-present-requires c = parts-lent _ c.requires c.two_at-count.ensures.0

pub returns : goal.returns
returns c = record {
  many = many_read _ c.requires c.two_at-count.ensures.0;
  within = c.rank_of-place.ensures.0;
  rank = c.rank_of-place.ensures.1;
  stands = c.stands_at-present.ensures;
}
