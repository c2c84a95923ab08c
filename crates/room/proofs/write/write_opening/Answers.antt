-- `room::write::write_opening` meets its contract: eight writes, each of one part or within one, and `opened-written` says what the parts then are. Assumes nothing.
use Rattle.std.proofs.Common.{List, ℕ, ap}
use borrow.Rule.Slice.PartMut.{same_len_mid}
use Rattle.room.specs.Parts.{put}
use Rattle.room.proofs.Written.{opened-written}
use Rattle.room.proofs.write.write_opening.Goals as goal

pub returns : goal.returns
returns c =
    let a = c.args in
    let i = a.index.now in
    let l0 : List ℕ = a.room.now in
    let l1 : List ℕ = put l0 0 16 c.put_twos.new.part in
    let l2 : List ℕ = c.copy_at.new.part in
    let l3 : List ℕ = put l2 8208 384 c.put_twos-2.new.part in
    let l4 : List ℕ = put l3 8592 64 c.put_twos-3.new.part in
    let l5 : List ℕ = c.copy_at-2.new.part in
    let l6 : List ℕ = put l5 8688 64 c.clear.new.part in
    let l7 : List ℕ = put l6 8752 64 c.clear-2.new.part in
    opened-written a.limits.readings a.limits.tokens i.rules i.conditions a.book.now i.rule_places.now i.rule_conditions.now i.condition_places.now
    l0 l1 l2 l3 l4 l5 l6 l7 (put l7 8816 256 c.put_plain_order.new.order)
    c.requires
    (ap (put l0 0 16) c.put_twos.ensures) (same_len_mid 0 16 l0 _ c.put_twos.auto.part)
    c.copy_at.ensures c.copy_at.auto.part
    (ap (put l2 8208 384) c.put_twos-2.ensures) (same_len_mid 8208 384 l2 _ c.put_twos-2.auto.part)
    (ap (put l3 8592 64) c.put_twos-3.ensures) (same_len_mid 8592 64 l3 _ c.put_twos-3.auto.part)
    c.copy_at-2.ensures c.copy_at-2.auto.part
    (ap (put l5 8688 64) c.clear.ensures) (same_len_mid 8688 64 l5 _ c.clear.auto.part)
    (ap (put l6 8752 64) c.clear-2.ensures) (same_len_mid 8752 64 l6 _ c.clear-2.auto.part)
    (ap (put l7 8816 256) c.put_plain_order.ensures) (same_len_mid 8816 256 l7 _ c.put_plain_order.auto.order)
