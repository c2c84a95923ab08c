-- `room::write::write_added` meets its contract: five writes, each of one part or within one, then what is counted, and `added-written` says what the parts then are. Assumes nothing.
use Rattle.std.proofs.Common.{List, ℕ, ap}
use borrow.Rule.Slice.PartMut.{same_len_mid}
use Rattle.room.specs.Parts.{put}
use Rattle.room.specs.Written.{aside}
use Rattle.room.proofs.Written.{added-written}
use Rattle.room.proofs.write.write_added.Goals as goal

pub returns : goal.returns
returns c =
    let a = c.args in
    let l3 : List ℕ = c.copy_at-3.new.part in
    let l4 : List ℕ = put l3 9072 3072 c.put_reading.new.bytes in
    let l5 : List ℕ = put l4 12144 6144 c.copy_at-4.new.part in
    added-written a.most (aside a.worked.now) a.slot a.r a.row.now
    a.room.now c.copy_at.new.part c.copy_at-2.new.part l3 l4 l5 c.write_counts.new.room
    c.requires.0 c.requires.1
    c.copy_at.ensures c.copy_at.auto.part
    c.copy_at-2.ensures c.copy_at-2.auto.part
    c.copy_at-3.ensures c.copy_at-3.auto.part
    (ap (put l3 9072 3072) c.put_reading.ensures) (same_len_mid 9072 3072 l3 _ c.put_reading.auto.bytes)
    (ap (put l4 12144 6144) c.copy_at-4.ensures) (same_len_mid 12144 6144 l4 _ c.copy_at-4.auto.part)
    (c.write_counts.ensures a.most)
