-- `room::write::write_counts` meets its contract: three parts written, and `counted-written` says what the parts then are. Assumes nothing.
use Rattle.std.proofs.Common.{List, ℕ, ap}
use borrow.Rule.Slice.PartMut.{same_len_mid}
use Rattle.room.specs.Parts.{put}
use Rattle.room.proofs.Written.{counted-written}
use Rattle.room.proofs.write.write_counts.Goals as goal

pub returns : goal.returns
returns c T fits =
    let a = c.args in
    let l0 : List ℕ = a.room.now in
    let l1 : List ℕ = put l0 8688 64 c.put_table.new.table in
    let l2 : List ℕ = put l1 8752 64 c.put_table-2.new.table in
    counted-written T a.readings a.tokens a.ends.now a.completes.now
    l0 l1 l2 (put l2 0 16 c.put_counts.new.head) c.requires.0
    (ap (put l0 8688 64) c.put_table.ensures) (same_len_mid 8688 64 l0 _ c.put_table.auto.table)
    (ap (put l1 8752 64) c.put_table-2.ensures) (same_len_mid 8752 64 l1 _ c.put_table-2.auto.table)
    (ap (put l2 0 16) c.put_counts.ensures) (same_len_mid 0 16 l2 _ c.put_counts.auto.head)
