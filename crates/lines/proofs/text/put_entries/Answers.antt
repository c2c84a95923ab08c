-- An entry is put where the entries before it end.
use Rattle.std.proofs.Common.{◌≡◌, ◌+◌, ◌≤◌, ◌<◌, ℕ, List, length, take, slice_index_or, take_all, arith, ap}
use Rattle.matching.specs.Lists.{concat_map}
use Rattle.reading.specs.declared.Reading.{Reading}
use Rattle.lines.specs.Line.{entry, entries}
use Rattle.lines.proofs.Front.{front_nil, front_lent, rest_long}
use Rattle.lines.proofs.LineLaws.{entries-more, length-entries-more}
use Rattle.lines.proofs.text.put_entries.Goals as goal

abbrev none : Reading
none = record { line = 0; column = 0; value = 0 }

pub loop-r-init : goal.loop-r-init
unfolding concat_map
loop-r-init c = front_nil c.args.free.now

-- where a reading is left, its entry ends within the buffer
place : (rs : List Reading) {room at i : ℕ} → length (entries rs) ≤ room → at ≡ length (entries (take i rs)) → i < length rs → at + length (entry (slice_index_or rs i none)) ≤ room
place rs {i = i} h e k =
    let all : take (length rs) rs ≡ rs = take_all (length rs) rs (omega arith) in
    omega (arith, ap (λ l. length (entries l)) all, length-entries-more rs i (length rs) none k k)

pub put_entry-at-requires : goal.put_entry-at-requires
put_entry-at-requires c =
    let l = c.loop-r in
    let rs = c.args.readings.now in
    rest_long l.free l.at (length (entry (slice_index_or rs l.r-index none))) (omega (arith, place rs c.requires l.invariant.end c.loop-r-test.true, l.invariant.long))

pub overflow_add-at : goal.overflow_add-at
overflow_add-at c = omega (arith, place c.args.readings.now c.requires c.loop-r.invariant.end c.loop-r-test.true, c.put_entry-at.ensures.0)

pub loop-r-preserved : goal.loop-r-preserved
loop-r-preserved c =
    let l = c.loop-r in
    let rs = c.args.readings.now in
    let p = c.put_entry-at in
    let more = front_lent l.invariant (entry (slice_index_or rs l.r-index none)) (omega (arith, place rs c.requires l.invariant.end c.loop-r-test.true, p.ensures.0)) p.ensures in
    rw (← entries-more rs l.r-index none c.loop-r-test.true) at more
