-- `writer::layout::put_test` meets its contract: the bytes of each kind of test stand one part behind another. Assumes nothing.
use Rattle.std.proofs.Common.{arith, rules, ℕ, List, [], ◌∷◌, ◌++◌}
use Rattle.numbers.specs.BigEndian.{bytes}
use Rattle.numbers.proofs.BigEndian.{length-bytes}
use Rattle.writer.specs.Bytes.{test_bytes}
use Rattle.writer.proofs.Put.{put, behind, bits-read}
use Rattle.writer.proofs.layout.put_test.Goals as goal

pub returns-in-Constant : goal.returns-in-Constant
unfolding test_bytes
returns-in-Constant c =
    let t = c.in-Constant in
    let front : List ℕ = 3 ∷ t.place ∷ t.relation ∷ [] in
    rw t.is (behind _ _ front _ _ (omega arith) (put _ _ _ _ front c.copy_from_slice.ensures.after (omega arith)) (omega arith) c.put_four.ensures)

pub returns-in-Position : goal.returns-in-Position
unfolding test_bytes
returns-in-Position c = rw c.in-Position.is (put _ _ _ _ _ c.copy_from_slice-in-Position.ensures.after (omega arith))

pub returns-in-Gap : goal.returns-in-Gap
unfolding test_bytes
returns-in-Gap c =
    let t = c.in-Gap in
    let front : List ℕ = 5 ∷ t.place ∷ t.condition ∷ t.other ∷ [] in
    let lows = bytes 8 c.cast_unsigned.result in
    let highs = bytes 8 c.cast_unsigned-in-Gap.result in
    let long = length-bytes 8 c.cast_unsigned.result in
    let one = behind _ _ front lows _ (omega arith) (put _ _ _ _ front c.copy_from_slice-in-Gap.ensures.after (omega arith)) (omega arith) c.put_eight.ensures in
    let two = behind _ _ (front ++ lows) highs _ (omega arith) one (omega arith) c.put_eight-in-Gap.ensures in
    rw (t.is, ← bits-read t.low _ (search rules) c.cast_unsigned.ensures, ← bits-read t.high _ (search rules) c.cast_unsigned-in-Gap.ensures) two
