-- `writer::layout::put_rule` meets its contract: kind, number and wording, one behind another. Assumes nothing.
use Rattle.std.proofs.Common.{arith, ◌+◌, ℕ, List, [], ◌∷◌, ◌++◌, refl}
use Rattle.numbers.specs.BigEndian.{bytes}
use Rattle.numbers.proofs.BigEndian.{length-bytes}
use Rattle.numbers.proofs.Spliced.{set-spliced}
use Rattle.writer.specs.Bytes.{record_bytes}
use Rattle.writer.proofs.Put.{put, behind}
use Rattle.writer.proofs.layout.put_rule.Goals as goal

pub returns : goal.returns
unfolding record_bytes
returns c =
    let kind : List ℕ = 1 ∷ [] in
    let number = bytes 2 c.args.number in
    let long = length-bytes 2 c.args.number in
    let one = behind _ _ kind number _ (omega arith) (set-spliced c.args.out.now c.args.at 1 (omega arith)) refl c.put_two.ensures in
    behind _ _ (kind ++ number) c.args.wording.now (c.args.at + 3) (omega arith) one (omega arith) (put _ _ _ _ _ c.copy_from_slice.ensures.after (omega arith))
