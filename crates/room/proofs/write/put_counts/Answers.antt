-- `room::write::put_counts` meets its contract: two numbers written one behind the other are one part written over. Assumes nothing.
use Rattle.std.proofs.Common.{◌∙◌, ap, List, ℕ, arith}
use Rattle.numbers.specs.BigEndian.{bytes}
use Rattle.numbers.specs.Spliced.{spliced}
use Rattle.numbers.proofs.BigEndian.{length-bytes}
use Rattle.numbers.proofs.Spliced.{spliced_twice}
use Rattle.room.proofs.write.put_counts.Goals as goal

pub returns : goal.returns
returns c =
    let a = c.args in
    let t = bytes 2 a.tokens in
    c.put_two-2.ensures
    ∙ ap (λ (h : List ℕ). spliced h 6 t) c.put_two.ensures
    ∙ spliced_twice a.head.now 4 (bytes 2 a.readings) (omega arith) 6 t (omega (arith, length-bytes 2 a.readings))
