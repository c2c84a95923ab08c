-- `numbers::put_two` meets its contract: the library's bytes of `x` stand in the place of those that were lent. Assumes nothing.
use Rattle.std.proofs.Common.{◌∙◌, arith}
use Rattle.numbers.proofs.BigEndian.{be-spliced}
use Rattle.numbers.proofs.put_two.Goals as goal

pub returns : goal.returns
returns c = be-spliced _ _ 2 _ _ _ (omega arith) (c.copy_from_slice.ensures.after ∙ c.to_be_bytes.ensures)
