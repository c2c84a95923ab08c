-- `numbers::signed_of` meets its contract: the library's `cast_signed` reads the bits as `signed` does. Assumes nothing.
use Rattle.numbers.proofs.Signed.{signed_again}
use Rattle.numbers.proofs.signed_of.Goals as goal

pub returns : goal.returns
returns c = signed_again c.args.n _ c.ranges.n c.cast_signed.ensures
