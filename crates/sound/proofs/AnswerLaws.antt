-- How many complaints appear or vanish by a step: the difference of how many there are before and after it. Assumes nothing.
use Prim.Native.Nat.{◌-◌}
use mathlib.Core.Path.{◌≡◌, ap}
use mathlib.Core.List.{List, Memᴰ}
use native.Mathlib.Omega.{arith}
use lib.ListN.{length}
use Rattle.book.specs.Rules.{Rule}
use Rattle.book.specs.Limits.{Kept}
use Rattle.reading.specs.declared.Reading.{Reading}
use Rattle.reading.specs.Reading.{is_less, is_same}
use Rattle.matching.specs.Complaints.{complaints, involves}
use Rattle.matching.specs.Order.{inserted, without}
use Rattle.matching.specs.Step.{not_among}
use Rattle.matching.proofs.Laws.Complaints.{complaints_vanish, complaints-without}
use Rattle.matching.proofs.Laws.Lists.{length-keep}
use Rattle.matching.proofs.Laws.Orders.{without-inserted}
use Rattle.matching.proofs.Laws.ReadingOrder.{is_same-exact}

-- those with the reading and those without it are all
module _ (book : List Rule) (k : Kept book) (w : Reading) where
  pub vanished : (R : List Reading)
      → length (not_among (complaints book (without is_same w R)) (complaints book R)) ≡ length (complaints book R) - length (complaints book (without is_same w R))
  vanished R =
      omega (arith, ap length (complaints_vanish book k w R), ap length (complaints-without w R book), length-keep (involves w) (complaints book R))

  -- an addition is a removal backwards
  pub appeared : (R : List Reading) → ¬ Memᴰ w R
      → length (not_among (complaints book R) (complaints book (inserted is_less w R))) ≡ length (complaints book (inserted is_less w R)) - length (complaints book R)
  appeared R new = rw (without-inserted is_same-exact w is_less R new) at (vanished (inserted is_less w R))
