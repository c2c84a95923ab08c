-- What a step looks up in a room before it changes anything. Assumes nothing: these are definitions.
use Rattle.std.specs.Prelude.{◌≡◌, ℕ, ◌≤◌, Bool, List, map, take}
use Rattle.matching.specs.Order.{Less, Sorted}
use Rattle.reading.specs.declared.Reading.{Reading}
use Rattle.reading.specs.Reading.{is_less, reading_at}
use Rattle.room.specs.Layout.{head_number, parts, order_part, slots_part}
use Rattle.row.specs.Row.{leading, lesser, stands_at}

-- how many readings are present; the place of w among them, where they ascend, and else a place up to that number; and whether w stands there
pub record LookedUp (room : List ℕ) (w : Reading) (n p : ℕ) (found : Bool) : Type 0 where
  pub many : n ≡ head_number room 2
  pub within : p ≤ n
  pub rank : Sorted (Less is_less) (map (reading_at (slots_part (parts room))) (take n (order_part (parts room)))) → p ≡ leading (lesser (slots_part (parts room)) w) (take n (order_part (parts room)))
  pub stands : found ≡ stands_at (order_part (parts room)) (slots_part (parts room)) n p w
