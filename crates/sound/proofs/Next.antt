-- What a step on a sound room has worked out aside: the order, the memories and the tokens of the readings R that will be present. Assumes nothing.
use Prim.Native.Nat.{ℕ, ◌≤◌}
use mathlib.Core.Path.{◌≡◌}
use mathlib.Core.List.{List, map}
use lib.ListN.{length, take}
use Rattle.reading.specs.declared.Reading.{Reading}
use Rattle.reading.specs.Reading.{is_less, reading_at}
use Rattle.matching.specs.Complaints.{book_count}
use Rattle.matching.specs.Order.{Less, Sorted}
use Rattle.room.specs.Layout.{head_number, limit}
use Rattle.room.specs.Held.{Once, in_memory}
use Rattle.room.specs.Written.{Aside}
use Rattle.rete.specs.Rules.{Told}
use Rattle.sound.specs.Sound.{Sound}
use Rattle.sound.proofs.Agree.{pass_slot, Bits}
use Rattle.sound.proofs.SoundRoom.{tests_in, counts_of}

-- the slots that will be in use
abbrev pub slots_next : Aside → List ℕ
slots_next a = take a.readings a.order

-- `slots` and `rows` are the readings and rows by slot that will be written; the tokens were written into the planes `ns` and `ls`, and what is
-- told of each rule over the tables `es` and `ms`
pub record Next (room : List ℕ) (s : Sound room) (a : Aside) (slots rows : List ℕ) (R : List Reading) (complete : ℕ) : Type 0 where
  pub order_long : length a.order ≡ 256
  pub once : Once a.order
  pub few : a.readings ≤ head_number room 0
  pub reads : map (reading_at slots) (slots_next a) ≡ R
  pub ascending : Sorted (Less is_less) R
  pub bits : Bits (slots_next a) (reading_at slots) (in_memory rows) 0 s.rules
  pub fits : book_count s.rules R ≤ limit room
  pub ns : List ℕ
  pub ls : List ℕ
  pub es : List ℕ
  pub ms : List ℕ
  pub told : Told (limit room) (slots_next a) (reading_at slots) (pass_slot (reading_at slots) (in_memory rows) (tests_in room)) (counts_of room s)
      ns ls es ms a.tokens complete a.nodes a.lasts a.ends a.completes
