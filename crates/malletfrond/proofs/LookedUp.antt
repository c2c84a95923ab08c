-- What a step looks up in a room that is not broken, before it changes anything: how many readings are present, the place of a reading among them, and whether it stands
-- there. The laws of additions and removals, said of the numbers as they were read. Assumes nothing.
use Prim.Native.Nat.{ℕ, ◌+◌, ◌-◌, ◌≤◌, ◌<◌}
use mathlib.Core.Path.{◌≡◌, sym, ◌∙◌}
use mathlib.Core.Bool.{Bool, true, false}
use mathlib.Core.List.{List}
use native.Mathlib.Omega.{arith}
use lib.Dec.{lit≤}
use Rattle.std.specs.Prelude.{Err}
use Rattle.book.specs.declared.refusal.Cause.TheVariants.{AlreadyPresent, NotPresent, TooManyReadings, TooManyTokens}
use Rattle.book.specs.Refusals.{refusal}
use Rattle.numbers.specs.BigEndian.{uint}
use Rattle.reading.specs.declared.Reading.{Reading}
use Rattle.matching.specs.Step.{add, remove}
use Rattle.room.specs.Broken.{broken}
use Rattle.room.specs.Held.{held, complete_of}
use Rattle.room.specs.Layout.{head_number, limit, parts, order_part, slots_part}
use Rattle.step.specs.Worked.{AddedAt, RemovedAt}
use Rattle.step.proofs.Lending.{number_read}
use Rattle.sound.specs.Sound.{Sound}
use Rattle.malletfrond.specs.Answers.{changed_to}
use Rattle.step.specs.Looked.{LookedUp}
use Rattle.malletfrond.specs.Promise.{Steps}
use Rattle.malletfrond.proofs.AddLaws.{stands, adds_present, adds_full, adds_over, adds_accepted}
use Rattle.sound.proofs.Ranks.{rank_in, stands-there}
use Rattle.sound.proofs.ReadBack.{Fits}
use Rattle.malletfrond.proofs.RemoveLaws.{removes_absent, removes_accepted}

-- what was looked up of a reading, in a room that is not broken
module _ {room : List ℕ} {w : Reading} {n p : ℕ} {found : Bool} (whole : broken room ≡ false) (k : LookedUp room w n p found) where
  -- the place is the reading's, if the room is sound
  is_rank : Sound room → p ≡ rank_in room w
  unfolding held
  is_rank s = (rw k.many at k.rank) s.ascending

  is_found : stands room w p ≡ found
  is_found = sym (rw k.many at k.stands)

  -- ---- a reading that was found, and is not added, or is taken out

  module _ (old : found ≡ true) where
    pub adds_old : Steps room (add w) (Err (refusal AlreadyPresent 0)) room
    adds_old = adds_present room w is_rank whole (is_found ∙ old)

    -- it stands among those present
    pub found-low : p < head_number room 2
    found-low = (stands-there (slots_part (parts room)) w (order_part (parts room)) (head_number room 2) p (is_found ∙ old)).0

    pub removes_found : {tokens complete before changed : ℕ} {room' : List ℕ} → RemovedAt room p tokens complete room' → before ≡ complete_of room → changed ≡ before - complete
        → Steps room (remove w) (changed_to (n - 1) tokens changed) room'
    removes_found at b c = rw (k.many, c, b) (removes_accepted room w is_rank whole (is_found ∙ old) at)

  -- ---- a reading that was not found, and is not taken out, or is added where there is a slot for it

  module _ (new : found ≡ false) where
    pub removes_new : Steps room (remove w) (Err (refusal NotPresent 0)) room
    removes_new = removes_absent room w is_rank whole (is_found ∙ new)

    module _ {E : ℕ} (read : E ≡ uint 2 room 0) where
      E-read : E ≡ head_number room 0
      E-read = number_read room 0 (lit≤ tt) read

      pub adds_no_slot : E ≤ n → Steps room (add w) (Err (refusal TooManyReadings 0)) room
      adds_no_slot h = adds_full room w is_rank whole (is_found ∙ new) (omega (arith, E-read, k.many))

      module _ (free : n < E) where
        pub slot_free : head_number room 2 < head_number room 0
        slot_free = omega (arith, E-read, k.many)

        module _ (fits : Fits w) {tokens complete : ℕ} {room' : List ℕ} (at : AddedAt room p w tokens complete room') where
          pub adds_too_many : limit room < tokens → Steps room (add w) (Err (refusal TooManyTokens 0)) room'
          adds_too_many = adds_over room w is_rank whole (is_found ∙ new) slot_free at fits

          pub adds_new : {before changed : ℕ} → tokens ≤ limit room → before ≡ complete_of room → changed ≡ complete - before
              → Steps room (add w) (changed_to (n + 1) tokens changed) room'
          adds_new h b c = rw (k.many, c, b) (adds_accepted room w is_rank whole (is_found ∙ new) slot_free at fits h)
