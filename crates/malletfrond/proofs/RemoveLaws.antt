-- A removal answered: refused where the reading is not present, and else accepted with its counts. Assumes nothing.
use Prim.Native.Nat.{ℕ, ◌-◌}
use mathlib.Core.Path.{◌≡◌, refl, sym, ap, ◌∙◌}
use mathlib.Core.Bool.{true, false}
use mathlib.Core.List.Memᴰ
use mathlib.Core.List.{List}
use native.Mathlib.Omega.{arith}
use lib.ListN.{length}
use Rattle.std.specs.Prelude.{Err}
use Rattle.book.specs.declared.refusal.Cause.TheVariants.{NotPresent}
use Rattle.book.specs.Refusals.{refusal}
use Rattle.reading.specs.declared.Reading.{Reading}
use Rattle.reading.specs.Reading.{is_less, is_same}
use Rattle.matching.specs.Complaints.{book_count, complaints}
use Rattle.matching.specs.Order.{without}
use Rattle.matching.specs.Step.{State, accepted, present, less, refuse, with_readings, not_among, removed, remove, stepped}
use Rattle.matching.proofs.Laws.Members.{mem_same}
use Rattle.matching.proofs.Laws.Orders.{length_inserted, inserted-without}
use Rattle.matching.proofs.Laws.ReadingOrder.{is_less-order, is_same-exact}
use Rattle.room.specs.Broken.{broken}
use Rattle.room.specs.Layout.{head_number, parts, order_part, slots_part}
use Rattle.room.specs.Held.{held, complete_of}
use Rattle.step.specs.Worked.{RemovedAt}
use Rattle.sound.specs.Sound.{Sound, state_of}
use Rattle.malletfrond.specs.Answers.{changed_to, refusals}
use Rattle.malletfrond.specs.Promise.{Steps}
use Rattle.malletfrond.proofs.AddLaws.{stands, is-present, present_many}
use Rattle.sound.proofs.AnswerLaws.{vanished}
use Rattle.sound.proofs.Ranks.{rank_in, stands-there}
use Rattle.sound.proofs.Removing.{removing_next}
use Rattle.sound.proofs.Resumed.{next-tokens, next_complete}
use Rattle.sound.proofs.SoundLaws.{sound_complete}
use Rattle.sound.proofs.SoundRoom.{sound_kept}
use Rattle.malletfrond.proofs.StepLaws.{steps-refused, steps-accepted}

-- ---- the step on values, case by case

module _ (s : State) (w : Reading) where
  removed_12 : present s w ≡ false → stepped s (remove w) ≡ refuse s NotPresent
  unfolding stepped removed
  removed_12 e = rw e

  removed_yes : present s w ≡ true → stepped s (remove w)
      ≡ record {
        answer = accepted (length (less s w)) (book_count s.book (less s w)) (length (not_among (complaints s.book (less s w)) (complaints s.book s.readings)));
        next = with_readings s (less s w);
      }
  unfolding stepped removed
  removed_yes e = rw e

-- ---- in a room that is not broken

module _ (room : List ℕ) (w : Reading) {p : ℕ} (place : Sound room → p ≡ rank_in room w) (whole : broken room ≡ false) where
  pub removes_absent : stands room w p ≡ false → Steps room (remove w) (Err (refusal NotPresent 0)) room
  unfolding refusals
  removes_absent e = steps-refused room (remove w) NotPresent whole (Memᴰ.head refl) (λ s. removed_12 (state_of room s) w (is-present room w place whole s false e))

  pub removes_accepted : stands room w p ≡ true → {tokens complete : ℕ} {room' : List ℕ} → RemovedAt room p tokens complete room'
      → Steps room (remove w) (changed_to (head_number room 2 - 1) tokens (complete_of room - complete)) room'
  unfolding held
  removes_accepted there {tokens} {complete} {room'} at =
      steps-accepted room room' (remove w) (head_number room 2 - 1) tokens (complete_of room - complete) at.aside _ _ complete whole at.written at.long
      (λ s.
      let R = (held room).readings in
      let R' = without is_same w R in
      let yes = removed_yes (state_of room s) w (is-present room w place whole s true there) in
      let found = stands-there (slots_part (parts room)) w (order_part (parts room)) (head_number room 2) p there in
      let n = removing_next room s w p found.0 found.1 at in
      let old = (mem_same is_same-exact w R).0 (is-present room w place whole s true there) in
      let readings : length R' ≡ head_number room 2 - 1 =
      omega (arith, length_inserted is_less w R', ap length (inserted-without is_same-exact w is_less-order s.ascending old), present_many room whole) in
      let count : book_count s.rules R' ≡ tokens = sym (sym at.tokens_are ∙ next-tokens room room' s _ _ _ R' complete n) in
      let changed : length (not_among (complaints s.rules R') (complaints s.rules R)) ≡ complete_of room - complete =
      vanished s.rules (sound_kept room s) w R ∙ rw (sym (next_complete room room' s _ _ _ R' complete n), sound_complete room s) in
      rw yes (rw (readings, count, changed), n))
