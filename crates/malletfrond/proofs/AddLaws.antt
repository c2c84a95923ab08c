-- An addition answered: each refusal where the step on values has it, and an accepted one with its counts. Assumes nothing.
use Prim.Native.Nat.{ℕ, ◌+◌, ◌-◌, ◌≤◌, ◌<◌}
use mathlib.Core.Path.{◌≡◌, refl, sym, ◌∙◌}
use mathlib.Core.Bool.{Bool, true, false, false≢true}
use mathlib.Core.Logic.{⊎_elim}
use mathlib.Core.List.{List, Memᴰ}
use native.Mathlib.Omega.{arith}
use borrow.Author.Tests.{le-leb, lt-leb, lt-ltb, le-ltb}
use lib.ListN.{length}
use Rattle.std.specs.Prelude.{Err}
use Rattle.book.specs.declared.refusal.Cause.TheVariants.{AlreadyPresent, TooManyReadings, TooManyTokens}
use Rattle.book.specs.Refusals.{refusal}
use Rattle.reading.specs.declared.Reading.{Reading}
use Rattle.reading.specs.Reading.{is_less}
use Rattle.matching.specs.Complaints.{book_count, complaints}
use Rattle.matching.specs.Order.{inserted}
use Rattle.matching.specs.Step.{State, accepted, present, more, refuse, with_readings, not_among, added, add, stepped}
use Rattle.matching.proofs.Laws.Members.{mem_same}
use Rattle.matching.proofs.Laws.Orders.{length_inserted}
use Rattle.matching.proofs.Laws.ReadingOrder.{is_same-exact}
use Rattle.room.specs.Broken.{broken}
use Rattle.room.specs.Layout.{head_number, limit, parts, order_part, slots_part}
use Rattle.room.specs.Held.{held, complete_of}
use Rattle.room.proofs.BrokenLaws.{not_broken-whole}
use Rattle.row.specs.Row.{stands_at}
use Rattle.weave.proofs.Grown.{le_or_lt}
use Rattle.step.specs.Worked.{AddedAt}
use Rattle.sound.specs.Sound.{Sound, state_of}
use Rattle.malletfrond.specs.Answers.{changed_to, refusals}
use Rattle.malletfrond.specs.Promise.{Steps}
use Rattle.sound.proofs.Adding.{adding_over, adding_next}
use Rattle.sound.proofs.AnswerLaws.{appeared}
use Rattle.sound.proofs.Ranks.{rank_in, stands-present}
use Rattle.sound.proofs.ReadBack.{Fits}
use Rattle.sound.proofs.Resumed.{next-tokens, next_complete}
use Rattle.sound.proofs.SoundLaws.{length-held-readings, sound_complete}
use Rattle.sound.proofs.SoundRoom.{sound_kept}
use Rattle.malletfrond.proofs.StepLaws.{steps-refused, steps-accepted}

-- ---- the step on values, case by case

module _ (s : State) (w : Reading) where
  added_11 : present s w ≡ true → stepped s (add w) ≡ refuse s AlreadyPresent
  unfolding stepped added
  added_11 e = rw e

  module _ (new : present s w ≡ false) where
    added_13 : s.E ≤ length s.readings → stepped s (add w) ≡ refuse s TooManyReadings
    unfolding stepped added
    added_13 h = rw (new, le-leb s.E (length s.readings) h)

    module _ (free : length s.readings < s.E) where
      added_14 : s.T < book_count s.book (more s w) → stepped s (add w) ≡ refuse s TooManyTokens
      unfolding stepped added
      added_14 h = rw (new, lt-leb s.E (length s.readings) free, lt-ltb s.T (book_count s.book (more s w)) h)

      added_yes : book_count s.book (more s w) ≤ s.T → stepped s (add w)
          ≡ record {
            answer = accepted (length (more s w)) (book_count s.book (more s w)) (length (not_among (complaints s.book s.readings) (complaints s.book (more s w))));
            next = with_readings s (more s w);
          }
      unfolding stepped added
      added_yes h = rw (new, lt-leb s.E (length s.readings) free, le-ltb s.T (book_count s.book (more s w)) h)

-- ---- in a room that is not broken

pub present_many : (room : List ℕ) → broken room ≡ false → length (held room).readings ≡ head_number room 2
present_many room whole = length-held-readings room (not_broken-whole room whole)

-- whether w stands at place p of those present
abbrev pub stands : List ℕ → Reading → ℕ → Bool
stands room w p = stands_at (order_part (parts room)) (slots_part (parts room)) (head_number room 2) p w

-- the place p where w was looked up: its rank, if the room is sound
module _ (room : List ℕ) (w : Reading) {p : ℕ} (place : Sound room → p ≡ rank_in room w) (whole : broken room ≡ false) where
  pub is-present : (s : Sound room) (b : Bool) → stands room w p ≡ b → present (state_of room s) w ≡ b
  is-present s b e = sym (stands-present room s w) ∙ rw (place s) at e

  pub adds_present : stands room w p ≡ true → Steps room (add w) (Err (refusal AlreadyPresent 0)) room
  unfolding refusals
  adds_present e = steps-refused room (add w) AlreadyPresent whole (mathlib.Core.List.Memᴰ.head refl) (λ s. added_11 (state_of room s) w (is-present s true e))

  module _ (new : stands room w p ≡ false) where
    pub adds_full : head_number room 0 ≤ head_number room 2 → Steps room (add w) (Err (refusal TooManyReadings 0)) room
    unfolding refusals held
    adds_full h =
        steps-refused room (add w) TooManyReadings whole (mathlib.Core.List.Memᴰ.tail (mathlib.Core.List.Memᴰ.head refl))
        (λ s. added_13 (state_of room s) w (is-present s false new) (omega (arith, present_many room whole)))

    module _ (free : head_number room 2 < head_number room 0) {tokens complete : ℕ} {room' : List ℕ} (at : AddedAt room p w tokens complete room') (fits : Fits w) where
      module _ (s : Sound room) where
        abbrev with_it : List Reading
        with_it = inserted is_less w (held room).readings

        free_is : length (held room).readings < (held room).E
        unfolding held
        free_is = omega (arith, present_many room whole)

        -- the tokens fit exactly where the definition's do
        over-is : limit room < tokens → limit room < book_count s.rules with_it
        over-is h = ⊎_elim
            (λ (few : book_count s.rules with_it ≤ limit room).
            let n = adding_next room s w (is-present s false new) free (place s) at fits few in
            absurd (omega (arith, next-tokens room room' s _ _ _ with_it complete n, at.tokens_are)))
            (λ over. over)
            (le_or_lt (book_count s.rules with_it) (limit room))

        fits-is : tokens ≤ limit room → book_count s.rules with_it ≤ limit room
        fits-is h = ⊎_elim
            (λ few. few)
            (λ (over : limit room < book_count s.rules with_it). absurd (omega (arith, adding_over room s w (is-present s false new) free (place s) at over)))
            (le_or_lt (book_count s.rules with_it) (limit room))

      pub adds_over : limit room < tokens → Steps room (add w) (Err (refusal TooManyTokens 0)) room'
      unfolding refusals held
      adds_over h =
          rw (at.full h)
          (steps-refused room (add w) TooManyTokens whole (mathlib.Core.List.Memᴰ.tail (mathlib.Core.List.Memᴰ.tail (mathlib.Core.List.Memᴰ.head refl)))
          (λ s. added_14 (state_of room s) w (is-present s false new) (free_is s) (over-is s h)))

      pub adds_accepted : tokens ≤ limit room → Steps room (add w) (changed_to (head_number room 2 + 1) tokens (complete - complete_of room)) room'
      unfolding held
      adds_accepted h =
          steps-accepted room room' (add w) (head_number room 2 + 1) tokens (complete - complete_of room) at.aside _ _ complete whole (at.written h) at.long
          (λ s.
          let R = (held room).readings in
          let yes = added_yes (state_of room s) w (is-present s false new) (free_is s) (fits-is s h) in
          let n = adding_next room s w (is-present s false new) free (place s) at fits (fits-is s h) in
          let absent : Memᴰ w R → ⊥ = λ m. false≢true (sym (is-present s false new) ∙ (mem_same is_same-exact w R).1 m) in
          let readings : length (with_it s) ≡ head_number room 2 + 1 = omega (arith, length_inserted is_less w R, present_many room whole) in
          let count : book_count s.rules (with_it s) ≡ tokens = sym (sym at.tokens_are ∙ next-tokens room room' s _ _ _ (with_it s) complete n) in
          let changed : length (not_among (complaints s.rules R) (complaints s.rules (with_it s))) ≡ complete - complete_of room =
          appeared s.rules (sound_kept room s) w R absent ∙ rw (sym (next_complete room room' s _ _ _ (with_it s) complete n), sound_complete room s) in
          rw yes (rw (readings, count, changed), n))
