-- The promises of the public calls, each over the bytes before, the answer and the bytes after. Assumes nothing: these are definitions.
use Rattle.std.specs.Prelude.{◌≡◌, ℕ, ◌≤◌, Bool, true, false, ◌↔◌, length, drop, Option, Ok, Err}
use mathlib.Core.List.{List, [], ◌∷◌, Memᴰ}
use Rattle.book.specs.declared.refusal.Cause.TheVariants.{RoomBroken, BufferTooShort, NoSuchComplaint}
use Rattle.book.specs.declared.refusal.Refusal.{Refusal}
use Rattle.book.specs.Rules.{Rule}
use Rattle.book.specs.Read.{read_book, accepted}
use Rattle.book.specs.Refusals.{refusal}
use Rattle.book.specs.Wording.{rule_wording, wording_place, refusal_in}
use Rattle.matching.specs.Complaints.{book_count, complaints}
use Rattle.matching.specs.Step.{Step, stepped, add, remove}
use Rattle.reading.specs.declared.Reading.{Reading}
use Rattle.room.specs.Broken.{broken}
use Rattle.room.specs.Held.{held}
use Rattle.room.specs.Layout.{formula, head_number, limit}
use Rattle.sound.specs.Sound.{Sound, held_of, state_of}
use Rattle.malletfrond.specs.Answers.{CountsAnswer, StepAnswer, LineAnswer, counted, open_answer, counts_answer, step_answer, refusals, line_answer, line_buffer}

-- opening: 8, 9, the book's refusals; a refusal changes no byte; an accepted opening leaves a sound room that holds the book, the limits and nothing else
pub record Opens (room book : List ℕ) (E T : ℕ) (answer : CountsAnswer) (room' : List ℕ) : Type 0 where
  pub answered : answer ≡ open_answer (length room) book E T
  pub untouched : (e : Refusal) → answer ≡ Err e → room' ≡ room
  pub sound : answer ≡ counted 0 0 0 → Sound room'
  pub holds : (rules : List Rule) → answer ≡ counted 0 0 0 → read_book book ≡ accepted rules → held room' ≡ held_of book rules E T []
  pub past : drop (formula E T) room' ≡ drop (formula E T) room
  pub long : length room' ≡ length room

-- counts: 10, or what the header and the table of rules say; of a sound room the definition's counts
pub record Counts (room : List ℕ) (answer : CountsAnswer) : Type 0 where
  pub answered : answer ≡ counts_answer room
  pub defined : (s : Sound room) → answer ≡ counted (length (held room).readings) (book_count s.rules (held room).readings) (length (complaints s.rules (held room).readings))

-- a step: 10 exactly for a broken room; a refusal changes no byte, and nothing past the formula ever changes; of a sound room the answer is that of the step on
-- values, and what is left is a sound room that holds the next state
pub record Steps (room : List ℕ) (step : Step) (answer : StepAnswer) (room' : List ℕ) : Type 0 where
  pub refused_10 : broken room ≡ true → answer ≡ Err (refusal RoomBroken 0)
  pub numbered : (e : Refusal) → broken room ≡ false → answer ≡ Err e → Memᴰ e (refusals step)
  pub untouched : (e : Refusal) → answer ≡ Err e → room' ≡ room
  pub answered : (s : Sound room) → answer ≡ step_answer (stepped (state_of room s) step).answer
  pub sound : Sound room → Sound room'
  pub holds : (s : Sound room) → held room' ≡ held_of (held room).book s.rules (held room).E (held room).T (stepped (state_of room s) step).next.readings
  pub past : drop (formula (head_number room 0) (limit room)) room' ≡ drop (formula (head_number room 0) (limit room)) room
  pub long : length room' ≡ length room

abbrev pub Adds : List ℕ → Reading → StepAnswer → List ℕ → Type 0
Adds room w answer room' = Steps room (add w) answer room'

abbrev pub Removes : List ℕ → Reading → StepAnswer → List ℕ → Type 0
Removes room w answer room' = Steps room (remove w) answer room'

-- a line: 10 exactly for a broken room, then 16, 15; a refusal changes no byte of the buffer, and bytes after the newline stay; no line has more than 230 bytes.
-- Of a sound room it is complaint k of the definition's list
pub record Lines (room : List ℕ) (k : ℕ) (buffer : List ℕ) (answer : LineAnswer) (buffer' : List ℕ) : Type 0 where
  pub refused_10 : broken room ≡ true → answer ≡ Err (refusal RoomBroken 0)
  pub numbered : (e : Refusal) → broken room ≡ false → answer ≡ Err e → Memᴰ e (refusal NoSuchComplaint 0 ∷ refusal BufferTooShort 0 ∷ [])
  pub untouched : (e : Refusal) → answer ≡ Err e → buffer' ≡ buffer
  pub answered : (s : Sound room) → answer ≡ line_answer (complaints s.rules (held room).readings) k buffer
  pub wrote : (s : Sound room) → buffer' ≡ line_buffer (complaints s.rules (held room).readings) k buffer
  pub most : (n : ℕ) → answer ≡ Ok n → (n ≤ 230) × (n ≤ length buffer)
  pub after : (n : ℕ) → answer ≡ Ok n → drop n buffer' ≡ drop n buffer
  pub long : length buffer' ≡ length buffer

-- the wording of a rule by its number, as the part of the book that it is; an empty part where there is none
pub record Words (book : List ℕ) (number : ℕ) (part : List ℕ) : Type 0 where
  pub answered : part ≡ rule_wording (read_book book) number

-- why there is none: the book's refusal, then 17; nothing where there is one
pub record Refuses (book : List ℕ) (number : ℕ) (answer : Option Refusal) : Type 0 where
  pub answered : answer ≡ refusal_in (wording_place (read_book book) number)

-- the check: yes exactly when the room is sound
pub record Checks (room : List ℕ) (answer : Bool) : Type 0 where
  pub exact : (answer ≡ true) ↔ Sound room
