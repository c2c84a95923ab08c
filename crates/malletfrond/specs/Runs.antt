-- Runs: calls one after the other, each lent the same whole room, with the answers and rooms that the promises allow. Assumes nothing: these are definitions.
use Rattle.std.specs.Prelude.{◌≡◌, ℕ, Bool, true, false, not, ◌&&◌, ◌||◌, List, [], ◌∷◌, length, Ok, Err}
use Rattle.reading.specs.declared.Reading.{Reading}
use Rattle.reading.specs.Reading.{is_same}
use Rattle.matching.specs.Complaints.{complaints, book_count}
use Rattle.matching.specs.Step.{State, Step, add, remove, stepped}
use Rattle.malletfrond.specs.Answers.{CountsAnswer, StepAnswer, LineAnswer, counted, step_answer, line_answer, line_buffer}
use Rattle.malletfrond.specs.Promise.{Steps, Counts, Lines, Checks}

-- a call lent a room: a step, the counts, complaint k into a buffer, the check
pub data Call : Type 0 where
  step : Step → Call
  counts : Call
  line : ℕ → List ℕ → Call
  check : Call

-- what it answers; a line also leaves a buffer
abbrev pub Reply : Call → Type 0
Reply (step x) = StepAnswer
Reply counts = CountsAnswer
Reply (line k buffer) = LineAnswer × List ℕ
Reply check = Bool

-- a reply and the room left are those that the call's promise allows; only a step is lent the room to change it
abbrev pub Allowed : List ℕ → (call : Call) → Reply call → List ℕ → Type 0
Allowed room (step x) answer room' = Steps room x answer room'
Allowed room counts answer room' = Counts room answer × (room' ≡ room)
Allowed room (line k buffer) answer room' = Lines room k buffer answer.0 answer.1 × (room' ≡ room)
Allowed room check answer room' = Checks room answer × (room' ≡ room)

-- a call with its reply
abbrev pub Event : Type 0
Event = (call : Call) × Reply call

-- from one room to another by calls and their replies
pub data Run : List ℕ → List Event → List ℕ → Type 0 where
  ended : {room : List ℕ} → Run room [] room
  then : {room middle last : List ℕ} {event : Event} {rest : List Event} → Allowed room event.0 event.1 middle → Run middle rest last → Run room (event ∷ rest) last

-- ---- the same on values

-- the reply to a call in a state, and the state after it
unfoldable pub reply_in : State → (call : Call) → Reply call
reply_in s (step x) = step_answer (stepped s x).answer
reply_in s counts = counted (length s.readings) (book_count s.book s.readings) (length (complaints s.book s.readings))
reply_in s (line k buffer) = (line_answer (complaints s.book s.readings) k buffer, line_buffer (complaints s.book s.readings) k buffer)
reply_in s check = true

unfoldable pub state_after : State → Call → State
state_after s (step x) = (stepped s x).next
state_after s counts = s
state_after s (line k buffer) = s
state_after s check = s

-- ---- the accepted steps replayed on a set

unfoldable pub is_accepted : StepAnswer → Bool
is_accepted (Ok to) = true
is_accepted (Err e) = false

-- whether a reading is in the set after a step, which changes it only where it was accepted
unfoldable pub after : (Reading → Bool) → Step → StepAnswer → Reading → Bool
after set (add w) answer r = (is_accepted answer && is_same r w) || set r
after set (remove w) answer r = not (is_accepted answer && is_same r w) && set r

unfoldable pub replayed : (Reading → Bool) → List Event → Reading → Bool
replayed set [] r = set r
replayed set ((step x, answer) ∷ es) r = replayed (after set x answer) es r
replayed set ((counts, answer) ∷ es) r = replayed set es r
replayed set ((line k buffer, answer) ∷ es) r = replayed set es r
replayed set ((check, answer) ∷ es) r = replayed set es r
