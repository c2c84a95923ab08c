-- What the three demands ask, of any call and of any run from an accepted opening. Assumes nothing: these are definitions.
use Rattle.std.specs.Prelude.{◌≡◌, ℕ, ◌≤◌, ◌<◌, Bool, true, false, ◌↔◌, length, drop, get_or, Result, Ok, Err}
use mathlib.Core.List.{List, [], Memᴰ}
use Rattle.numbers.specs.Spliced.{spliced}
use Rattle.book.specs.declared.refusal.Cause.TheVariants.{NoSuchComplaint}
use Rattle.book.specs.declared.refusal.Refusal.{Refusal}
use Rattle.book.specs.Refusals.{refusal}
use Rattle.book.specs.Rules.{Rule}
use Rattle.book.specs.Read.{read_book, accepted}
use Rattle.book.specs.Limits.{All}
use Rattle.reading.specs.declared.Reading.{Reading}
use Rattle.reading.specs.Reading.{is_less}
use Rattle.matching.specs.Complaints.{Matched, Before, levels, pass_of, book_count}
use Rattle.matching.specs.Match.{IsMatch}
use Rattle.matching.specs.Order.{Less, Sorted, Lex}
use Rattle.matching.specs.Step.{add, remove}
use Rattle.room.specs.Layout.{formula, head_number, limit}
use Rattle.room.specs.Held.{held}
use Rattle.sound.specs.Sound.{Sound, held_of}
use Rattle.malletfrond.specs.Answers.{LineAnswer, counted, complaint_line, complaint_at}
use Rattle.malletfrond.specs.Promise.{Opens}
use Rattle.malletfrond.specs.Runs.{Call, step, counts, line, check, Reply, Allowed, Event, Run, reply_in, replayed}

-- ---- demand 1

-- whether there is a refusal in place of an answer
unfoldable pub has_refused : {A : Type 0} → Result A Refusal → Bool
has_refused (Ok x) = false
has_refused (Err e) = true

-- whether a call was refused; the check never is
unfoldable pub is_refused : (call : Call) → Reply call → Bool
is_refused (step x) answer = has_refused answer
is_refused counts answer = has_refused answer
is_refused (line k buffer) answer = has_refused answer.0
is_refused check answer = false

-- the buffer that a call is lent, and what it leaves in it; only a line is lent one
unfoldable pub buffer_of : Call → List ℕ
buffer_of (step x) = []
buffer_of counts = []
buffer_of (line k buffer) = buffer
buffer_of check = []

unfoldable pub buffer_left : (call : Call) → Reply call → List ℕ
buffer_left (step x) answer = []
buffer_left counts answer = []
buffer_left (line k buffer) answer = answer.1
buffer_left check answer = []

-- how many bytes of the buffer a line took; none where it was refused
unfoldable pub line_length : LineAnswer → ℕ
line_length (Ok n) = n
line_length (Err e) = 0

unfoldable pub written : (call : Call) → Reply call → ℕ
written (step x) answer = 0
written counts answer = 0
written (line k buffer) answer = line_length answer.0
written check answer = 0

-- "A refused step changes nothing: .. not one lent byte"; nothing past the formula ever changes, and nothing of a buffer behind the line's newline
pub record Untouched (room : List ℕ) (call : Call) (reply : Reply call) (room' : List ℕ) : Type 0 where
  pub refused : is_refused call reply ≡ true → (room' ≡ room) × (buffer_left call reply ≡ buffer_of call)
  pub past : drop (formula (head_number room 0) (limit room)) room' ≡ drop (formula (head_number room 0) (limit room)) room
  pub behind : drop (written call reply) (buffer_left call reply) ≡ drop (written call reply) (buffer_of call)
  pub short : written call reply ≤ 230
  pub long : (length room' ≡ length room) × (length (buffer_left call reply) ≡ length (buffer_of call))

-- ---- demand 2

-- a reading whose numbers 32 bits hold, as those of the calls' arguments do
abbrev pub Narrow : Reading → Type 0
Narrow r = (r.line < 4294967296) × (r.column < 4294967296) × (r.value < 4294967296)

-- a step is about such a reading
abbrev pub NarrowCall : Call → Type 0
NarrowCall (step (add w)) = Narrow w
NarrowCall (step (remove w)) = Narrow w
NarrowCall counts = Unit {0}
NarrowCall (line k buffer) = Unit {0}
NarrowCall check = Unit {0}

-- a room that a run from an accepted opening has led to; the book is of bytes, and the readings are of numbers of 32 bits, as all that the calls are lent
pub record Reached (book : List ℕ) (rules : List Rule) (E T : ℕ) (events : List Event) (last : List ℕ) : Type 0 where
  pub lent : List ℕ
  pub start : List ℕ
  pub reads : read_book book ≡ accepted rules
  pub opens : Opens lent book E T (counted 0 0 0) start
  pub run : Run start events last
  pub bytes : (k : ℕ) → get_or book k 0 < 256
  pub numbers : All (λ (e : Event). NarrowCall e.0) events

-- "the memories and partial matches held are exactly those that conjunctive match defines for the readings present; so are the counts. A step is refused only where
-- document 01 says so, and always there": every next reply is that of the state on values
pub record Exact (book : List ℕ) (rules : List Rule) (E T : ℕ) (events : List Event) (last : List ℕ) : Type 0 where
  pub readings : List Reading
  pub present : (r : Reading) → Memᴰ r readings ↔ (replayed (λ x. false) events r ≡ true)
  pub ascending : Sorted (Less is_less) readings
  pub within : (length readings ≤ E) × (book_count rules readings ≤ T)
  pub sound : Sound last
  pub holds : held last ≡ held_of book rules E T readings
  pub next : (call : Call) (reply : Reply call) (room : List ℕ) → Allowed last call reply room → reply ≡ reply_in (record { book = rules; E = E; T = T; readings = readings }) call

-- ---- demand 3

-- "asking for complaint 0, 1, 2 .. gives each complete match once, in 01's order, then "no such match""
pub record Listed (rules : List Rule) (readings : List Reading) (last : List ℕ) : Type 0 where
  pub list : List Matched
  pub matches : (d : Reading) (m : Matched) → Memᴰ m list ↔ (Memᴰ m.rule rules × IsMatch d readings (pass_of m.rule) (levels m.rule) m.readings)
  pub ascending : Sorted (Before (Lex is_less)) list
  pub asked : (k : ℕ) (buffer : List ℕ) (reply : Reply (line k buffer)) (room : List ℕ) → 230 ≤ length buffer → k < length list → Allowed last (line k buffer) reply room
      → reply ≡ (Ok (length (complaint_line (complaint_at list k))), spliced buffer 0 (complaint_line (complaint_at list k)))
  pub no_more : (k : ℕ) (buffer : List ℕ) (reply : Reply (line k buffer)) (room : List ℕ) → length list ≤ k → Allowed last (line k buffer) reply room → reply ≡ (Err (refusal NoSuchComplaint 0), buffer)
