-- 01's answers: the causes and values of each case. Assumes nothing: these are definitions.
use Rattle.std.specs.Prelude.{ℕ, Bool, cond, ◌&&◌, List, [], ◌∷◌, ltb, leb, length, get_or, Result, Ok, Err}
use Rattle.book.specs.declared.refusal.Cause.TheVariants.{LimitsOutside, RoomTooShort, RoomBroken, AlreadyPresent, NotPresent, TooManyReadings, TooManyTokens, BufferTooShort, NoSuchComplaint}
use Rattle.book.specs.declared.refusal.Refusal.{Refusal}
use Rattle.book.specs.Read.{BookRead, accepted, refused, read_book}
use Rattle.book.specs.Refusals.{refusal}
use Rattle.book.specs.Rules.{no_rule}
use Rattle.lines.specs.Line.{line_text, text_in}
use Rattle.matching.specs.Complaints.{Matched}
use Rattle.matching.specs.Step.{Answer, Step, add, remove}
use Rattle.matching.specs.Step as step
use Rattle.room.specs.Layout.{formula, head_number}
use Rattle.room.specs.Broken.{broken}
use Rattle.room.specs.Held.{complete_of}
use Rattle.malletfrond.specs.declared.Counted.{Counted}
use Rattle.malletfrond.specs.declared.Stepped.{Stepped}

-- what the calls answer: an opening and the counts; a step; a line, by its length. Or why not
abbrev pub CountsAnswer : Type 0
CountsAnswer = Result Counted Refusal

abbrev pub StepAnswer : Type 0
StepAnswer = Result Stepped Refusal

abbrev pub LineAnswer : Type 0
LineAnswer = Result ℕ Refusal

abbrev pub counted : ℕ → ℕ → ℕ → CountsAnswer
counted readings tokens complete = Ok (record { readings = readings; tokens = tokens; complete = complete })

abbrev pub changed_to : ℕ → ℕ → ℕ → StepAnswer
changed_to readings tokens changed = Ok (record { readings = readings; tokens = tokens; changed = changed })

-- "a reading limit E (1 to 256) and a token limit T (1 to 2,048)"
unfoldable pub limits_fit : ℕ → ℕ → Bool
limits_fit E T = leb 1 E && leb E 256 && (leb 1 T && leb T 2048)

-- an opening by its book: accepted, or the book's refusal with its place
unfoldable pub opened_by : BookRead → CountsAnswer
opened_by (accepted rules) = counted 0 0 0
opened_by (refused e) = Err e

-- "Opening: 8, 9, the book."
unfoldable pub open_answer : ℕ → List ℕ → ℕ → ℕ → CountsAnswer
open_answer lent book E T =
    cond (limits_fit E T) (cond (ltb lent (formula E T)) (Err (refusal RoomTooShort 0)) (opened_by (read_book book))) (Err (refusal LimitsOutside 0))

-- "10"; else readings, tokens, complete matches
unfoldable pub counts_answer : List ℕ → CountsAnswer
counts_answer room = cond (broken room) (Err (refusal RoomBroken 0)) (counted (head_number room 2) (head_number room 3) (complete_of room))

-- the answer of a step on values, as the call gives it; its refusals have no place
unfoldable pub step_answer : Answer → StepAnswer
step_answer (step.accepted readings tokens changed) = changed_to readings tokens changed
step_answer (step.refused cause) = Err (refusal cause 0)

-- "Addition: 10, 11, 13, 14. Removal: 10, 12.": what a room that is not broken may be refused with
unfoldable pub refusals : Step → List Refusal
refusals (add w) = refusal AlreadyPresent 0 ∷ refusal TooManyReadings 0 ∷ refusal TooManyTokens 0 ∷ []
refusals (remove w) = refusal NotPresent 0 ∷ []

-- a complaint as a line: the number of its rule, its readings, the rule's wording
unfoldable pub complaint_line : Matched → List ℕ
complaint_line m = line_text m.rule.number m.readings m.rule.wording

-- complaint k of a list; what stands for it where there is none is asked for nowhere
abbrev pub complaint_at : List Matched → ℕ → Matched
complaint_at list k = get_or list k (record { rule = no_rule; readings = [] })

-- "Line: 10, 16, 15.": of a list of complaints, and a buffer
unfoldable pub line_answer : List Matched → ℕ → List ℕ → LineAnswer
line_answer list k buffer =
    cond (ltb k (length list))
    (cond (ltb (length buffer) (length (complaint_line (complaint_at list k)))) (Err (refusal BufferTooShort 0)) (Ok (length (complaint_line (complaint_at list k)))))
    (Err (refusal NoSuchComplaint 0))

-- the buffer after it: the line at its front, and what stood behind it; as it was where the line is refused
unfoldable pub line_buffer : List Matched → ℕ → List ℕ → List ℕ
line_buffer list k buffer = cond (ltb k (length list)) (text_in buffer (complaint_line (complaint_at list k))) buffer
