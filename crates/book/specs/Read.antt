-- The reading of a book: refusals 1 to 7 in their order, or its rules. Assumes nothing: these are definitions.
use Rattle.std.specs.Prelude.{ℕ, zero, suc, ◌+◌, List, [], ◌∷◌, ◌++◌, cond, ltb, eqb, length, drop, Result, Ok, Err}
use Rattle.book.specs.declared.reader.BookSize.{BookSize}
use Rattle.book.specs.declared.reader.Found.{Found}
use Rattle.book.specs.declared.record.Record.{Record}
use Rattle.book.specs.declared.record.Record.TheVariants as r
use Rattle.book.specs.declared.refusal.Cause.{Cause}
use Rattle.book.specs.declared.refusal.Cause.TheVariants.{BookTooLong, CutShort, Misplaced}
use Rattle.book.specs.declared.refusal.Refusal.{Refusal}
use Rattle.book.specs.Refusals.{refusal}
use Rattle.book.specs.Record.{record_at, size_of}
use Rattle.book.specs.Judgement.{Judged, judged, wording_of}
use Rattle.book.specs.Rules.{Rule, with_condition, with_test, on_last, standing, condition_count, places_of}

-- a book's rules, or its refusal
pub data BookRead : Type 0 where
  accepted : List Rule → BookRead
  refused : Refusal → BookRead

abbrev pub refuse : Cause → ℕ → BookRead
refuse cause place = refused (refusal cause place)

-- refused for this cause at this place, if there is one
unfoldable pub unless : Judged → ℕ → BookRead → BookRead
unless (Ok u) place on = on
unless (Err cause) place on = refuse cause place

-- the rules with one record more; its body is what stands after its kind
unfoldable pub grown : List Rule → Record → List ℕ → List Rule
grown rules (r.Rule number) body = rules ++ (record { number = number; wording = wording_of body; conditions = [] }) ∷ []
grown rules r.Condition body = on_last with_condition rules
grown rules (r.Test t) body = on_last (with_test t) rules
grown rules r.End body = rules

-- how far the next record stands behind this one, if it is one
unfoldable pub bytes_of : Result Record Refusal → ℕ
bytes_of (Ok r) = size_of r
bytes_of (Err e) = 0

-- "After an end record, a further byte is 4 whatever its kind."
unfoldable pub ended : List ℕ → ℕ → List Rule → BookRead
ended book next rules = cond (eqb next (length book)) (accepted rules) (refuse Misplaced next)

-- what a record makes of the reading: its own refusal; or 4, 7, 5, 6; or the end; or the records after it, `on` of the rules then read
unfoldable pub turn : List ℕ → ℕ → List Rule → Result Record Refusal → (List Rule → BookRead) → BookRead
turn book at rules (Err e) on = refused e
turn book at rules (Ok r.End) on = unless (judged (standing rules) r.End (drop (at + 1) book)) at (ended book (at + 1) rules)
turn book at rules (Ok (r.Rule number)) on =
    unless (judged (standing rules) (r.Rule number) (drop (at + 1) book)) at
    (on (grown rules (r.Rule number) (drop (at + 1) book)))
turn book at rules (Ok r.Condition) on =
    unless (judged (standing rules) r.Condition (drop (at + 1) book)) at
    (on (grown rules r.Condition (drop (at + 1) book)))
turn book at rules (Ok (r.Test t)) on =
    unless (judged (standing rules) (r.Test t) (drop (at + 1) book)) at
    (on (grown rules (r.Test t) (drop (at + 1) book)))

-- "records from the front": from `at` on, with the rules read before; at most so many records as the first argument says
unfoldable pub walk : ℕ → List ℕ → ℕ → List Rule → BookRead
walk zero book at rules = refuse CutShort at
walk (suc most) book at rules =
    turn book at rules (record_at book at)
    (λ rules'. walk most book (at + bytes_of (record_at book at)) rules')

-- "Book: 1; then records from the front". A record takes a byte at least, so there are no more records than bytes
unfoldable pub read_book : List ℕ → BookRead
read_book book = cond (ltb 8192 (length book)) (refuse BookTooLong 0) (walk (length book + 1) book 0 [])

-- how many rules and conditions an accepted book has
abbrev pub sized : List Rule → BookSize
sized rules = record { rules = length rules; conditions = condition_count rules }

-- the answer: an accepted book's size, or the refusal
unfoldable pub answer_of : BookRead → Result BookSize Refusal
answer_of (accepted rules) = Ok (sized rules)
answer_of (refused e) = Err e

-- the rules of an accepted book; a refused one has none
unfoldable pub rules_of : BookRead → List Rule
rules_of (accepted rules) = rules
rules_of (refused e) = []

-- the answer with the places of an accepted book's rules and conditions
unfoldable pub placed_of : BookRead → Result Found Refusal
placed_of (accepted rules) = Ok (record { size = sized rules; places = places_of rules })
placed_of (refused e) = Err e
