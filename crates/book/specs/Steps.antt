-- What the reader's inner functions answer, a record at a time. No public contract cites this. Assumes nothing: these are definitions.
use Rattle.std.specs.Prelude.{ℕ, ◌+◌, ◌-◌, List, cond, leb, ltb, eqb, length, drop, set, replicate, Result, Ok, Err}
use Rattle.book.specs.declared.judgement.Standing.{Standing}
use Rattle.book.specs.declared.reader.BookSize.{BookSize}
use Rattle.book.specs.declared.reader.Places.{Places}
use Rattle.book.specs.declared.reader.Step.{Step}
use Rattle.book.specs.declared.reader.Step.TheVariants.{On, Done}
use Rattle.book.specs.declared.record.Record.{Record}
use Rattle.book.specs.declared.record.Record.TheVariants.{Rule, Condition, Test, End}
use Rattle.book.specs.declared.refusal.Cause.TheVariants.{Misplaced}
use Rattle.book.specs.declared.refusal.Refusal.{Refusal}
use Rattle.book.specs.Refusals.{refusal}
use Rattle.book.specs.Record.{record_at, size_of}
use Rattle.book.specs.Judgement.{Judged, judged}

unfoldable pub end_of : List ℕ → ℕ → Standing → Result BookSize Refusal
end_of book next s = cond (eqb next (length book)) (Ok (record { rules = s.rules; conditions = s.total })) (Err (refusal Misplaced next))

-- refused for this cause, if there is one
unfoldable pub over_if : Judged → ℕ → Result Step Refusal → Result Step Refusal
over_if (Ok u) place on = on
over_if (Err cause) place on = Err (refusal cause place)

-- done with what the end record answers
unfoldable pub done : Result BookSize Refusal → Result Step Refusal
done (Ok size) = Ok (Done size)
done (Err e) = Err e

unfoldable pub step_by : List ℕ → ℕ → Standing → Result Record Refusal → Result Step Refusal
step_by book at s (Err e) = Err e
step_by book at s (Ok End) = over_if (judged s End (drop (at + 1) book)) at (done (end_of book (at + 1) s))
step_by book at s (Ok (Rule n)) = over_if (judged s (Rule n) (drop (at + 1) book)) at (Ok (On (Rule n) (at + size_of (Rule n))))
step_by book at s (Ok Condition) = over_if (judged s Condition (drop (at + 1) book)) at (Ok (On Condition (at + size_of Condition)))
step_by book at s (Ok (Test t)) = over_if (judged s (Test t) (drop (at + 1) book)) at (Ok (On (Test t) (at + size_of (Test t))))

unfoldable pub step_of : List ℕ → ℕ → Standing → Result Step Refusal
step_of book at s = step_by book at s (record_at book at)

unfoldable pub no_places : Places
no_places = record { rules = replicate 32 0; counts = replicate 32 0; conditions = replicate 192 0 }

unfoldable pub rule_noted : Places → Standing → ℕ → Places
rule_noted p s at =
    cond (leb 32 s.rules) p
    (record { rules = set p.rules s.rules at; counts = p.counts; conditions = p.conditions })

unfoldable pub condition_noted : Places → Standing → ℕ → Places
condition_noted p s at =
    cond (eqb s.rules 0) p
    (cond (ltb 32 s.rules) p
    (cond (leb 6 s.conditions) p
    (cond (leb 192 s.total) p
    (record { rules = p.rules; counts = set p.counts (s.rules - 1) (s.conditions + 1); conditions = set p.conditions s.total (at + 1) }))))

unfoldable pub noted : Places → Standing → Record → ℕ → Places
noted p s (Rule n) at = rule_noted p s at
noted p s Condition at = condition_noted p s at
noted p s (Test t) at = p
noted p s End at = p
