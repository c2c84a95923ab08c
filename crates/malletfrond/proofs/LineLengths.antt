-- A line is written where the buffer has place for it. It has at most 230 bytes: five digits of the rule's number, 33 bytes for each of at most six readings, 27 for
-- the ending. Assumes nothing.
use Prim.Native.Nat.{ℕ, suc, ◌+◌, ◌*◌, ◌≤◌, ◌<◌}
use mathlib.Core.Path.{◌≡◌}
use mathlib.Core.Bool.{Bool, true, false, cond, ◌&&◌}
use mathlib.Core.Logic.{⊎_elim}
use mathlib.Core.List.Memᴰ
use mathlib.Core.List.{List, [], ◌∷◌, Memᴰ}
use native.Mathlib.Omega.{arith}
use borrow.Author.Tests.{lt-ltb, le-ltb}
use lib.Dec.{eqb}
use lib.ListN.{length, get_or, length-append}
use Rattle.std.specs.Prelude.{Ok, Err}
use Rattle.book.specs.declared.refusal.Cause.TheVariants.{NoSuchComplaint}
use Rattle.book.specs.Refusals.{refusal}
use Rattle.numbers.specs.Spliced.{spliced}
use Rattle.numbers.proofs.BigEndian.{uint-below}
use Rattle.numbers.proofs.Digits.{length_digits_16}
use Rattle.book.specs.Rules.{Rule}
use Rattle.book.specs.Read.{read_book, accepted}
use Rattle.book.specs.Limits.{All, RuleKept}
use Rattle.book.specs.Stands.{RulesStand, rule_size}
use Rattle.book.proofs.Limits.{read_kept}
use Rattle.book.proofs.RuleAt.{rule-number}
use Rattle.book.proofs.Stands.{read-stands}
use Rattle.reading.specs.declared.Reading.{Reading}
use Rattle.matching.specs.Lists.{concat_map}
use Rattle.matching.specs.Complaints.{Matched, levels, complaints}
use Rattle.matching.specs.Step.{State}
use Rattle.matching.proofs.Laws.Complaints.{mem_complaints}
use Rattle.lines.specs.Line.{entry, entries, trimmed, text_in}
use Rattle.lines.proofs.LineLaws.{length-entry-most, length-line_text}
use Rattle.malletfrond.specs.Answers.{complaint_line, complaint_at, line_answer, line_buffer}
use Rattle.malletfrond.specs.Runs.{line, reply_in}
use Rattle.malletfrond.specs.Demand.{Narrow}

-- ---- what is answered

module _ (s : State) (list : List Matched) (is : complaints s.book s.readings ≡ list) (k : ℕ) (buffer : List ℕ) where
  pub line-written : k < length list → length (complaint_line (complaint_at list k)) ≤ length buffer
      → reply_in s (line k buffer) ≡ (Ok (length (complaint_line (complaint_at list k))), spliced buffer 0 (complaint_line (complaint_at list k)))
  unfolding reply_in line_answer line_buffer text_in
  line-written h fits = rw (is, lt-ltb k (length list) h, le-ltb (length buffer) (length (complaint_line (complaint_at list k))) fits)

  pub line-none : length list ≤ k → reply_in s (line k buffer) ≡ (Err (refusal NoSuchComplaint 0), buffer)
  unfolding reply_in line_answer line_buffer
  line-none h = rw (is, le-ltb k (length list) h)

-- ---- how long it is

length-entries : (d : Reading) (t : List Reading) → ((j : ℕ) → j < length t → Narrow (get_or t j d)) → length (entries t) ≤ length t * 33
unfolding concat_map
length-entries d [] n = omega arith
length-entries d (r ∷ t) n =
    let first = n 0 (omega arith) in
    omega (arith, length-append (entry r) (entries t), length-entry-most r first.0 first.1 first.2, length-entries d t (λ j h. n (suc j) (omega arith)))

length-trimmed : (l : List ℕ) → length (trimmed l) ≤ length l
unfolding trimmed
length-trimmed [] = omega arith
length-trimmed (x ∷ l) = by (eqb x 32 && eqb (length (trimmed l)) 0) (length-trimmed l)
  where
    by : (b : Bool) → length (trimmed l) ≤ length l → length (cond b [] (x ∷ trimmed l)) ≤ suc (length l)
    by true h = omega arith
    by false h = omega arith

-- two bytes hold the number of a rule that is read of bytes
rule_narrow : (book : List ℕ) → ((k : ℕ) → get_or book k 0 < 256) → (at : ℕ) (rules : List Rule) → RulesStand book at rules → All RuleKept rules
    → (rule : Rule) → Memᴰ rule rules → RuleKept rule × (rule.number < 65536)
rule_narrow book byte at [] stand kept rule m = absurd (Memᴰ.not-nil m)
rule_narrow book byte at (first ∷ rules) stand kept rule m =
    let number : first.number < 65536 = omega (arith, rule-number book at first.number stand.0.begins, uint-below 2 book (at + 1) byte) in ⊎_elim
    (λ (e : rule ≡ first). rw e (kept.0, number))
    (rule_narrow book byte (at + rule_size first) rules stand.1 kept.1 rule)
    (Memᴰ.cases_cons m)

pub length-line : (book : List ℕ) (rules : List Rule) (R : List Reading) → read_book book ≡ accepted rules → ((k : ℕ) → get_or book k 0 < 256)
    → ((r : Reading) → Memᴰ r R → Narrow r) → (m : Matched) → Memᴰ m (complaints rules R) → length (complaint_line m) ≤ 230
unfolding complaint_line
length-line book rules R reads byte narrow m i =
    let d : Reading = record { line = 0; column = 0; value = 0 } in
    let c = (mem_complaints d R rules m).0 i in
    let k = rule_narrow book byte 0 rules (read-stands book rules reads).0.stand (read_kept book rules reads).each m.rule c.0 in
    let long : length m.readings ≡ levels m.rule = c.1.long in
    omega (
      arith,
      k.0.most,
      k.0.whole,
      length-line_text m.rule.number m.readings m.rule.wording,
      length_digits_16 m.rule.number k.1,
      length-entries d m.readings (λ j h. narrow (get_or m.readings j d) (c.1.present j (omega arith))),
      length-trimmed m.rule.wording,
    )
