-- Two results which the promise of one of the writer's exports allows are the same: the numbers told, and what is left in the buffer, the rows and the wordings.
-- Assumes nothing.
use Prim.Native.Nat.{ℕ}
use mathlib.Core.Path.{◌≡◌, sym, ap, ◌∙◌}
use mathlib.Core.List.{List}
use lib.IntN.{ℤ}
use Rattle.std.specs.Prelude.{Result}
use Rattle.book.specs.declared.refusal.Refusal.{Refusal}
use Rattle.book.specs.Read.{read_book, rules_of}
use Rattle.writer.specs.declared.read.RowsRead.{RowsRead}
use Rattle.writer.specs.Values.{rows_of, wordings_of}
use Rattle.writer.specs.Promise.{laid_out, buffer_left, left_by}
use Rattle.malletfrond_c.specs.Exported.{answer_number, answer_place, answer_result}
use Rattle.malletfrond_c.specs.Writing.{Tells, WritesOut, RowsOut}

-- ---- two results of one promise

-- the same number answered, and the same left in the numbers that were lent
abbrev pub SameTold : ℕ → List ℕ → ℕ → ℕ → List ℕ → ℕ → Type 0
SameTold r after place s after' place' = (r ≡ s) × (after ≡ after') × (place ≡ place')

module _ {before : List ℕ} {place : ℕ} {r s : ℕ} {after after' : List ℕ} {place' place'' : ℕ} where
  pub tells-same : {A : Type 0} {of : A → List ℕ} {x y : Result A Refusal} → x ≡ y → Tells x of before place r after place' → Tells y of before place s after' place''
      → SameTold r after place' s after' place''
  tells-same {A} {of} e p q = (
    p.number ∙ ap answer_number e ∙ sym q.number,
    p.written ∙ ap (λ (t : Result A Refusal). answer_result of t before) e ∙ sym q.written,
    p.at ∙ ap (λ (t : Result A Refusal). answer_place t place) e ∙ sym q.at,
  )

  pub writes_out_same : {rows : List ℤ} {wordings buffer buffer' buffer'' : List ℕ} → WritesOut rows wordings buffer before place r after place' buffer'
      → WritesOut rows wordings buffer before place s after' place'' buffer'' → SameTold r after place' s after' place'' × (buffer' ≡ buffer'')
  writes_out_same {rows} {wordings} {buffer} p q =
      let same : p.answer ≡ q.answer = p.writes.answered ∙ sym q.writes.answered in (
        tells-same same p.tells q.tells,
        p.writes.written ∙ ap (λ (a : Result ℕ Refusal). buffer_left a (laid_out rows wordings) buffer) same ∙ sym q.writes.written,
      )

  pub rows_out_same : {book : List ℕ} {rows rows' rows'' : List ℤ} {wordings wordings' wordings'' : List ℕ} → RowsOut book rows wordings before place r after place' rows' wordings'
      → RowsOut book rows wordings before place s after' place'' rows'' wordings'' → SameTold r after place' s after' place'' × ((rows' ≡ rows'') × (wordings' ≡ wordings''))
  rows_out_same {book} {rows} {wordings = wordings} p q =
      let same : p.answer ≡ q.answer = p.reads.answered ∙ sym q.reads.answered in
      let rules = rules_of (read_book book) in (
        tells-same same p.tells q.tells,
        (
          p.reads.rows_left ∙ ap (λ (a : Result RowsRead Refusal). left_by a (rows_of rules) rows) same ∙ sym q.reads.rows_left,
          p.reads.wordings_left ∙ ap (λ (a : Result RowsRead Refusal). left_by a (wordings_of rules) wordings) same ∙ sym q.reads.wordings_left,
        ),
      )
