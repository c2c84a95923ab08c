-- The writer's calls as other languages see them: each keeps the promise of the call that it stands for, and tells its answer as a number, 0 for accepted, and through
-- numbers lent to be written. Accepted, the results are written and the number lent for a place is left as it was; refused, the place is written and those lent for
-- results are left. Assumes nothing: these are definitions.
use Rattle.std.specs.Prelude.{◌≡◌, ℕ, List, [], ◌∷◌, ℤ, Result}
use Rattle.book.specs.declared.refusal.Refusal.{Refusal}
use Rattle.writer.specs.declared.read.RowsRead.{RowsRead}
use Rattle.writer.specs.Promise.{Writes, Reads}
use Rattle.malletfrond_c.specs.Exported.{answer_number, answer_place, answer_result}

-- of the numbers lent for results and for a place: as they were, what was answered, and as they are; the results are told as `of` says
pub record Tells {A : Type 0} (answer : Result A Refusal) (of : A → List ℕ) (before : List ℕ) (place r : ℕ) (after : List ℕ) (place' : ℕ) : Type 0 where
  pub number : r ≡ answer_number answer
  pub written : after ≡ answer_result of answer before
  pub at : place' ≡ answer_place answer place

-- ---- each answer

-- the length of the book
abbrev pub write_told : ℕ → List ℕ
write_told n = n ∷ []

-- how many records and rules there are
abbrev pub rows_told : RowsRead → List ℕ
rows_told read = read.records ∷ read.rules ∷ []

-- lent and left: `before` and `after` are the numbers for results, in their order, `place` and `place'` the one for a refusal's place; r is what was answered
pub record WritesOut (rows : List ℤ) (wordings buffer : List ℕ) (before : List ℕ) (place r : ℕ) (after : List ℕ) (place' : ℕ) (buffer' : List ℕ) : Type 0 where
  pub answer : Result ℕ Refusal
  pub writes : Writes rows wordings buffer answer buffer'
  pub tells : Tells answer write_told before place r after place'

pub record RowsOut (book : List ℕ) (rows : List ℤ) (wordings : List ℕ) (before : List ℕ) (place r : ℕ) (after : List ℕ) (place' : ℕ) (rows' : List ℤ) (wordings' : List ℕ) : Type 0 where
  pub answer : Result RowsRead Refusal
  pub reads : Reads book rows wordings answer rows' wordings'
  pub tells : Tells answer rows_told before place r after place'
