-- What the two calls promise. "It refuses what the reader would refuse, by the reader's numbers and order, with the place where the record would have stood. Refusals: 19, output too short,
-- after all others." Assumes nothing: these are definitions.
use Rattle.std.specs.Prelude.{ℕ, ◌*◌, ◌≡◌, cond, List, leb, eqb, length, ℤ, Result, Ok, Err}
use Rattle.numbers.specs.Spliced.{spliced}
use Rattle.book.specs.declared.refusal.Cause.TheVariants.{BadBody, OutputTooShort}
use Rattle.book.specs.declared.refusal.Refusal.{Refusal}
use Rattle.book.specs.Refusals.{number_of, refusal}
use Rattle.book.specs.Read.{BookRead, accepted, refused, read_book, rules_of}
use Rattle.writer.specs.declared.read.RowsRead.{RowsRead}
use Rattle.writer.specs.Layout.{laid, row_count, unfit_at}
use Rattle.writer.specs.Values.{records_of, rows_of, wordings_of}

-- the bytes that the rows would be
unfoldable pub laid_out : List ℤ → List ℕ → List ℕ
laid_out rows wordings = laid (row_count rows) rows wordings

-- the reader sees a rule number that does not fit as 65,535: behind rule 65,535 too it is 6 and not 5
unfoldable pub mended : List ℤ → Refusal → Refusal
mended rows e = cond (eqb (number_of e.cause) 5) (cond (unfit_at (row_count rows) rows e.place) (refusal BadBody e.place) e) e

-- the reader's verdict about the book that would be written, of `size` bytes, then 19 where the buffer has fewer
unfoldable pub write_answer : List ℤ → BookRead → ℕ → ℕ → Result ℕ Refusal
write_answer rows (accepted rules) size room = cond (leb size room) (Ok size) (Err (refusal OutputTooShort 0))
write_answer rows (refused e) size room = Err (mended rows e)

-- "a refusal changes no lent byte; bytes after the book stay"
unfoldable pub buffer_left : Result ℕ Refusal → List ℕ → List ℕ → List ℕ
buffer_left (Ok size) book buffer = spliced buffer 0 book
buffer_left (Err e) book buffer = buffer

-- of a book laid out for the rows: the answer, and what is left in the buffer
pub record Judges (rows : List ℤ) (book buffer : List ℕ) (answer : Result ℕ Refusal) (left : List ℕ) : Type 0 where
  pub answered : answer ≡ write_answer rows (read_book book) (length book) (length buffer)
  pub written : left ≡ buffer_left answer book buffer

-- "rules, conditions and tests given as values, the book out as bytes in a lent buffer"
abbrev pub Writes : List ℤ → List ℕ → List ℕ → Result ℕ Refusal → List ℕ → Type 0
Writes rows wordings buffer answer left = Judges rows (laid_out rows wordings) buffer answer left

-- the reader's verdict about the book, then 19 where the rows or the wordings are too few
unfoldable pub rows_answer : BookRead → ℕ → ℕ → Result RowsRead Refusal
rows_answer (accepted rules) room wordingRoom =
    cond (leb (length (rows_of rules)) room)
    (cond (leb (length rules * 24) wordingRoom)
    (Ok (record { records = length (records_of rules); rules = length rules }))
    (Err (refusal OutputTooShort 0)))
    (Err (refusal OutputTooShort 0))
rows_answer (refused e) room wordingRoom = Err e

-- the values at the front of what was lent, or nothing changed
unfoldable pub left_by : {A : Type 0} → Result RowsRead Refusal → List A → List A → List A
left_by (Ok n) values lent = spliced lent 0 values
left_by (Err e) values lent = lent

-- the rows and wordings of the book's values, in lent memory
pub record Reads (book : List ℕ) (rows : List ℤ) (wordings : List ℕ) (answer : Result RowsRead Refusal) (rows' : List ℤ) (wordings' : List ℕ) : Type 0 where
  pub answered : answer ≡ rows_answer (read_book book) (length rows) (length wordings)
  pub rows_left : rows' ≡ left_by answer (rows_of (rules_of (read_book book))) rows
  pub wordings_left : wordings' ≡ left_by answer (wordings_of (rules_of (read_book book))) wordings
