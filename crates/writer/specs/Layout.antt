-- Rows laid out as the bytes of the book that they would be. Assumes nothing: these are definitions.
use Rattle.std.specs.Prelude.{ℕ, zero, suc, ◌-◌, ◌+◌, ◌/◌, ◌≤◌, ◌<◌, ◌≡◌, Bool, false, cond, List, [], ◌∷◌, ◌++◌, leb, length, take, drop, replicate, ℤ}
use Rattle.writer.specs.Fields.{fits}
use Rattle.writer.specs.Rows.{number, record_of, row_size, is_rule, unfit_rule}
use Rattle.writer.specs.Bytes.{said_bytes}

-- bytes that the reader refuses with 6
abbrev pub no_wording : List ℕ
no_wording = replicate 24 255

-- the first 24 of the bytes left, where they are there
unfoldable pub first_wording : List ℕ → List ℕ
first_wording wordings = cond (leb 24 (length wordings)) (take 24 wordings) no_wording

-- a rule row's wording; none where the rule's number does not fit
unfoldable pub wording_for : List ℤ → List ℕ → List ℕ
wording_for row wordings = cond (fits 65535 (number row 1)) (first_wording wordings) no_wording

unfoldable pub row_bytes : List ℤ → List ℕ → List ℕ
row_bytes row wordings = said_bytes (record_of row) (wording_for row wordings)

-- how many bytes of wordings a row takes
unfoldable pub wording_size : List ℤ → ℕ
wording_size row = cond (is_rule row) 24 0

-- the first n rows one behind the other, and the end record
unfoldable pub laid : ℕ → List ℤ → List ℕ → List ℕ
laid zero rows wordings = 9 ∷ []
laid (suc n) rows wordings = row_bytes rows wordings ++ laid n (drop 6 rows) (drop (wording_size rows) wordings)

-- how many bytes that are
unfoldable pub laid_size : ℕ → List ℤ → ℕ
laid_size zero rows = 1
laid_size (suc n) rows = row_size rows + laid_size n (drop 6 rows)

-- "numbers left over at the end are no record"
abbrev pub row_count : List ℤ → ℕ
row_count rows = length rows / 6

-- whether the record that would stand at a place, n rows being left, is a rule whose number does not fit
unfoldable pub unfit_at : ℕ → List ℤ → ℕ → Bool
unfit_at zero rows place = false
unfit_at (suc n) rows place = cond (leb place 0) (unfit_rule rows) (unfit_at n (drop 6 rows) (place - row_size rows))

-- counted up to `most`: the size where it is no more, else some number above
pub record CountedTo (most size r : ℕ) : Type 0 where
  pub within : size ≤ most → r ≡ size
  pub above : most < size → most < r
