-- Rows laid out one after the other: how many bytes a row takes, one row more, and where the last one ends.
-- Assumes nothing.
use Prim.Native.Nat.{ℕ, zero, suc, ◌+◌, ◌-◌, ◌*◌, ◌≤◌, ◌<◌}
use mathlib.Core.Path.{◌≡◌, refl, sym, ap, ◌∙◌}
use mathlib.Core.Bool.{Bool, true, false, cond}
use mathlib.Core.List.{List, [], ◌∷◌, ◌++◌, append_assoc}
use native.Mathlib.Omega.{arith}
use borrow.Author.Tests.{lt-leb, leb-true}
use lib.Dec.{leb}
use lib.ListN.{length, take, drop, get_or, length-append, set}
use lib.Seq.{length-take-le, drop-drop, get_or-take}
use lib.IntN.{ℤ, pos}
use Rattle.std.proofs.Common.{Result, Ok, Err}
use Rattle.std.specs.Simd.{first_chunks}
use Rattle.numbers.specs.BigEndian.{bytes}
use Rattle.numbers.specs.Spliced.{spliced}
use Rattle.numbers.proofs.Spliced.{spliced_nil, set-spliced, spliced_twice, length-spliced}
use Rattle.numbers.proofs.BigEndian.{length-bytes}
use Rattle.book.specs.declared.record.Record.{Record}
use Rattle.book.specs.declared.record.Record.TheVariants as r
use Rattle.book.specs.declared.record.Test.{Test}
use Rattle.book.specs.declared.record.Test.TheVariants.{Constant, Position, Gap}
use Rattle.book.specs.declared.refusal.Cause.{Cause}
use Rattle.book.specs.Record.{test_size, size_of}
use Rattle.writer.specs.Fields.{fits, bits}
use Rattle.writer.specs.Rows.{number, constant_of, position_of, gap_of, record_by, record_of, span_of, row_size, is_rule, unfit_rule}
use Rattle.writer.specs.Bytes.{test_bytes, record_bytes, said_bytes}
use Rattle.writer.specs.Layout.{no_wording, first_wording, wording_for, row_bytes, wording_size, laid, laid_size, row_count, unfit_at, CountedTo}

-- ---- how many bytes

pub length-test_bytes : (t : Test) → length (test_bytes t) ≡ test_size t
unfolding test_bytes test_size
length-test_bytes (Constant p q n) = omega (arith, length-bytes 4 n)
length-test_bytes (Position p q c o) = refl
length-test_bytes (Gap p c o low high) = omega (arith, length-append (bytes 8 (bits low)) (bytes 8 (bits high)), length-bytes 8 (bits low), length-bytes 8 (bits high))

length-record_bytes : (rec : Record) (wording : List ℕ) → length wording ≡ 24 → length (record_bytes rec wording) ≡ size_of rec
unfolding record_bytes size_of
length-record_bytes (r.Rule n) w h = omega (arith, length-append (bytes 2 n) w, length-bytes 2 n)
length-record_bytes r.Condition w h = refl
length-record_bytes (r.Test t) w h = length-test_bytes t
length-record_bytes r.End w h = refl

length-said_bytes : (said : Result Record Cause) (wording : List ℕ) → length wording ≡ 24 → length (said_bytes said wording) ≡ span_of said
unfolding said_bytes span_of
length-said_bytes (Ok rec) w h = length-record_bytes rec w h
length-said_bytes (Err cause) w h = refl

length-first_wording : (wordings : List ℕ) → length (first_wording wordings) ≡ 24
unfolding first_wording
length-first_wording wordings = by (leb 24 (length wordings)) refl where
  by : (b : Bool) → leb 24 (length wordings) ≡ b → length (cond b (take 24 wordings) no_wording) ≡ 24
  by true t = length-take-le 24 wordings (leb-true 24 (length wordings) t)
  by false t = refl

length-wording_for : (row : List ℤ) (wordings : List ℕ) → length (wording_for row wordings) ≡ 24
unfolding wording_for
length-wording_for row wordings = by (fits 65535 (number row 1)) where
  by : (b : Bool) → length (cond b (first_wording wordings) no_wording) ≡ 24
  by true = length-first_wording wordings
  by false = refl

pub length-row_bytes : (row : List ℤ) (wordings : List ℕ) → length (row_bytes row wordings) ≡ row_size row
unfolding row_bytes
length-row_bytes row wordings = length-said_bytes (record_of row) (wording_for row wordings) (length-wording_for row wordings)

pub length-laid : (n : ℕ) (rows : List ℤ) (wordings : List ℕ) → length (laid n rows wordings) ≡ laid_size n rows
unfolding laid laid_size
length-laid zero rows wordings = refl
length-laid (suc n) rows wordings =
    length-append (row_bytes rows wordings) _ ∙ rw (length-row_bytes rows wordings, length-laid n (drop 6 rows) (drop (wording_size rows) wordings))

-- a record takes from 1 to 27 bytes
pub test_some : (t : Test) → (1 ≤ test_size t) × (test_size t ≤ 27)
unfolding test_size
test_some (Constant p q n) = omega arith
test_some (Position p q c o) = omega arith
test_some (Gap p c o low high) = omega arith

size_some : (rec : Record) → (1 ≤ size_of rec) × (size_of rec ≤ 27)
unfolding size_of
size_some (r.Rule n) = omega arith
size_some r.Condition = omega arith
size_some (r.Test t) = test_some t
size_some r.End = omega arith

span_some : (said : Result Record Cause) → (1 ≤ span_of said) × (span_of said ≤ 27)
unfolding span_of
span_some (Ok rec) = size_some rec
span_some (Err cause) = omega arith

pub row_size-some : (row : List ℤ) → (1 ≤ row_size row) × (row_size row ≤ 27)
row_size-some row = span_some (record_of row)

pub laid_size-some : (n : ℕ) (rows : List ℤ) → 1 ≤ laid_size n rows
unfolding laid_size
laid_size-some zero rows = omega arith
laid_size-some (suc n) rows = omega (arith, laid_size-some n (drop 6 rows))

-- ---- one row more, k being done

-- what a row says is in its first six numbers
module _ (rows : List ℤ) where
  number_front : (i : ℕ) → i < 6 → number (take 6 rows) i ≡ number rows i
  number_front i h = get_or-take 6 rows i (pos 0) h

  record_of-front : record_of (take 6 rows) ≡ record_of rows
  unfolding record_of record_by constant_of position_of gap_of
  record_of-front =
      rw (number_front 0 (omega arith), number_front 1 (omega arith), number_front 2 (omega arith), number_front 3 (omega arith), number_front 4 (omega arith), number_front 5 (omega arith))

  is_rule-front : is_rule (take 6 rows) ≡ is_rule rows
  unfolding is_rule
  is_rule-front = rw (number_front 0 (omega arith))

  unfit_rule-front : unfit_rule (take 6 rows) ≡ unfit_rule rows
  unfolding unfit_rule
  unfit_rule-front = rw (is_rule-front, number_front 1 (omega arith))

  wording_size-front : wording_size (take 6 rows) ≡ wording_size rows
  unfolding wording_size
  wording_size-front = rw is_rule-front

  row_bytes-front : (wordings : List ℕ) → row_bytes (take 6 rows) wordings ≡ row_bytes rows wordings
  unfolding row_bytes wording_for
  row_bytes-front wordings = rw (record_of-front, number_front 1 (omega arith))

-- the chunks of six are the rows
chunk_is : {A : Type 0} (n k i : ℕ) (xs : List A) (d : List A) → i < k → get_or (first_chunks n k xs) i d ≡ take n (drop (i * n) xs)
chunk_is n zero i xs d h = absurd (omega arith)
chunk_is n (suc k) zero xs d h = let e : 0 ≡ 0 * n = omega arith in rw (← e)
chunk_is n (suc k) (suc i) xs d h = let e : n + i * n ≡ suc i * n = omega arith in chunk_is n k i (drop n xs) d (omega arith) ∙ ap (take n) (drop-drop (i * n) n xs ∙ ap (λ (m : ℕ). drop m xs) e)

-- the row of that index
pub record RowAt (rows : List ℤ) (k : ℕ) (row : List ℤ) : Type 0 where
  pub within : k < row_count rows
  pub six : row ≡ take 6 (drop (k * 6) rows)

pub row_at : (rows : List ℤ) (chunks : List (List ℤ)) (k : ℕ) → chunks ≡ first_chunks 6 (row_count rows) rows → k < row_count rows → RowAt rows k (get_or chunks k [])
row_at rows chunks k e h = record { within = h; six = ap (λ (l : List (List ℤ)). get_or l k []) e ∙ chunk_is 6 (row_count rows) k rows [] h }

module _ (rows : List ℤ) (k : ℕ) (row : List ℤ) (r : RowAt rows k row) where
  next : drop 6 (drop (k * 6) rows) ≡ drop ((k + 1) * 6) rows
  next =
      let e : k * 6 + 6 ≡ (k + 1) * 6 = omega arith in
      drop-drop 6 (k * 6) rows ∙ ap (λ (i : ℕ). drop i rows) e

  left : row_count rows - k ≡ suc (row_count rows - (k + 1))
  left = omega (arith, r.within)

  pub laid_size-next : laid_size (row_count rows - k) (drop (k * 6) rows) ≡ row_size row + laid_size (row_count rows - (k + 1)) (drop ((k + 1) * 6) rows)
  unfolding laid_size
  laid_size-next = rw (left, ← next, r.six, record_of-front)

  pub laid_next : (wordings : List ℕ) → laid (row_count rows - k) (drop (k * 6) rows) wordings
      ≡ row_bytes row wordings ++ laid (row_count rows - (k + 1)) (drop ((k + 1) * 6) rows) (drop (wording_size row) wordings)
  unfolding laid
  laid_next wordings = rw (left, ← next, r.six, row_bytes-front, wording_size-front)

  pub unfit_at-here : (place : ℕ) → place ≡ 0 → unfit_at (row_count rows - k) (drop (k * 6) rows) place ≡ unfit_rule row
  unfolding unfit_at
  unfit_at-here place e = rw (left, e, r.six, unfit_rule-front)

  pub unfit_at-next : (place : ℕ) → 0 < place → unfit_at (row_count rows - k) (drop (k * 6) rows) place ≡ unfit_at (row_count rows - (k + 1)) (drop ((k + 1) * 6) rows) (place - row_size row)
  unfolding unfit_at
  unfit_at-next place p = let l : leb place 0 ≡ false = lt-leb place 0 p in rw (left, l, next, r.six, record_of-front)

-- no row is left
pub unfit_at-over : (n k : ℕ) (rows : List ℤ) (place : ℕ) → n ≤ k → unfit_at (n - k) (drop (k * 6) rows) place ≡ false
unfolding unfit_at
unfit_at-over n k rows place h = let none : n - k ≡ 0 = omega arith in rw none

-- ---- the rows laid out so far

pub record Laying (out₀ : List ℕ) (rows : List ℤ) (wordings : List ℕ) (k at : ℕ) (left : List ℕ) (out : List ℕ) : Type 0 where
  pub done : List ℕ
  pub size : length done ≡ at
  pub stands : out ≡ spliced out₀ 0 done
  pub rest : laid (row_count rows) rows wordings ≡ done ++ laid (row_count rows - k) (drop (k * 6) rows) left
  pub fits : at + laid_size (row_count rows - k) (drop (k * 6) rows) ≡ laid_size (row_count rows) rows

pub laying_none : (out : List ℕ) (rows : List ℤ) (wordings : List ℕ) → Laying out rows wordings 0 0 wordings out
laying_none out rows wordings =
    let all : row_count rows - 0 ≡ row_count rows = omega arith in
    record { done = []; size = refl; stands = sym (spliced_nil out 0); rest = rw all; fits = rw all (omega arith) }

module _ (out₀ : List ℕ) (rows : List ℤ) (wordings : List ℕ) (k at : ℕ) (left out : List ℕ) (s : Laying out₀ rows wordings k at left out) where
  pub laying_more : (row : List ℤ) → RowAt rows k row → (size : ℕ) (left' out' : List ℕ) → size ≡ row_size row → left' ≡ drop (wording_size row) left → out' ≡ spliced out at (row_bytes row left)
      → Laying out₀ rows wordings (k + 1) (at + size) left' out'
  laying_more row r size left' out' es ew eo =
      let bytes = row_bytes row left in
      let long : length bytes ≡ size = length-row_bytes row left ∙ sym es in
      record {
        done = s.done ++ bytes;
        size = length-append s.done bytes ∙ omega (arith, s.size, long);
        stands = eo ∙ ap (λ (l : List ℕ). spliced l at bytes) s.stands ∙ spliced_twice out₀ 0 s.done (omega arith) at bytes (omega (arith, s.size));
        rest = s.rest ∙ ap (λ (l : List ℕ). s.done ++ l) (laid_next rows k row r left) ∙ sym (append_assoc s.done bytes _) ∙ rw ew;
        fits = omega (arith, s.fits, es, laid_size-next rows k row r);
      }

  module _ (room : laid_size (row_count rows) rows ≤ length out₀) where
    -- nothing but the rows is written
    pub laying_length : length out ≡ length out₀
    laying_length = ap length s.stands ∙ length-spliced out₀ 0 s.done (omega (arith, s.size, s.fits))

    -- and the next row has room
    pub laying_room : (row : List ℤ) → RowAt rows k row → at + row_size row ≤ length out
    laying_room row r = omega (arith, laying_length, s.fits, laid_size-next rows k row r)

    pub laying_over : row_count rows ≤ k → (at < length out) × (set out at 9 ≡ spliced out₀ 0 (laid (row_count rows) rows wordings))
    unfolding laid laid_size
    laying_over h =
        let n = row_count rows in
        let none : n - k ≡ 0 = omega arith in
        let end : at + 1 ≡ laid_size n rows = rw none at s.fits in
        let all : laid n rows wordings ≡ s.done ++ 9 ∷ [] = rw none at s.rest in
        let below : at < length out = omega (arith, laying_length) in (
          below,
          set-spliced out at 9 below
              ∙ ap (λ (l : List ℕ). spliced l at (9 ∷ [])) s.stands
              ∙ spliced_twice out₀ 0 s.done (omega arith) at (9 ∷ []) (omega (arith, s.size))
              ∙ ap (spliced out₀ 0) (sym all),
        )

-- ---- what is counted

pub counted_none : (rows : List ℤ) → 1 + laid_size (row_count rows - 0) rows ≡ laid_size (row_count rows) rows + 1
counted_none rows = let all : row_count rows - 0 ≡ row_count rows = omega arith in rw all (omega arith)

pub counted-over : (rows : List ℤ) (k size : ℕ) → size + laid_size (row_count rows - k) (drop (k * 6) rows) ≡ laid_size (row_count rows) rows + 1 → 8192 < size
    → CountedTo 8192 (laid_size (row_count rows) rows) size
counted-over rows k size e h =
    let some = laid_size-some (row_count rows - k) (drop (k * 6) rows) in
    record { within = λ (w : laid_size (row_count rows) rows ≤ 8192). absurd (omega arith); above = λ a. h }

pub counted-all : (rows : List ℤ) (k size : ℕ) → size + laid_size (row_count rows - k) (drop (k * 6) rows) ≡ laid_size (row_count rows) rows + 1 → row_count rows ≤ k
    → CountedTo 8192 (laid_size (row_count rows) rows) size
unfolding laid_size
counted-all rows k size e h =
    let none : row_count rows - k ≡ 0 = omega arith in
    let all : size + 1 ≡ laid_size (row_count rows) rows + 1 = rw none at e in
    record { within = λ w. omega arith; above = λ (w : 8192 < laid_size (row_count rows) rows). omega arith }
