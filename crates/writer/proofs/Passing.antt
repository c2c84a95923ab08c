-- The records of a book one after the other, from a place on, and how many rows and bytes they take. Assumes nothing.
use Prim.Native.Nat.{ℕ, zero, suc, ◌+◌, ◌-◌, ◌*◌, ◌≤◌}
use mathlib.Core.Path.{◌≡◌, refl, sym, ap, ◌∙◌}
use mathlib.Core.List.{List, [], ◌∷◌, ◌++◌, append_assoc, append-nil}
use native.Mathlib.Omega.{arith}
use lib.ListN.{length, length-append}
use lib.IntN.{ℤ}
use Rattle.std.specs.Prelude.{Some, None, Result, Ok, Err}
use Rattle.std.specs.Result.{result_ok}
use Rattle.numbers.specs.Spliced.{spliced}
use Rattle.numbers.proofs.Spliced.{spliced_nil, spliced_twice, length-spliced}
use Rattle.book.specs.declared.record.Record.{Record}
use Rattle.book.specs.declared.record.Record.TheVariants as r
use Rattle.book.specs.declared.record.Test.TheVariants.{Constant, Position, Gap}
use Rattle.book.specs.declared.refusal.Refusal.{Refusal}
use Rattle.book.specs.Record.{record_at, size_of}
use Rattle.book.specs.Read.{bytes_of}
use Rattle.book.proofs.RecordLaws.{record_within, record_at-past}
use Rattle.writer.specs.Values.{test_row, row_of, rows_of_records, goes_on, records_from, records_in}
use Rattle.writer.specs.Left.{records_at}

-- ---- a record that ends them, and one more

module _ (book : List ℕ) (at : ℕ) where
  pub records_end : (n : ℕ) → record_at book at ≡ Ok r.End → records_from n book at ≡ []
  unfolding records_from goes_on
  records_end zero e = refl
  records_end (suc n) e = rw e

  records-refused : (n : ℕ) (e : Refusal) → record_at book at ≡ Err e → records_from n book at ≡ []
  unfolding records_from goes_on
  records-refused zero e h = refl
  records-refused (suc n) e h = rw h

  records_more : (n : ℕ) (rec : Record) → record_at book at ≡ Ok rec → (rec ≡ r.End → ⊥) → records_from (suc n) book at ≡ rec ∷ records_from n book (at + size_of rec)
  unfolding records_from bytes_of goes_on
  records_more n (r.Rule m) e h = rw e
  records_more n r.Condition e h = rw e
  records_more n (r.Test t) e h = rw e
  records_more n r.End e h = absurd (h refl)

-- no more than so many
length-goes_on : (said : Result Record Refusal) (more : List Record) → length (goes_on said more) ≤ suc (length more)
unfolding goes_on
length-goes_on (Ok (r.Rule n)) more = omega arith
length-goes_on (Ok r.Condition) more = omega arith
length-goes_on (Ok (r.Test t)) more = omega arith
length-goes_on (Ok r.End) more = omega arith
length-goes_on (Err e) more = omega arith

length-records_from : (n : ℕ) (book : List ℕ) (at : ℕ) → length (records_from n book at) ≤ n
unfolding records_from
length-records_from zero book at = omega arith
length-records_from (suc n) book at =
    omega (arith, length-goes_on (record_at book at) (records_from n book (at + bytes_of (record_at book at))), length-records_from n book (at + bytes_of (record_at book at)))

-- and as many turns as bytes are left are enough
records-past : (n : ℕ) (book : List ℕ) (at : ℕ) → length book ≤ at → records_from n book at ≡ []
records-past n book at h = records-refused book at n _ (sym (record_at-past book at h))

records-enough : (book : List ℕ) (n m at : ℕ) → length book - at ≤ n → length book - at ≤ m → records_from n book at ≡ records_from m book at
unfolding records_from bytes_of
records-enough book zero m at h k = sym (records-past m book at (omega arith))
records-enough book (suc n) zero at h k = records-past (suc n) book at (omega arith)
records-enough book (suc n) (suc m) at h k = by (record_at book at) refl (λ rec e. let w = record_within book at rec e in records-enough book n m (at + size_of rec) (omega arith) (omega arith)) where
  by : (said : Result Record Refusal) → record_at book at ≡ said
      → ((rec : Record) → record_at book at ≡ Ok rec → records_from n book (at + size_of rec) ≡ records_from m book (at + size_of rec))
      → records_from (suc n) book at ≡ records_from (suc m) book at
  by (Ok rec) e on = rw e (ap (goes_on (Ok rec)) (on rec e))
  by (Err f) e on = records-refused book at (suc n) f e ∙ sym (records-refused book at (suc m) f e)

-- ---- the records from a place on

module _ (book : List ℕ) (at : ℕ) where
  pub left_end : record_at book at ≡ Ok r.End → records_at book at ≡ []
  unfolding records_at
  left_end e = records_end book at (length book - at) e

  left-refused : (e : Refusal) → record_at book at ≡ Err e → records_at book at ≡ []
  unfolding records_at
  left-refused e h = records-refused book at (length book - at) e h

  pub left-more : (rec : Record) → record_at book at ≡ Ok rec → (rec ≡ r.End → ⊥) → records_at book at ≡ rec ∷ records_at book (at + size_of rec)
  unfolding records_at
  left-more rec e h =
      let w = record_within book at rec e in
      let next : ℕ = at + size_of rec in
      let n : length book - at ≡ suc (length book - at - 1) = omega arith in
      ap (λ (k : ℕ). records_from k book at) n
      ∙ records_more book at (length book - at - 1) rec e h
      ∙ ap (λ (l : List Record). rec ∷ l) (records-enough book (length book - at - 1) (length book - next) next (omega arith) (omega arith))

-- the same by what the code read there
module _ (book : List ℕ) (at : ℕ) (said : Result Record Refusal) (read : said ≡ record_at book at) where
  pub said_ok : (rec : Record) → Some rec ≡ result_ok said → record_at book at ≡ Ok rec
  said_ok rec e = sym read ∙ by said e where
    by : (s : Result Record Refusal) → Some rec ≡ result_ok s → s ≡ Ok rec
    by (Ok rec') f = cc
    by (Err e) f = cc

  pub said-none : None ≡ result_ok said → records_at book at ≡ []
  said-none e = by said read e where
    by : (s : Result Record Refusal) → s ≡ record_at book at → None ≡ result_ok s → records_at book at ≡ []
    by (Ok rec) g f = cc
    by (Err e) g f = left-refused book at e (sym g)

pub left_all : (book : List ℕ) → records_at book 0 ≡ records_in book
unfolding records_at
left_all book = let all : length book - 0 ≡ length book = omega arith in rw all

pub length-left : (book : List ℕ) → length (records_at book 0) ≤ length book
length-left book = rw left_all (length-records_from (length book) book 0)

-- ---- their rows

pub length-row_of : (rec : Record) → length (row_of rec) ≡ 6
unfolding row_of test_row
length-row_of (r.Rule n) = refl
length-row_of r.Condition = refl
length-row_of (r.Test (Constant p q n)) = refl
length-row_of (r.Test (Position p q c o)) = refl
length-row_of (r.Test (Gap p c o low high)) = refl
length-row_of r.End = refl

pub length-rows_of_records : (records : List Record) → length (rows_of_records records) ≡ length records * 6
unfolding rows_of_records
length-rows_of_records [] = refl
length-rows_of_records (rec ∷ records) = length-append (row_of rec) (rows_of_records records) ∙ omega (arith, length-row_of rec, length-rows_of_records records)

pub rows_of_records-append : (a b : List Record) → rows_of_records (a ++ b) ≡ rows_of_records a ++ rows_of_records b
unfolding rows_of_records
rows_of_records-append [] b = refl
rows_of_records-append (rec ∷ a) b = ap (λ (l : List ℤ). row_of rec ++ l) (rows_of_records-append a b) ∙ sym (append_assoc (row_of rec) (rows_of_records a) (rows_of_records b))

-- k rows are written, and the records that are left
pub record Rowing (book : List ℕ) (rows₀ : List ℤ) (k : ℕ) (left : List Record) (rows : List ℤ) : Type 0 where
  pub done : List ℤ
  pub size : length done ≡ k * 6
  pub stands : rows ≡ spliced rows₀ 0 done
  pub rest : rows_of_records (records_in book) ≡ done ++ rows_of_records left

pub rowing_none : (book : List ℕ) (rows : List ℤ) → Rowing book rows 0 (records_at book 0) rows
rowing_none book rows = record { done = []; size = refl; stands = sym (spliced_nil rows 0); rest = ap rows_of_records (sym (left_all book)) }

module _ (book : List ℕ) (rows₀ : List ℤ) (k : ℕ) (left : List Record) (rows : List ℤ) (s : Rowing book rows₀ k left rows) where
  pub rowing_over : left ≡ [] → rows ≡ spliced rows₀ 0 (rows_of_records (records_in book))
  unfolding rows_of_records
  rowing_over e = s.stands ∙ ap (spliced rows₀ 0) (sym (s.rest ∙ rw e (append-nil s.done)))

  module _ (rec : Record) (more : List Record) (e : left ≡ rec ∷ more) where
    rest-more : rows_of_records (records_in book) ≡ (s.done ++ row_of rec) ++ rows_of_records more
    unfolding rows_of_records
    rest-more = s.rest ∙ rw e (sym (append_assoc s.done (row_of rec) (rows_of_records more)))

    pub rowing_room : length (rows_of_records (records_in book)) ≤ length rows₀ → k * 6 + 6 ≤ length rows
    rowing_room fit =
        let long = ap length rest-more ∙ length-append (s.done ++ row_of rec) (rows_of_records more) in
        let front = length-append s.done (row_of rec) in
        let same : length rows ≡ length rows₀ = ap length s.stands ∙ length-spliced rows₀ 0 s.done (omega (arith, length-row_of rec)) in
        omega (arith, s.size, length-row_of rec)

    pub rowing_more : (rows' : List ℤ) → rows' ≡ spliced rows (k * 6) (row_of rec) → Rowing book rows₀ (k + 1) more rows'
    rowing_more rows' f =
        record {
          done = s.done ++ row_of rec;
          size = length-append s.done (row_of rec) ∙ omega (arith, s.size, length-row_of rec);
          stands = f ∙ ap (λ (l : List ℤ). spliced l (k * 6) (row_of rec)) s.stands ∙ spliced_twice rows₀ 0 s.done (omega arith) (k * 6) (row_of rec) (omega (arith, s.size));
          rest = rest-more;
        }
