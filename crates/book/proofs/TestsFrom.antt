-- The tests that stand one after the other from a place on: read one at a time, and where they end.
-- Assumes nothing.
use Prim.Native.Nat.{ℕ, zero, suc, ◌+◌, ◌-◌, ◌≤◌, ◌<◌}
use mathlib.Core.Path.{◌≡◌, refl, sym, ◌∙◌}
use mathlib.Core.List.{List, [], ◌∷◌, ◌++◌, append-nil}
use native.Mathlib.Numerals.{add-one}
use native.Mathlib.Omega.{arith}
use lib.ListN.{length, take, drop, set, replicate, length-append, length-set, take-append-drop}
use lib.Seq.{append_snoc, take-suc-set, drop-set-lt, drop-drop}
use types.Run.{OneOf, hit}
use denote.Enum.Declared.{tag_of}
use Rattle.std.specs.Prelude.{Some, None, Result, Ok, Err}
use Rattle.book.specs.contracts.record.Record.{the_type}
use Rattle.book.specs.declared.record.Record.{Record}
use Rattle.book.specs.declared.record.Record.TheVariants as r
use Rattle.book.specs.declared.record.Test.{Test}
use Rattle.book.specs.declared.refusal.Refusal.{Refusal}
use Rattle.book.specs.Record.{record_at, test_size, size_of}
use Rattle.book.specs.Tests.{if_test, test_in, tests_from, tests_at, blank, eight}
use Rattle.book.proofs.RecordLaws.{record_within}

-- ---- a record that is no test ends them

abbrev pub NoTest : Result Record Refusal → Type 0
NoTest (Ok (r.Rule n)) = Unit {0}
NoTest (Ok r.Condition) = Unit {0}
NoTest (Ok (r.Test t)) = ⊥
NoTest (Ok r.End) = Unit {0}
NoTest (Err e) = Unit {0}

-- the tags that a record can have which is no test
pub tag_unless-test : (rec : Record) → ((t : Test) → rec ≡ r.Test t → ⊥) → OneOf (0 ∷ 1 ∷ 3 ∷ []) (tag_of the_type rec)
tag_unless-test (r.Rule n) h = hit (0 ∷ 1 ∷ 3 ∷ []) 0 tt
tag_unless-test r.Condition h = hit (0 ∷ 1 ∷ 3 ∷ []) 1 tt
tag_unless-test (r.Test t) h = absurd (h t refl)
tag_unless-test r.End h = hit (0 ∷ 1 ∷ 3 ∷ []) 3 tt

pub no_test : (rec : Result Record Refusal) → None ≡ test_in rec → NoTest rec
unfolding test_in
no_test (Ok (r.Rule n)) h = tt
no_test (Ok r.Condition) h = tt
no_test (Ok (r.Test t)) h = cc
no_test (Ok r.End) h = tt
no_test (Err e) h = tt

pub a_test : (rec : Result Record Refusal) (t : Test) → Some t ≡ test_in rec → rec ≡ Ok (r.Test t)
unfolding test_in
a_test (Ok (r.Rule n)) t h = cc
a_test (Ok r.Condition) t h = cc
a_test (Ok (r.Test u)) t h = cc
a_test (Ok r.End) t h = cc
a_test (Err e) t h = cc

if_test-none : (rec : Result Record Refusal) (on : Test → List Test) → NoTest rec → if_test rec on ≡ []
unfolding if_test
if_test-none (Ok (r.Rule n)) on h = refl
if_test-none (Ok r.Condition) on h = refl
if_test-none (Ok (r.Test t)) on h = absurd h
if_test-none (Ok r.End) on h = refl
if_test-none (Err e) on h = refl

module _ (book : List ℕ) (place : ℕ) where
  pub tests_from-none : (n : ℕ) → NoTest (record_at book place) → tests_from n book place ≡ []
  unfolding tests_from
  tests_from-none zero h = refl
  tests_from-none (suc n) h = if_test-none (record_at book place) _ h

  pub tests_from-more : (n : ℕ) (t : Test) → record_at book place ≡ Ok (r.Test t) → tests_from (suc n) book place ≡ t ∷ tests_from n book (place + test_size t)
  unfolding tests_from if_test
  tests_from-more n t e = rw e

  -- the same, n of eight being read
  pub tests_from-next : (n : ℕ) (t : Test) (size : ℕ) → n < 8 → record_at book place ≡ Ok (r.Test t) → size ≡ test_size t
      → tests_from (8 - n) book place ≡ t ∷ tests_from (8 - (n + 1)) book (place + size)
  tests_from-next n t size h e s =
      let left : 8 - n ≡ suc (8 - (n + 1)) = omega arith in
      rw (left, s) (tests_from-more (8 - (n + 1)) t e)

  pub test_within : (t : Test) → record_at book place ≡ Ok (r.Test t) → place + test_size t ≤ length book
  unfolding size_of
  test_within t e = (record_within book place (r.Test t) e).1.1

-- ---- the first n of them read, the next at `place`

pub record TestsRead (book : List ℕ) (at n place : ℕ) (done : List Test) : Type 0 where
  pub count : length done ≡ n
  pub rest : tests_at book at ≡ done ++ tests_from (8 - n) book place

pub read_none : (book : List ℕ) (at : ℕ) → TestsRead book at 0 at []
read_none book at = record { count = refl; rest = refl }

module _ (book : List ℕ) (at n place : ℕ) (done : List Test) (read : TestsRead book at n place done) where
  pub read_more : (t : Test) (size : ℕ) → n < 8 → record_at book place ≡ Ok (r.Test t) → size ≡ test_size t → TestsRead book at (n + 1) (place + size) (done ++ t ∷ [])
  read_more t size h e s =
      record {
        count = omega (arith, read.count, length-append done (t ∷ []));
        rest = read.rest ∙ rw (tests_from-next book place n t size h e s) (sym (append_snoc done t _));
      }

  pub read-over : NoTest (record_at book place) → tests_at book at ≡ done
  read-over h = read.rest ∙ rw (tests_from-none book place (8 - n) h) (append-nil done)

  pub read-full : n ≡ 8 → tests_at book at ≡ done
  unfolding tests_from
  read-full e = read.rest ∙ rw e (append-nil done)

-- ---- an array of eight that holds them, and behind them the test that all pass

pub record TestsFilled (book : List ℕ) (at n place : ℕ) (tests : List Test) : Type 0 where
  pub room : length tests ≡ 8
  pub read : TestsRead book at n place (take n tests)
  pub blanks : drop n tests ≡ replicate (8 - n) blank

pub filled_none : (book : List ℕ) (at : ℕ) → TestsFilled book at 0 at (replicate 8 blank)
filled_none book at = record { room = refl; read = read_none book at; blanks = refl }

module _ (book : List ℕ) (at n place : ℕ) (tests : List Test) (filled : TestsFilled book at n place tests) where
  pub filled_more : (t : Test) (size : ℕ) → n < 8 → record_at book place ≡ Ok (r.Test t) → size ≡ test_size t → TestsFilled book at (n + 1) (place + size) (set tests n t)
  filled_more t size h e s =
      let left : 8 - n ≡ suc (8 - (n + 1)) = omega arith in
      let below : n < length tests = omega (arith, filled.room) in
      let front : take (n + 1) (set tests n t) ≡ take n tests ++ t ∷ [] = rw (add-one n) (take-suc-set tests n t below) in
      record {
        room = length-set tests n t ∙ filled.room;
        read = rw front (read_more book at n place (take n tests) filled.read t size h e s);
        blanks = drop-set-lt (n + 1) tests n t (omega arith) ∙ sym (drop-drop 1 n tests) ∙ rw (filled.blanks, left);
      }

  eight_is : tests_at book at ≡ take n tests → tests ≡ eight (tests_at book at)
  unfolding eight
  eight_is e =
      rw (e, filled.read.count, ← filled.blanks) (sym (take-append-drop n tests))

  count_is : tests_at book at ≡ take n tests → n ≡ length (tests_at book at)
  count_is e = rw e (sym filled.read.count)

  pub counted-over : NoTest (record_at book place) → n ≡ length (tests_at book at)
  counted-over h = count_is (read-over book at n place (take n tests) filled.read h)

  pub counted-full : n ≡ 8 → n ≡ length (tests_at book at)
  counted-full e = count_is (read-full book at n place (take n tests) filled.read e)

  pub filled-over : NoTest (record_at book place) → tests ≡ eight (tests_at book at)
  filled-over h = eight_is (read-over book at n place (take n tests) filled.read h)

  pub filled-full : n ≡ 8 → tests ≡ eight (tests_at book at)
  filled-full e = eight_is (read-full book at n place (take n tests) filled.read e)
