-- Records: a body cut short or whole, a record by its kind, and that a record that was taken apart stands whole within the book.
-- Assumes nothing.
use Prim.Native.Nat.{ℕ, ◌+◌, ◌≤◌, ◌<◌}
use mathlib.Core.Path.{◌≡◌, refl}
use mathlib.Core.List.{List}
use mathlib.Core.Bool.{Bool, true, false, cond}
use native.Mathlib.Omega.{arith}
use borrow.Author.Tests.{le-leb, lt-leb, leb-true, leb-false}
use lib.Dec.{leb, eqb}
use lib.ListN.{length, drop, get_or, length-drop}
use Rattle.std.specs.Prelude.{Result, Ok, Err}
use Rattle.book.specs.declared.record.Record.{Record}
use Rattle.book.specs.declared.record.Record.TheVariants.{Condition, End}
use Rattle.book.specs.declared.refusal.Cause.TheVariants.{CutShort}
use Rattle.book.specs.declared.refusal.Refusal.{Refusal}
use Rattle.book.specs.Refusals.{refusal}
use Rattle.book.specs.Record.{whole, rule_body, constant_body, position_body, gap_body, by_kind, record_at, test_size, size_of}

-- ---- whole: a body cut short, and one that is all there

module _ (size at : ℕ) (b : List ℕ) (r : Record) where
  pub whole-cut : length b < size → Err (refusal CutShort at) ≡ whole size at b r
  unfolding whole
  whole-cut h = simp (lt-leb size (length b) h)

  pub whole_is : size ≤ length b → Ok r ≡ whole size at b r
  unfolding whole
  whole_is h = simp (le-leb size (length b) h)

-- ---- record_at: the record by its kind

pub record_at-past : (book : List ℕ) (at : ℕ) → length book ≤ at → Err (refusal CutShort at) ≡ record_at book at
unfolding record_at
record_at-past book at h = simp (le-leb (length book) at h)

module _ (book : List ℕ) (at : ℕ) (h : at < length book) where
  pub record_at_kind : (kind : ℕ) → get_or book at 0 ≡ kind → by_kind kind (drop (at + 1) book) at ≡ record_at book at
  unfolding record_at
  record_at_kind kind e = simp (lt-leb (length book) at h, e)

-- ---- size_of: a record that was taken apart takes from 1 to 27 bytes, and stands whole within the book

-- what is said of a record's size: its kind, and a body that is all there
abbrev Stands : List ℕ → Result Record Refusal → Type 0
Stands body (Ok r) = (1 ≤ size_of r) × ((size_of r ≤ 27) × (size_of r ≤ length body + 1))
Stands body (Err e) = Unit {0}

stands_sized : (body : List ℕ) (r : Record) (size : ℕ) → size_of r ≡ size + 1 → size ≤ 26 → size ≤ length body → Stands body (Ok r)
stands_sized body r size s h l = omega arith

stands_cond : (body : List ℕ) (b : Bool) (r s : Result Record Refusal) → Stands body r → Stands body s → Stands body (cond b r s)
stands_cond body true r s p q = p
stands_cond body false r s p q = q

stands-whole : (size at : ℕ) (body : List ℕ) (r : Record) → size_of r ≡ size + 1 → size ≤ 26 → Stands body (whole size at body r)
unfolding whole
stands-whole size at body r s h = by (leb size (length body)) refl where
  by : (b : Bool) → leb size (length body) ≡ b → Stands body (cond b (Ok r) (Err (refusal CutShort at)))
  by true t = stands_sized body r size s h (leb-true size (length body) t)
  by false t = tt

stands-by_kind : (kind : ℕ) (body : List ℕ) (at : ℕ) → Stands body (by_kind kind body at)
unfolding by_kind rule_body constant_body position_body gap_body size_of test_size
stands-by_kind kind body at =
    stands_cond body (eqb kind 1) _ _ (stands-whole 26 at body _ refl (omega arith))
    (stands_cond body (eqb kind 2) _ _ (stands_sized body Condition 0 refl (omega arith) (omega arith))
    (stands_cond body (eqb kind 3) _ _ (stands-whole 6 at body _ refl (omega arith))
    (stands_cond body (eqb kind 4) _ _ (stands-whole 4 at body _ refl (omega arith))
    (stands_cond body (eqb kind 5) _ _ (stands-whole 19 at body _ refl (omega arith))
    (stands_cond body (eqb kind 9) _ _ (stands_sized body End 0 refl (omega arith) (omega arith)) tt)))))

pub record_within : (book : List ℕ) (at : ℕ) (r : Record) → record_at book at ≡ Ok r → (1 ≤ size_of r) × ((size_of r ≤ 27) × (at + size_of r ≤ length book))
unfolding record_at
record_within book at r e = by (leb (length book) at) refl where
  by : (b : Bool) → leb (length book) at ≡ b → (1 ≤ size_of r) × ((size_of r ≤ 27) × (at + size_of r ≤ length book))
  by true t = let z : Err (refusal CutShort at) ≡ Ok r = rw t at e in cc
  by false t =
      let h = leb-false (length book) at t in
      let k : by_kind (get_or book at 0) (drop (at + 1) book) at ≡ Ok r = rw t at e in
      let p = rw k at (stands-by_kind (get_or book at 0) (drop (at + 1) book) at) in
      omega (arith, length-drop (at + 1) book)
