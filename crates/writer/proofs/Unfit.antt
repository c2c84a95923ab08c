-- What is laid out for a number that its field cannot hold, or for a wording that is not there, is refused with 6: a test whose numbers the reader finds in range,
-- and a wording that it finds printable, are those of a row in which everything fits. Assumes nothing.
use Prim.Native.Nat.{ℕ, ◌≤◌, ◌<◌}
use mathlib.Core.Path.{◌≡◌, refl}
use mathlib.Core.Bool.{Bool, true, false, cond, ◌&&◌}
use mathlib.Core.List.{List}
use native.Mathlib.Omega.{arith}
use borrow.Author.Tests.{leb-true}
use lib.Dec.{leb}
use lib.ListN.{length, take}
use lib.IntN.{ℤ, pos, negsuc}
use Rattle.book.specs.declared.record.Record.TheVariants as r
use Rattle.book.specs.declared.record.Test.{Test}
use Rattle.book.specs.declared.record.Test.TheVariants.{Constant, Position, Gap}
use Rattle.book.specs.Judgement.{printable, test_fits}
use Rattle.writer.specs.Fields.{fits, clamped}
use Rattle.writer.specs.Rows.{number, byte_of, constant_of, position_of, gap_of}
use Rattle.writer.specs.Layout.{no_wording, first_wording, wording_for}

both : (a b : Bool) → (a && b) ≡ true → (a ≡ true) × (b ≡ true)
both true true e = (refl, refl)
both true false e = (refl, e)
both false b e = let z : false ≡ true = e in let q : ◌≡◌ {A = ℕ} 0 1 = cc in absurd (omega arith)

-- a number in range below the highest of its field is the number itself
clamped-fits : (most bound : ℕ) (z : ℤ) → bound < most → leb (clamped most z) bound ≡ true → fits most z ≡ true
unfolding clamped fits
clamped-fits most bound (pos n) h e = by (leb n most) refl e where
  by : (b : Bool) → leb n most ≡ b → leb (cond b n most) bound ≡ true → leb n most ≡ true
  by true t f = t
  by false t f = absurd (omega (arith, leb-true most bound f))
clamped-fits most bound (negsuc n) h e = absurd (omega (arith, leb-true most bound e))

module _ (row : List ℤ) (own : ℕ) (t : Test) (h : own < 255) (fit : test_fits t own ≡ true) where
  pub constant_fits : constant_of row ≡ r.Test t → (fits 255 (number row 1) ≡ true) × (fits 255 (number row 2) ≡ true) × (fits 4294967295 (number row 3) ≡ true)
  unfolding constant_of test_fits
  constant_fits e = by (fits 4294967295 (number row 3)) refl e where
    by : (b : Bool) → fits 4294967295 (number row 3) ≡ b
        → cond b (r.Test (Constant (byte_of row 1) (byte_of row 2) (clamped 4294967295 (number row 3)))) (r.Test (Constant 255 255 4294967295)) ≡ r.Test t
        → (fits 255 (number row 1) ≡ true) × (fits 255 (number row 2) ≡ true) × (fits 4294967295 (number row 3) ≡ true)
    by true k f =
        let same : t ≡ Constant (byte_of row 1) (byte_of row 2) (clamped 4294967295 (number row 3)) = cc in
        let p = both _ _ (rw same at fit) in
        (clamped-fits 255 2 (number row 1) (omega arith) p.0, clamped-fits 255 5 (number row 2) (omega arith) p.1, k)
    by false k f =
        let same : t ≡ Constant 255 255 4294967295 = cc in
        let p : false ≡ true = rw same at fit in
        let q : ◌≡◌ {A = ℕ} 0 1 = cc in
        absurd (omega arith)

  pub position_fits : position_of row ≡ r.Test t
      → (fits 255 (number row 1) ≡ true) × (fits 255 (number row 2) ≡ true) × (fits 255 (number row 3) ≡ true) × (fits 255 (number row 4) ≡ true)
  unfolding position_of test_fits
  position_fits e =
      let same : t ≡ Position (byte_of row 1) (byte_of row 2) (byte_of row 3) (byte_of row 4) = cc in
      let three = both _ _ (rw same at fit) in
      let two = both _ _ three.0 in
      let one = both _ _ two.0 in
      (clamped-fits 255 2 (number row 1) (omega arith) one.0, clamped-fits 255 5 (number row 2) (omega arith) one.1, clamped-fits 255 own (number row 3) h two.1, clamped-fits 255 2 (number row 4) (omega arith) three.1)

  pub gap_fits : gap_of row ≡ r.Test t → (fits 255 (number row 1) ≡ true) × (fits 255 (number row 2) ≡ true) × (fits 255 (number row 3) ≡ true)
  unfolding gap_of test_fits
  gap_fits e =
      let same : t ≡ Gap (byte_of row 1) (byte_of row 2) (byte_of row 3) (number row 4) (number row 5) = cc in
      let three = both _ _ (rw same at fit) in
      let two = both _ _ three.0 in
      let one = both _ _ two.0 in
      (clamped-fits 255 2 (number row 1) (omega arith) one.0, clamped-fits 255 own (number row 2) h one.1, clamped-fits 255 2 (number row 3) (omega arith) two.1)

pub wording-fits : (row : List ℤ) (wordings : List ℕ) → printable (wording_for row wordings) ≡ true → (fits 65535 (number row 1) ≡ true) × (24 ≤ length wordings)
unfolding wording_for first_wording printable
wording-fits row wordings e = by (fits 65535 (number row 1)) (leb 24 (length wordings)) refl refl e where
  by : (b c : Bool) → fits 65535 (number row 1) ≡ b → leb 24 (length wordings) ≡ c → printable (cond b (cond c (take 24 wordings) no_wording) no_wording) ≡ true
      → (fits 65535 (number row 1) ≡ true) × (24 ≤ length wordings)
  by true true k l f = (k, leb-true 24 (length wordings) l)
  by true false k l f = let z : false ≡ true = f in let q : ◌≡◌ {A = ℕ} 0 1 = cc in absurd (omega arith)
  by false c k l f = let z : false ≡ true = f in let q : ◌≡◌ {A = ℕ} 0 1 = cc in absurd (omega arith)
