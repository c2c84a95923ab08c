-- A reading and its row written at a slot are read back there, and at every other slot what stood there before: so a step that has written them reads what it saw.
-- Assumes nothing.
use Prim.Native.Nat.{ℕ, ◌+◌, ◌*◌, ◌/◌, ◌^◌, ◌≤◌, ◌<◌}
use mathlib.Core.Path.{◌≡◌, refl, sym, ap, ◌∙◌}
use mathlib.Core.Bool.{false}
use mathlib.Core.Logic.{◌⊎◌, inl, inr, ⊎_elim}
use mathlib.Core.List.{List}
use native.Mathlib.Nat.{add-zero, eq-or-lt_of_le}
use native.Mathlib.Omega.{arith}
use borrow.Author.Tests.{eq-eqb, ne_eqb}
use lib.Dec.{eqb}
use lib.ListN.{length, get_or}
use Rattle.numbers.specs.BigEndian.{uint, bytes}
use Rattle.numbers.specs.Spliced.{spliced}
use Rattle.numbers.proofs.BigEndian.{length-bytes, uint-spliced, uint-spliced-before, uint-spliced-after}
use Rattle.numbers.proofs.Spliced.{length-spliced, get_or-spliced-before, get_or-spliced_in, get_or-spliced-after}
use Rattle.reading.specs.declared.Reading.{Reading}
use Rattle.reading.specs.Reading.{reading_at, reading_bytes}
use Rattle.reading.proofs.Bytes.{length-reading_bytes, reading_bytes-spliced}
use Rattle.room.specs.Held.{in_memory}
use Rattle.weave.specs.declared.view.View.{View}
use Rattle.weave.specs.View.{read_of, bit_of}
use Rattle.weave.proofs.Grown.{le_or_lt}

-- four bytes hold each number of a reading
pub record Fits (r : Reading) : Type 0 where
  pub line : r.line < 256 ^ 4
  pub column : r.column < 256 ^ 4
  pub value : r.value < 256 ^ 4

-- a slot is another, or is told from it and stands before or behind it
abbrev Apart : ℕ → ℕ → Type 0
Apart t slot = (eqb t slot ≡ false) × ((t < slot) ⊎ (slot < t))

same_or_apart : (t slot : ℕ) → (t ≡ slot) ⊎ Apart t slot
same_or_apart t slot = ⊎_elim
    (λ (h : slot ≤ t). ⊎_elim (λ (e : slot ≡ t). inl (sym e)) (λ (l : slot < t). inr (ne_eqb t slot (λ e. omega arith), inr l)) (eq-or-lt_of_le h))
    (λ (l : t < slot). inr (ne_eqb t slot (λ e. omega arith), inl l))
    (le_or_lt slot t)

-- ---- twelve bytes of a reading

module _ (xs : List ℕ) (a : ℕ) (r : Reading) (fits : Fits r) (long : a + 12 ≤ length xs) where
  reading-written : (uint 4 (spliced xs a (reading_bytes r)) a ≡ r.line) × (uint 4 (spliced xs a (reading_bytes r)) (a + 4) ≡ r.column)
      × (uint 4 (spliced xs a (reading_bytes r)) (a + 8) ≡ r.value)
  reading-written =
      let l : List ℕ = bytes 4 r.line in
      let c : List ℕ = bytes 4 r.column in
      let v : List ℕ = bytes 4 r.value in
      let one : List ℕ = spliced xs a l in
      let two : List ℕ = spliced one (a + 4) c in
      let length-one : length one ≡ length xs = length-spliced xs a l (omega (arith, length-bytes 4 r.line)) in
      let length_two : length two ≡ length one = length-spliced one (a + 4) c (omega (arith, length-bytes 4 r.column)) in
      let three : spliced two (a + 8) v ≡ spliced xs a (reading_bytes r) = reading_bytes-spliced xs one two (spliced two (a + 8) v) a r (omega arith) refl refl refl in
      rw (← three) (
        uint-spliced-before two (a + 8) v (omega arith) 4 a (omega arith) ∙ uint-spliced-before one (a + 4) c (omega arith) 4 a (omega arith)
            ∙ uint-spliced xs a 4 r.line (omega arith) fits.line,
        uint-spliced-before two (a + 8) v (omega arith) 4 (a + 4) (omega arith) ∙ uint-spliced one (a + 4) 4 r.column (omega arith) fits.column,
        uint-spliced two (a + 8) 4 r.value (omega arith) fits.value,
      )

module _ (slots : List ℕ) (v : View) (fits : Fits v.w) (long : v.slot * 12 + 12 ≤ length slots) where
  read_here : reading_at (spliced slots (v.slot * 12) (reading_bytes v.w)) v.slot ≡ v.w
  unfolding reading_at
  read_here = let r = reading-written slots (v.slot * 12) v.w fits long in rw (r.0, r.1, r.2)

  -- the twelve bytes of any other slot stay
  read-other : (t : ℕ) → (t < v.slot) ⊎ (v.slot < t) → reading_at (spliced slots (v.slot * 12) (reading_bytes v.w)) t ≡ reading_at slots t
  unfolding reading_at
  read-other t where-is =
      let stays : (i : ℕ) → i ≤ 8 → uint 4 (spliced slots (v.slot * 12) (reading_bytes v.w)) (t * 12 + i) ≡ uint 4 slots (t * 12 + i) =
      λ i b. ⊎_elim
      (λ (h : t < v.slot). uint-spliced-before slots (v.slot * 12) (reading_bytes v.w) (omega arith) 4 (t * 12 + i) (omega arith))
      (λ (h : v.slot < t). uint-spliced-after slots (v.slot * 12) (reading_bytes v.w) (omega arith) 4 (t * 12 + i) (omega (arith, length-reading_bytes v.w)))
      where-is in
      let line : uint 4 (spliced slots (v.slot * 12) (reading_bytes v.w)) (t * 12) ≡ uint 4 slots (t * 12) = rw add-zero at (stays 0 (omega arith)) in
      rw (line, stays 4 (omega arith), stays 8 (omega arith))

  pub read_back : (t : ℕ) → reading_at (spliced slots (v.slot * 12) (reading_bytes v.w)) t ≡ read_of slots v t
  unfolding read_of
  read_back t = ⊎_elim
      (λ (e : t ≡ v.slot). rw (eq-eqb t v.slot e, e) read_here)
      (λ (h : Apart t v.slot). rw h.0 (read-other t h.1))
      (same_or_apart t v.slot)

-- ---- the 24 bytes of a row

module _ (rows row : List ℕ) (v : View) (row_long : length row ≡ 24) (long : v.slot * 24 + 24 ≤ length rows) where
  byte_other : (t k : ℕ) → k < 24 → (t < v.slot) ⊎ (v.slot < t) → get_or (spliced rows (v.slot * 24) row) (t * 24 + k) 0 ≡ get_or rows (t * 24 + k) 0
  byte_other t k few = ⊎_elim
      (λ (h : t < v.slot). get_or-spliced-before rows (v.slot * 24) row (omega arith) (t * 24 + k) 0 (omega arith))
      (λ (h : v.slot < t). get_or-spliced-after rows (v.slot * 24) row (omega arith) (t * 24 + k) 0 (omega arith))

  -- a bit past the 192 of a row would be one of the next row
  pub bit_back : (c t : ℕ) → c < 192 → in_memory (spliced rows (v.slot * 24) row) c t ≡ bit_of rows row v c t
  unfolding bit_of in_memory
  bit_back c t few =
      let k : ℕ = c / 8 in
      let within : k < 24 = omega arith in
      let byte : get_or (spliced rows (v.slot * 24) row) (v.slot * 24 + k) 0 ≡ get_or row (0 * 24 + k) 0 =
      get_or-spliced_in rows (v.slot * 24) row (omega arith) k 0 (omega arith) ∙ ap (λ (i : ℕ). get_or row i 0) (omega arith) in
      ⊎_elim
      (λ (e : t ≡ v.slot). rw (eq-eqb t v.slot e, e, byte))
      (λ (h : Apart t v.slot). rw (h.0, byte_other t k within h.1))
      (same_or_apart t v.slot)
