-- A line of bytes: how long its parts are, the entries one reading at a time, a wording without its trailing spaces, and a text in a buffer
-- that has place for it or not. Assumes nothing.
use Prim.Native.Nat.{ℕ, zero, suc, ◌+◌, ◌-◌, ◌*◌, ◌^◌, ◌≤◌, ◌<◌}
use mathlib.Core.Path.{◌≡◌, refl, sym, ap, ◌∙◌}
use mathlib.Core.Bool.{and-false}
use mathlib.Core.List.{List, [], ◌∷◌, ◌++◌, append_assoc}
use native.Mathlib.Numerals.{add-one}
use native.Mathlib.Omega.{arith}
use borrow.Author.Tests.{ne_eqb, lt-ltb, le-ltb}
use lib.ListN.{length, take, drop, get_or, length-append, take-append-drop}
use lib.Seq.{take-suc, take-take}
use mir.Val.{Val}
use denote.Array.{each}
use denote.Shadow.{shadow}
use denote.Struct.Declared.{row}
use Rattle.numbers.specs.Digits.{digits}
use Rattle.numbers.specs.Spliced.{spliced}
use Rattle.numbers.proofs.Digits.{length_digits_32}
use Rattle.matching.specs.Lists.{concat_map}
use Rattle.matching.proofs.Laws.Lists.{concat_map-append, concat_map-one}
use Rattle.reading.specs.declared.Reading.{Reading}
use Rattle.reading.specs.contracts.Reading.{the_type}
use Rattle.std.specs.Prelude.{None, Some}
use Rattle.lines.specs.Line.{entry, entries, trimmed, ending, line_text, length_in, text_in}

-- ---- lengths

pub length-entry : (r : Reading) → length (entry r) ≡ length (digits r.line) + length (digits r.column) + length (digits r.value) + 3
unfolding entry
length-entry r = simp length-append (omega arith)

-- of three numbers of 32 bits, which have at most ten digits each
pub length-entry-most : (r : Reading) → r.line < 2 ^ 32 → r.column < 2 ^ 32 → r.value < 2 ^ 32 → length (entry r) ≤ 33
length-entry-most r l c v = omega (arith, length-entry r, length_digits_32 r.line l, length_digits_32 r.column c, length_digits_32 r.value v)

-- of the first n readings of an array: what its type says of each reading is that its numbers have 32 bits
pub length-entries-most : (readings : List Reading) (us : List Val) → shadow (each Reading (row the_type).own_val readings us) → (n : ℕ) → length (entries (take n readings)) ≤ 33 * n
unfolding concat_map
length-entries-most readings us is zero = omega arith
length-entries-most [] us is (suc n) = omega arith
length-entries-most (r ∷ readings) [] is (suc n) = absurd is
length-entries-most (r ∷ readings) (u ∷ us) is (suc n) =
    let numbers = is.0.1.1 in
    let first = length-entry-most r numbers.0.1 numbers.1.0.1 numbers.1.1.0.1 in
    simp length-append (omega (arith, length-entries-most readings us is.1 n))

pub length-ending : (wording : List ℕ) → length (ending wording) ≡ length (trimmed wording) + 3
unfolding ending
length-ending wording = simp length-append (omega arith)

pub length-line_text : (number : ℕ) (readings : List Reading) (wording : List ℕ)
    → length (line_text number readings wording) ≡ length (digits number) + length (entries readings) + length (trimmed wording) + 3
unfolding line_text
length-line_text number readings wording = simp length-append (omega (arith, length-ending wording))

-- ---- entries

-- an entry as its bytes are written: one piece behind the other
pub entry_pieces : (r : Reading)
    → (((((32 ∷ []) ++ digits r.line) ++ 47 ∷ []) ++ digits r.column) ++ 47 ∷ []) ++ digits r.value ≡ entry r
unfolding entry
entry_pieces r = simp append_assoc

module _ (readings : List Reading) where
  pub entries-more : (i : ℕ) (d : Reading) → i < length readings → entries (take (i + 1) readings) ≡ entries (take i readings) ++ entry (get_or readings i d)
  entries-more i d h =
      ap entries (rw (add-one, take-suc readings i d))
      ∙ concat_map-append entry (take i readings) (get_or readings i d ∷ [])
      ∙ ap (λ (l : List ℕ). entries (take i readings) ++ l) (concat_map-one entry (get_or readings i d))

  -- fewer readings take no more bytes
  entries-fewer : (i n : ℕ) → i ≤ n → length (entries (take i readings)) ≤ length (entries (take n readings))
  entries-fewer i n h =
      let front = take n readings in
      let e : entries front ≡ entries (take i readings) ++ entries (drop i front) =
      ap entries (sym (take-append-drop i front))
      ∙ concat_map-append entry (take i front) (drop i front)
      ∙ ap (λ (l : List Reading). entries l ++ entries (drop i front)) (take-take i n readings h) in
      omega (arith, simp length-append at (ap length e))

  -- one entry more, and the place that is left for it
  pub length-entries-more : (i n : ℕ) (d : Reading) → i < n → i < length readings
      → (length (entries (take (i + 1) readings)) ≡ length (entries (take i readings)) + length (entry (get_or readings i d)))
      × (length (entries (take i readings)) + length (entry (get_or readings i d)) ≤ length (entries (take n readings)))
  length-entries-more i n d h k =
      let e = simp length-append at (ap length (entries-more i d k)) in
      (e, omega (arith, entries-fewer (i + 1) n (omega arith)))

-- ---- trimmed

-- a trailing space changes nothing
trimmed_space : (l : List ℕ) → trimmed (l ++ 32 ∷ []) ≡ trimmed l
unfolding trimmed
trimmed_space [] = refl
trimmed_space (x ∷ l) = rw (trimmed_space l)

-- what ends with another byte is its own trimmed
trimmed-end : (l : List ℕ) (x : ℕ) → (x ≡ 32 → ⊥) → trimmed (l ++ x ∷ []) ≡ l ++ x ∷ []
unfolding trimmed
trimmed-end [] x h = simp (ne_eqb x 32 h)
trimmed-end (y ∷ l) x h =
    let more : length (l ++ x ∷ []) ≡ 0 → ⊥ = λ e. omega (arith, length-append l (x ∷ [])) in
    simp (trimmed-end l x h, ne_eqb (length (l ++ x ∷ [])) 0 more, and-false)

-- the same of the first n bytes of a wording, by the last of them
module _ (wording : List ℕ) (n : ℕ) (some : 0 < n) (h : n ≤ length wording) where
  last : take n wording ≡ take (n - 1) wording ++ get_or wording (n - 1) 0 ∷ []
  last = let e : n ≡ suc (n - 1) = omega arith in ap (λ (k : ℕ). take k wording) e ∙ take-suc wording (n - 1) 0 (omega arith)

  pub trimmed_shorter : get_or wording (n - 1) 0 ≡ 32 → trimmed (take n wording) ≡ trimmed (take (n - 1) wording)
  trimmed_shorter e = ap trimmed (last ∙ ap (λ (x : ℕ). take (n - 1) wording ++ x ∷ []) e) ∙ trimmed_space (take (n - 1) wording)

  pub trimmed_itself : (get_or wording (n - 1) 0 ≡ 32 → ⊥) → trimmed (take n wording) ≡ take n wording
  trimmed_itself e = ap trimmed last ∙ trimmed-end (take (n - 1) wording) (get_or wording (n - 1) 0) e ∙ sym last

-- ---- a text in a buffer

module _ (buffer text : List ℕ) where
  pub in_short : length buffer < length text → (length_in buffer text ≡ None) × (text_in buffer text ≡ buffer)
  unfolding length_in text_in
  in_short h = let e = lt-ltb (length buffer) (length text) h in (simp e, simp e)

  pub in_fits : length text ≤ length buffer → (length_in buffer text ≡ Some (length text)) × (text_in buffer text ≡ spliced buffer 0 text)
  unfolding length_in text_in
  in_fits h = let e = le-ltb (length buffer) (length text) h in (simp e, simp e)
