-- An entry put together at the front of what is free: a space, and three numbers with slashes between; and a line in an array of 230 bytes: the number, the entries and the ending, one behind
-- the other, and how long it is. Assumes nothing.
use Prim.Native.Nat.{ℕ, ◌+◌, ◌-◌, ◌*◌, ◌≤◌, ◌<◌}
use mathlib.Core.Path.{◌≡◌, refl, ap}
use mathlib.Core.List.{List, [], ◌∷◌, ◌++◌, append_assoc}
use native.Mathlib.Omega.{arith}
use borrow.Rule.Slice.PartMut.{put_mid}
use lib.ListN.{length, take, drop, set, replicate}
use lib.Seq.{length-take-le}
use Rattle.numbers.specs.Digits.{digits}
use Rattle.numbers.specs.Spliced.{spliced}
use Rattle.numbers.proofs.Digits.{length_digits_16}
use Rattle.reading.specs.declared.Reading.{Reading}
use Rattle.weave.proofs.SplicedLaws.{length_stretch}
use Rattle.lines.specs.Line.{entry, entries, trimmed, ending, line_text}
use Rattle.lines.proofs.Front.{Front, front_nil, front_byte, front_spliced, front_lent, front_lent_in, rest, rest_long, back}
use Rattle.lines.proofs.LineLaws.{length-entry, entry_pieces, length-ending}

module _ (free : List ℕ) (r : Reading) (long : length (entry r) ≤ length free) where
  -- the place that the pieces have
  pub enough : length (digits r.line) + length (digits r.column) + length (digits r.value) + 3 ≤ length free
  enough = omega (arith, length-entry r)

  pub spaced : Front free (32 ∷ []) (set free 0 32) 1
  spaced = front_byte (front_nil free) 32 (omega (arith, enough))

  pub line_fits : length (digits r.line) ≤ length (rest (set free 0 32) 1)
  line_fits = rest_long (set free 0 32) 1 (length (digits r.line)) (omega (arith, enough, spaced.long))

  module _ {a : ℕ} {A : List ℕ} (p : (a ≡ length (digits r.line)) × (A ≡ spliced (rest (set free 0 32) 1) 0 (digits r.line))) where
    abbrev lined : List ℕ
    lined = back (set free 0 32) 1 A

    pub line_put : Front free ((32 ∷ []) ++ digits r.line) lined (1 + a)
    line_put = front_lent spaced (digits r.line) (omega (arith, enough, p.0)) p

    pub slash_put : Front free (((32 ∷ []) ++ digits r.line) ++ 47 ∷ []) (set lined (1 + a) 47) (1 + a + 1)
    slash_put = front_byte line_put 47 (omega (arith, enough, p.0))

    pub column_fits : length (digits r.column) ≤ length (rest (set lined (1 + a) 47) (1 + a + 1))
    column_fits = rest_long (set lined (1 + a) 47) (1 + a + 1) (length (digits r.column)) (omega (arith, enough, p.0, slash_put.long))

    module _ {b : ℕ} {B : List ℕ} (q : (b ≡ length (digits r.column)) × (B ≡ spliced (rest (set lined (1 + a) 47) (1 + a + 1)) 0 (digits r.column))) where
      abbrev columned : List ℕ
      columned = back (set lined (1 + a) 47) (1 + a + 1) B

      pub column_put : Front free ((((32 ∷ []) ++ digits r.line) ++ 47 ∷ []) ++ digits r.column) columned (1 + a + 1 + b)
      column_put = front_lent slash_put (digits r.column) (omega (arith, enough, p.0, q.0)) q

      pub slashes_put : Front free (((((32 ∷ []) ++ digits r.line) ++ 47 ∷ []) ++ digits r.column) ++ 47 ∷ []) (set columned (1 + a + 1 + b) 47) (1 + a + 1 + b + 1)
      slashes_put = front_byte column_put 47 (omega (arith, enough, p.0, q.0))

      pub value_fits : length (digits r.value) ≤ length (rest (set columned (1 + a + 1 + b) 47) (1 + a + 1 + b + 1))
      value_fits = rest_long (set columned (1 + a + 1 + b) 47) (1 + a + 1 + b + 1) (length (digits r.value)) (omega (arith, enough, p.0, q.0, slashes_put.long))

      pub entry_put : {d : ℕ} {D : List ℕ} → (d ≡ length (digits r.value)) × (D ≡ spliced (rest (set columned (1 + a + 1 + b) 47) (1 + a + 1 + b + 1)) 0 (digits r.value))
          → Front free (entry r) (back (set columned (1 + a + 1 + b) 47) (1 + a + 1 + b + 1) D) (1 + a + 1 + b + 1 + d)
      entry_put t = let all = front_lent slashes_put (digits r.value) (omega (arith, enough, p.0, q.0, t.0)) t in rw entry_pieces at all

abbrev pub zeros : List ℕ
zeros = replicate 230 0

module _ (number n : ℕ) (rs : List Reading) (w : List ℕ) (short : (number < 65536) × ((n ≤ 6) × (length w ≤ 24))) (most : length (entries (take n rs)) ≤ 33 * n)
    {t : ℕ} (trim : (take t w ≡ trimmed w) × (t ≤ length w)) where
  pub length-tail : length (ending w) ≡ t + 3
  length-tail = omega (arith, length-ending w, ap length trim.0, length-take-le t w trim.1)

  -- at most 5 digits, 6 entries of 33, and 3 bytes more than the 24 of the wording
  pub length_all : length (digits number) + length (entries (take n rs)) + length (ending w) ≤ 230
  length_all = omega (arith, length_digits_16 number (omega (arith, short.0)), most, length-tail, short, trim.1)

  module _ {d : ℕ} {D : List ℕ} (q : (d ≡ length (digits number)) × (D ≡ spliced zeros 0 (digits number))) where
    pub numbered : Front zeros (digits number) D d
    numbered = front_spliced zeros (digits number) (omega (arith, length_all, q.0)) q.0 q.1

    -- the part that is lent for the entries has place for them
    pub entries_fit : length (entries (take n rs)) ≤ length (take (230 - d) (drop d D))
    entries_fit = omega (arith, length_all, q.0, numbered.fits, length_stretch D d (230 - d) (omega (arith, numbered.long, numbered.fits)))

    module _ {e : ℕ} {E : List ℕ} (p : (e ≡ length (entries (take n rs))) × (E ≡ spliced (take (230 - d) (drop d D)) 0 (entries (take n rs)))) where
      abbrev both : List ℕ
      both = put_mid d (230 - d) D E

      pub place : d + e + length (ending w) ≤ 230
      place = omega (arith, length_all, q.0, p.0)

      pub entered : Front zeros (digits number ++ entries (take n rs)) both (d + e)
      entered = front_lent_in numbered refl (entries (take n rs)) (omega (arith, place)) p

      pub ending_fits : length (ending w) ≤ length (take (230 - (d + e)) (drop (d + e) both))
      ending_fits = omega (arith, place, length_stretch both (d + e) (230 - (d + e)) (omega (arith, entered.long, entered.fits)))

      pub whole_line : {G : List ℕ} → G ≡ spliced (take (230 - (d + e)) (drop (d + e) both)) 0 (ending w)
          → Front zeros (line_text number (take n rs) w) (put_mid (d + e) (230 - (d + e)) both G) (d + e + t + 3)
      unfolding line_text
      whole_line r =
          let z : d + e + t + 3 ≡ d + e + length (ending w) = omega (arith, length-tail) in
          rw (z, ← append_assoc (digits number) (entries (take n rs)) (ending w)) (front_lent_in entered refl (ending w) place (refl, r))
