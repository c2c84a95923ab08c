-- A step sees a room together with a reading at a slot that is not in use: at the slots in use what the room says, at the added slot what its row says.
-- So an added slot passes as its reading does, too. The flags that its row is made of are the bits that a reading tells. Assumes nothing.
use Prim.Native.Nat.{ℕ, ◌+◌, ◌*◌, ◌≤◌}
use mathlib.Core.Path.{◌≡◌, sym, ap, ◌∙◌}
use mathlib.Core.Bool.{true, false}
use mathlib.Core.Logic.{◌⊎◌}
use mathlib.Core.List.Memᴰ
use mathlib.Core.List.{List, [], ◌∷◌, map, Memᴰ}
use native.Mathlib.Nat.{zero-add}
use native.Mathlib.Omega.{arith}
use borrow.Author.Tests.{eq-eqb, ne_eqb}
use lib.Dec.{eqb}
use lib.ListN.{length, get_or}
use Rattle.numbers.specs.BigEndian.{uint}
use Rattle.book.specs.declared.record.Test.{Test}
use Rattle.book.specs.Rules.{Rule, condition_count}
use Rattle.book.specs.Stands.{conditions_of}
use Rattle.book.specs.Tests.{tests_at}
use Rattle.reading.specs.declared.Reading.{Reading}
use Rattle.reading.specs.Reading.{reading_at}
use Rattle.matching.specs.Complaints.{levels, tests_of}
use Rattle.room.specs.Broken.{sum}
use Rattle.room.specs.Held.{in_memory}
use Rattle.weave.specs.declared.view.View.{View}
use Rattle.row.specs.Row.{flag, flags_from, book_flags, RowOf}
use Rattle.row.proofs.RowLaws.{length-flags_from, flag_bit, get_or-flags_from}
use Rattle.rete.specs.Rules.{completes_built, Stretches}
use Rattle.weave.specs.View.{read_of, bit_of, pass_of, seen, read, pass}
use Rattle.checking.proofs.Extent.{completes_built_ext, stretches_ext}
use Rattle.sound.proofs.Agree.{pass_slot, Bits, bits_either, bits_ext, bits_agree}
use Rattle.sound.proofs.Entries.{Entries, entries_left, entries_right}
use Rattle.sound.proofs.TokensBuilt.{Agrees}

-- ---- flags: what the row of an added reading is made of

module _ (book places : List ℕ) where
  -- the tests of condition c, as they stand at its place
  abbrev tests : ℕ → List Test
  tests c = tests_at book (uint 2 places (c * 2))

  -- the flags of the reading at each slot are the bits that its reading tells
  module _ (os : List ℕ) (read : ℕ → Reading) where
    flags_bits : (flags : ℕ → List ℕ) (c : ℕ) (rules : List Rule) → ((s : ℕ) → Entries 0 (λ n. get_or (flags s) n 0) c (book_flags book places (read s) c (map levels rules)))
        → Entries [] tests c (conditions_of rules) → Bits os read (λ n s. eqb (get_or (flags s) n 0) 1) c rules
    unfolding book_flags conditions_of
    flags_bits flags c [] f e = tt
    flags_bits flags c (rule ∷ rules) f e =
        let here : ℕ → List ℕ = λ s. flags_from book places (read s) (levels rule) c 0 in
        let more : ℕ → List ℕ = λ s. book_flags book places (read s) (c + levels rule) (map levels rules) in
        let long : (s : ℕ) → length (here s) ≡ levels rule = λ s. length-flags_from book places (read s) (levels rule) c 0 in (
          λ j s h m.
              let there : get_or (flags s) (c + j) 0 ≡ flag book places (read s) (c + j) (0 + j) =
              entries_left 0 (λ n. get_or (flags s) n 0) c (here s) (more s) (f s) j (rw (long s) h) ∙ get_or-flags_from book places (read s) (levels rule) c 0 j h in
              let own : tests (c + j) ≡ tests_of rule j = entries_left [] tests c rule.conditions (conditions_of rules) e j h in
              let start : 0 + j ≡ j = omega arith in
              ap (λ (x : ℕ). eqb x 1) there ∙ flag_bit book places (read s) (c + j) (0 + j) ∙ rw (own, start),
          flags_bits flags (c + levels rule) rules (λ s. rw (long s) at (entries_right 0 (λ n. get_or (flags s) n 0) c (here s) (more s) (f s)))
              (entries_right [] tests c rule.conditions (conditions_of rules) e),
        )

    pub book-bits : (rules : List Rule) → Entries [] tests 0 (conditions_of rules)
        → Bits os read (λ n s. eqb (get_or (book_flags book places (read s) 0 (map levels rules)) n 0) 1) 0 rules
    book-bits rules = flags_bits (λ s. book_flags book places (read s) 0 (map levels rules)) 0 rules (λ s n l. rw zero-add)

-- ---- the added slot and the others

module _ (book places slots rows row : List ℕ) (v : View) where
  row-bits : (rules : List Rule) → condition_count rules ≤ 192 → RowOf row (book_flags book places v.w 0 (map levels rules)) → Entries [] (tests book places) 0 (conditions_of rules)
      → Bits (v.slot ∷ []) (read_of slots v) (bit_of rows row v) 0 rules
  unfolding read_of bit_of
  row-bits rules few made e =
      let flags : List ℕ = book_flags book places v.w 0 (map levels rules) in
      let added : (s : ℕ) → Memᴰ s (v.slot ∷ []) → eqb s v.slot ≡ true = λ s m. eq-eqb s v.slot (Memᴰ.eq_of_singleton m) in
      bits_ext (v.slot ∷ []) (λ s. v.w) (read_of slots v) (λ n s. eqb (get_or flags n 0) 1) (bit_of rows row v) 192 (λ s m. rw (added s m))
      (λ c s l m. rw (added s m) (sym (made.bits c l))) 0 rules (omega arith) (book-bits book places (v.slot ∷ []) (λ s. v.w) rules e)

  module _ (os : List ℕ) (new : Memᴰ v.slot os → ⊥) where
    apart : (s : ℕ) → Memᴰ s os → eqb s v.slot ≡ false
    apart s m = ne_eqb s v.slot (λ e. new (Memᴰ.cast (sym e) m))

    pub seen_read : (s : ℕ) → Memᴰ s os → reading_at slots s ≡ read_of slots v s
    unfolding read_of
    seen_read s m = rw (apart s m)

    seen_bit : (c s : ℕ) → Memᴰ s os → in_memory rows c s ≡ bit_of rows row v c s
    unfolding bit_of
    seen_bit c s m = rw (apart s m)

    seen-pass : (c : ℕ) (t : List Reading) (s : ℕ) → Memᴰ s os
        → pass_slot (reading_at slots) (in_memory rows) (tests book places) c t s ≡ pass (seen book places slots rows row v) c t s
    unfolding pass_of
    seen-pass c t s m = rw (seen_bit c s m, seen_read s m)

    -- the old tokens and complete matches are those of the slots in use, as the step sees them
    pub seen_stretches : (ns ls es ks : List ℕ) → Stretches ns ls os (reading_at slots) (pass_slot (reading_at slots) (in_memory rows) (tests book places)) 0 0 es ks
        → Stretches ns ls os (read (seen book places slots rows row v)) (pass (seen book places slots rows row v)) 0 0 es ks
    seen_stretches ns ls es ks =
        stretches_ext os (reading_at slots) (read_of slots v) (pass_slot (reading_at slots) (in_memory rows) (tests book places)) (pass (seen book places slots rows row v)) seen_read
        (sum ks) (λ c t s b. seen-pass c t s) ns ls 0 0 es ks (omega arith)

    pub seen-completes : (ks : List ℕ) → completes_built os (reading_at slots) (pass_slot (reading_at slots) (in_memory rows) (tests book places)) 0 0 ks
        ≡ completes_built os (read (seen book places slots rows row v)) (pass (seen book places slots rows row v)) 0 0 ks
    seen-completes ks =
        completes_built_ext os (reading_at slots) (read_of slots v) (pass_slot (reading_at slots) (in_memory rows) (tests book places)) (pass (seen book places slots rows row v)) seen_read
        (sum ks) (λ c t s b. seen-pass c t s) 0 0 ks (omega arith)

    -- the slots in use and the added one have the bits of their readings
    pub seen-bits : (rules : List Rule) → condition_count rules ≤ 192 → RowOf row (book_flags book places v.w 0 (map levels rules)) → Entries [] (tests book places) 0 (conditions_of rules)
        → Bits os (reading_at slots) (in_memory rows) 0 rules → (order : List ℕ) → ((s : ℕ) → Memᴰ s order → Memᴰ s (v.slot ∷ []) ⊎ Memᴰ s os)
        → Bits order (read_of slots v) (bit_of rows row v) 0 rules
    seen-bits rules few made e b order in_either =
        bits_either (read_of slots v) (bit_of rows row v) order (v.slot ∷ []) os in_either 0 rules
        (row-bits rules few made e)
        (bits_ext os (reading_at slots) (read_of slots v) (in_memory rows) (bit_of rows row v) 192 seen_read (λ c s h. seen_bit c s) 0 rules (omega arith) b)

  -- so the step's passes agree
  pub seen_agrees : (order : List ℕ) (rules : List Rule) → Bits order (read_of slots v) (bit_of rows row v) 0 rules → Entries [] (tests book places) 0 (conditions_of rules)
      → Agrees order (read (seen book places slots rows row v)) (pass (seen book places slots rows row v)) 0 rules
  unfolding pass_of
  seen_agrees order rules = bits_agree order (read_of slots v) (bit_of rows row v) (tests book places) 0 rules
