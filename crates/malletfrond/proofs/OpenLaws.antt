-- A room just opened: its parts are those that were written, so that it is whole and holds the book, its index, the limits and nothing else, which is what the
-- definition says of no readings. Assumes nothing.
use Prim.Native.Nat.{ℕ, ◌+◌, ◌*◌, ◌≤◌, ◌<◌}
use mathlib.Core.Path.{◌≡◌, refl, sym, ap, ap₂, ◌∙◌}
use mathlib.Core.Bool.{true, false, ◌&&◌, and-eq-true_iff}
use mathlib.Core.Logic.{◌↔◌}
use mathlib.Core.List.{List, [], ◌∷◌, map}
use native.Mathlib.Omega.{arith}
use borrow.Author.Tests.{leb-true, le-leb, lt-ltb, le-ltb}
use lib.Dec.{leb}
use lib.ListN.{length, take, drop, get_or, replicate}
use lib.Seq.{take_at}
use Rattle.std.specs.Prelude.{Ok, Err}
use Rattle.numbers.specs.BigEndian.{uint}
use Rattle.numbers.proofs.Spliced.{spliced_front}
use Rattle.reading.specs.Reading.{reading_at}
use Rattle.book.specs.declared.reader.Found.{Found}
use Rattle.book.specs.declared.refusal.Cause.TheVariants.{LimitsOutside, RoomTooShort}
use Rattle.book.specs.declared.refusal.Refusal.{Refusal}
use Rattle.book.specs.Refusals.{refusal}
use Rattle.book.specs.Rules.{Rule, condition_count, rules_size, rule_places, condition_places, padded, places_of}
use Rattle.book.specs.Limits.{Kept}
use Rattle.book.specs.Read.{BookRead, read_book, accepted, refused, placed_of}
use Rattle.book.proofs.Growth.{length-rule_places, length-condition_places, counts, length-counts}
use Rattle.book.proofs.Limits.{read_kept, condition_count_kept}
use Rattle.book.proofs.Stands.{read-stands}
use Rattle.book.proofs.Wordings.{rules-read}
use Rattle.matching.specs.Complaints.{memories}
use Rattle.matching.specs.Order.{nought}
use Rattle.room.specs.Parts.{part, cut, below, twos}
use Rattle.room.specs.Layout.{formula, widths, head_number, parts, head, book_part, rule_conditions_part, order_part, slots_part, rows_part, nodes_part, lasts_part, rest_part}
use Rattle.room.specs.Held.{Arranged, held, level, sifted, in_memory, slots_of, stored, tokens_from}
use Rattle.room.specs.Written.{opened, Opening}
use Rattle.room.specs.Broken.{sum}
use Rattle.room.proofs.BrokenLaws.{Whole, whole_not_broken}
use Rattle.room.proofs.Written.{opened-number, parts-written}
use Rattle.room.proofs.Order.{length-below, once-below}
use Rattle.sound.specs.Sound.{Sound, held_of, tokens_held}
use Rattle.malletfrond.specs.Answers.{counted, limits_fit, opened_by, open_answer}
use Rattle.malletfrond.specs.Promise.{Opens}
use Rattle.sound.proofs.SoundLaws.{held_ext, held-sound}
use Rattle.checking.proofs.IndexLaws.{take-padded}
use Rattle.sound.proofs.Tables.{rule_places-most, condition_places-most, length-padded, get_or-padded, twos-padded, counts_kept, sum-counts, uint_zeros, twos_zeros}
use Rattle.sound.proofs.NoReadings.{ends_of-none, completes_of-none, memories-none, map-none, tokens_held-none}

-- ---- the limits

pub record Limits (E T : ℕ) : Type 0 where
  pub E_low : 1 ≤ E
  pub E_high : E ≤ 256
  pub T_low : 1 ≤ T
  pub T_high : T ≤ 2048

pub limits_fit_lem : (E T : ℕ) → (limits_fit E T ≡ true) ↔ Limits E T
unfolding limits_fit
limits_fit_lem E T =
    let both = and-eq-true_iff (leb 1 E && leb E 256) (leb 1 T && leb T 2048) in
    let own = and-eq-true_iff (leb 1 E) (leb E 256) in
    let other = and-eq-true_iff (leb 1 T) (leb T 2048) in (
      λ h. record {
        E_low = leb-true _ _ (own.0 (both.0 h).0).0;
        E_high = leb-true _ _ (own.0 (both.0 h).0).1;
        T_low = leb-true _ _ (other.0 (both.0 h).1).0;
        T_high = leb-true _ _ (other.0 (both.0 h).1).1;
      },
      λ l. simp (le-leb _ _ l.E_low, le-leb _ _ l.E_high, le-leb _ _ l.T_low, le-leb _ _ l.T_high),
    )

-- ---- a room just opened

module _ (room room' book : List ℕ) (rules : List Rule) (E T : ℕ) (fit : Limits E T) (reads : read_book book ≡ accepted rules)
    (large : formula E T ≤ length room) (long : length room' ≡ length room)
    (written : cut 0 (widths T) room'
    ≡ opened E T book (length rules) (condition_count rules) (padded 32 (rule_places 0 rules)) (padded 32 (counts rules)) (padded 192 (condition_places 0 rules)) (cut 0 (widths T) room)) where
  kept : Kept rules
  kept = read_kept book rules reads

  short : length book ≤ 8192
  short = (read-stands book rules reads).1

  few : condition_count rules ≤ 192
  few = condition_count_kept rules kept

  within : 0 + rules_size rules ≤ 8192
  within = omega (arith, (read-stands book rules reads).0.last, short)

  -- the numbers of the header
  number : (k : ℕ) → k < 8 → head_number room' k ≡ get_or (E ∷ T ∷ 0 ∷ 0 ∷ length book ∷ length rules ∷ condition_count rules ∷ 0 ∷ []) k 0
  unfolding opened
  number k h =
      ap (λ (ps : List (List ℕ)). uint 2 (head ps) (k * 2)) written
      ∙ opened-number E T (length book) (length rules) (condition_count rules) (omega arith) (omega arith) (omega (arith, short)) (omega (arith, kept.most)) (omega (arith, few)) k h

  -- its parts
  abbrev ps : List (List ℕ)
  ps = opened E T book (length rules) (condition_count rules) (padded 32 (rule_places 0 rules)) (padded 32 (counts rules)) (padded 192 (condition_places 0 rules)) (cut 0 (widths T) room)

  parts-here : parts room' ≡ ps
  unfolding opened
  parts-here = parts-written T room' ps written (sym (ap (λ (qs : List (List ℕ)). uint 2 (head qs) 2) written) ∙ number 1 (omega arith))

  part-here : (k : ℕ) → get_or (parts room') k [] ≡ get_or ps k []
  part-here k = ap (λ (qs : List (List ℕ)). get_or qs k []) parts-here

  -- no reading, so nothing in a memory, and no token
  no_slots : slots_of room' ≡ []
  no_slots = ap (λ (n : ℕ). take n (order_part (parts room'))) (number 2 (omega arith))

  no_readings : (held room').readings ≡ []
  unfolding held
  no_readings = ap (map (reading_at (slots_part (parts room')))) no_slots

  no_memories : (held room').memories ≡ memories rules []
  unfolding held sifted
  no_memories =
      ap (λ (slots : List ℕ). map (λ c. map (reading_at (slots_part (parts room'))) (sifted (in_memory (rows_part (parts room')) c) slots)) (below (head_number room' 6))) no_slots
      ∙ map-none (below (head_number room' 6))
      ∙ ap (λ (n : ℕ). replicate n []) (length-below (head_number room' 6) ∙ number 6 (omega arith))
      ∙ sym (memories-none rules)

  no_tokens : (held room').tokens ≡ tokens_held 0 rules []
  unfolding held stored tokens_from
  no_tokens =
      ap (λ (n : ℕ). map (λ t. record { node = t.0; readings = t.1 })
      (tokens_from (level (take (head_number room' 5) (rule_conditions_part (parts room')))) (reading_at (slots_part (parts room'))) []
      (stored (take n (nodes_part (parts room'))) (take n (lasts_part (parts room')))))) (number 3 (omega arith))
      ∙ sym (tokens_held-none 0 rules)

  opened-holds : held room' ≡ held_of book rules E T []
  unfolding held held_of opened
  opened-holds =
      held_ext (held room') (held_of book rules E T [])
      (ap₂ take (number 4 (omega arith)) (part-here 1 ∙ spliced_front (book_part (cut 0 (widths T) room)) book) ∙ take_at book _ (length book) refl)
      (number 0 (omega arith))
      (number 1 (omega arith))
      (ap₂ twos (number 5 (omega arith) ∙ sym (length-rule_places 0 rules)) (part-here 3) ∙ twos-padded 32 (rule_places 0 rules) (omega (arith, length-rule_places 0 rules, kept.most)) (rule_places-most 8192 0 rules within))
      (ap₂ take (number 5 (omega arith) ∙ sym (length-counts rules)) (part-here 4) ∙ take-padded 32 (length (counts rules)) (counts rules) refl)
      (ap₂ twos (number 6 (omega arith) ∙ sym (length-condition_places 0 rules)) (part-here 2)
      ∙ twos-padded 192 (condition_places 0 rules) (omega (arith, length-condition_places 0 rules, few)) (condition_places-most 8192 0 rules within))
      (ap₂ twos (number 5 (omega arith)) (part-here 5) ∙ twos_zeros (length rules) 64 ∙ sym (ends_of-none 0 rules))
      (ap₂ twos (number 5 (omega arith)) (part-here 6) ∙ twos_zeros (length rules) 64 ∙ sym (completes_of-none 0 rules kept.some))
      no_readings
      no_memories
      no_tokens

  whole : Whole room'
  unfolding opened
  whole =
      let table : part room' 8656 32 ≡ padded 32 (counts rules) = part-here 4 in
      let none : (l : List ℕ) → l ≡ replicate 64 0 → (i : ℕ) → uint 2 l i ≡ 0 = λ l e i. rw e (uint_zeros 64 i) in
      record {
        large = omega (arith, number 1 (omega arith));
        E_low = omega (arith, number 0 (omega arith));
        E_high = omega (arith, number 0 (omega arith));
        T_low = omega (arith, number 1 (omega arith));
        T_high = omega (arith, number 1 (omega arith));
        readings = omega (arith, number 2 (omega arith));
        tokens = omega (arith, number 3 (omega arith));
        book = omega (arith, number 4 (omega arith), short);
        rules = omega (arith, number 5 (omega arith), kept.most);
        conditions = omega (arith, number 6 (omega arith), few);
        zero = number 7 (omega arith);
        counts = λ i h. rw (table, get_or-padded 32 (counts rules) i (omega (arith, number 5 (omega arith), length-counts rules))) (counts_kept rules kept.each kept.some i (omega (arith, number 5 (omega arith))));
        total = ap sum (ap₂ take (number 5 (omega arith) ∙ sym (length-counts rules)) table ∙ take-padded 32 (length (counts rules)) (counts rules) refl) ∙ sum-counts rules ∙ sym (number 6 (omega arith));
        ends = λ i h. omega (arith, none (part room' 8688 64) (part-here 5) (i * 2));
        completes = λ i h. omega (arith, none (part room' 8752 64) (part-here 6) (i * 2));
      }

  arranged : Arranged room'
  unfolding opened
  arranged = record { once = rw (part-here 7) (once-below 256); used = λ k h. absurd (omega (arith, number 3 (omega arith))) }

  opened-sound : Sound room'
  opened-sound = held-sound room' book rules E T [] (whole_not_broken room' whole) arranged reads nought opened-holds

  opened-past : drop (formula E T) room' ≡ drop (formula E T) room
  unfolding opened
  opened-past =
      let end : 18288 + T + T ≡ 18288 + T * 2 = omega arith in
      rw end at (ap (λ (qs : List (List ℕ)). rest_part qs) written)

  opens-opened : Opens room book E T (counted 0 0 0) room'
  unfolding open_answer opened_by
  opens-opened =
      record {
        answered = sym (simp ((limits_fit_lem E T).1 fit, le-ltb (length room) (18288 + T * 2) large, reads));
        untouched = λ r e. cc;
        sound = λ e. opened-sound;
        holds = λ others e again. let same : rules ≡ others = cc in rw same at opened-holds;
        past = opened-past;
        long = long;
      }

-- ---- a refused opening changes nothing

module _ (room book : List ℕ) (E T : ℕ) where
  opens-refused : (r : Refusal) → open_answer (length room) book E T ≡ Err r → Opens room book E T (Err r) room
  opens-refused r e =
      let never : Err r ≡ counted 0 0 0 → ⊥ = λ q. cc in
      record {
        answered = sym e;
        untouched = λ n q. refl;
        sound = λ q. absurd (never q);
        holds = λ rules q. absurd (never q);
        past = refl;
        long = refl;
      }

  pub opens_unfit : limits_fit E T ≡ false → Opens room book E T (Err (refusal LimitsOutside 0)) room
  unfolding open_answer
  opens_unfit h = opens-refused (refusal LimitsOutside 0) (simp h)

  pub opens_small : limits_fit E T ≡ true → length room < formula E T → Opens room book E T (Err (refusal RoomTooShort 0)) room
  unfolding open_answer
  opens_small h short = opens-refused (refusal RoomTooShort 0) (simp (h, lt-ltb (length room) (18288 + T * 2) short))

  -- nor does the book's
  by_book : (r : Refusal) (b : BookRead) → Err r ≡ placed_of b → opened_by b ≡ Err r
  unfolding placed_of opened_by
  by_book r (accepted rules) e = cc
  by_book r (refused q) e = cc

  pub opens_not_read : limits_fit E T ≡ true → formula E T ≤ length room → (r : Refusal) → Err r ≡ placed_of (read_book book) → Opens room book E T (Err r) room
  unfolding open_answer
  opens_not_read h large r e = opens-refused r (simp (h, le-ltb (length room) (18288 + T * 2) large, by_book r (read_book book) e))

-- ---- what was found of a book: its rules, how many they and their conditions are, and their places

module _ (book : List ℕ) (found : Found) (e : Ok found ≡ placed_of (read_book book)) where
  abbrev rules : List Rule
  rules = (rules-read book found e).0

  reads : read_book book ≡ accepted rules
  reads = (rules-read book found e).1.0

  rules_are : found.size.rules ≡ length rules
  rules_are = ap (λ (f : Found). f.size.rules) (rules-read book found e).1.1

  conditions_are : found.size.conditions ≡ condition_count rules
  conditions_are = ap (λ (f : Found). f.size.conditions) (rules-read book found e).1.1

  places_are : found.places ≡ places_of rules
  places_are = ap (λ (f : Found). f.places) (rules-read book found e).1.1

  pub found-few : (found.size.rules ≤ 32) × (found.size.conditions ≤ 192)
  found-few =
      let kept = read_kept book rules reads in
      (omega (arith, kept.most, rules_are), omega (arith, condition_count_kept rules kept, conditions_are))

  pub found-opening : (room : List ℕ) (T : ℕ) → 18288 + T * 2 ≤ length room → Opening room book T found.places.rules found.places.counts found.places.conditions
  unfolding places_of
  found-opening room T large =
      let kept = read_kept book rules reads in
      record {
        large = large;
        short = (read-stands book rules reads).1;
        rules = rw places_are (length-padded 32 _ (omega (arith, length-rule_places 0 rules, kept.most)));
        counts = rw places_are (length-padded 32 _ (omega (arith, length-counts rules, kept.most)));
        conditions = rw places_are (length-padded 192 _ (omega (arith, length-condition_places 0 rules, condition_count_kept rules kept)));
      }

  pub opens-found : (room room' : List ℕ) (E T : ℕ) → limits_fit E T ≡ true → formula E T ≤ length room → length room' ≡ length room
      → cut 0 (widths T) room' ≡ opened E T book found.size.rules found.size.conditions found.places.rules found.places.counts found.places.conditions (cut 0 (widths T) room)
      → Opens room book E T (counted 0 0 0) room'
  unfolding places_of
  opens-found room room' E T fit large long written =
      opens-opened room room' book rules E T ((limits_fit_lem E T).0 fit) reads large long
      (written ∙ ap (λ (f : Found). opened E T book f.size.rules f.size.conditions f.places.rules f.places.counts f.places.conditions (cut 0 (widths T) room)) (rules-read book found e).1.1)
