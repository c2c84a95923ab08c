-- The index of a room: the stored book is accepted and its tables are those of its rules exactly if the places found in it stand in the room. Assumes nothing.
use Prim.Native.Nat.{ℕ, ◌+◌, ◌-◌, ◌*◌, ◌≤◌}
use mathlib.Core.Path.{◌≡◌, sym, ap, ◌∙◌}
use mathlib.Core.Bool.{false}
use mathlib.Core.List.{List}
use mathlib.Core.Logic.{◌↔◌}
use native.Mathlib.Omega.{arith}
use lib.ListN.{length, take, replicate, length-append}
use lib.Seq.{take_at}
use Rattle.std.specs.Prelude.{Ok, Err}
use Rattle.numbers.specs.BigEndian.{uint}
use Rattle.book.specs.declared.reader.Found.{Found}
use Rattle.book.specs.declared.refusal.Refusal.{Refusal}
use Rattle.book.specs.Rules.{Rule, condition_count, rule_places, condition_places, padded, places_of}
use Rattle.book.specs.Read.{read_book, accepted, placed_of, sized}
use Rattle.book.proofs.Growth.{length-rule_places, length-condition_places, counts, length-counts}
use Rattle.book.proofs.Limits.{read_kept, condition_count_kept}
use Rattle.book.proofs.Wordings.{rules-read}
use Rattle.room.specs.Broken.{broken}
use Rattle.room.specs.Parts.{part, twos}
use Rattle.room.specs.Layout.{head_number}
use Rattle.room.proofs.BrokenLaws.{head_number-at}
use Rattle.room.proofs.Large.{large-part}
use Rattle.room.proofs.TwosRead.{length-twos}
use Rattle.checking.specs.Checked.{Indexed, book_in}
use Rattle.checking.proofs.Numbers.{Bounds, bounds}

-- a list filled up with zeros has the list at its front
pub take-padded : (n m : ℕ) (l : List ℕ) → m ≡ length l → take m (padded n l) ≡ l
unfolding padded
take-padded n m l e = take_at l (replicate (n - length l) 0) m (sym e)

long-padded : (n m : ℕ) (l : List ℕ) → m ≡ length l → m ≤ length (padded n l)
unfolding padded
long-padded n m l e = omega (arith, length-append l (replicate (n - length l) 0))

-- how far the room reaches, and its book
pub room_large : (room : List ℕ) → broken room ≡ false → 18288 ≤ length room
room_large room h = (bounds room h).large

pub book_within : (room : List ℕ) → broken room ≡ false → 16 + uint 2 room 8 ≤ length room
book_within room h = let b = bounds room h in omega arith

-- the tables are long enough for the rules and conditions found
pub record Asked (room : List ℕ) (found : Found) : Type 0 where
  pub rule_places_are : (found.size.rules * 2 ≤ length (part room 8592 64)) × ((found.size.rules ≤ length found.places.rules) × (found.size.rules ≤ 192))
  pub rule_conditions_are : (found.size.rules ≤ length (part room 8656 32)) × (found.size.rules ≤ length found.places.counts)
  pub condition_places_are : (found.size.conditions * 2 ≤ length (part room 8208 384)) × ((found.size.conditions ≤ length found.places.conditions) × (found.size.conditions ≤ 192))

module _ (room : List ℕ) where
  -- the places found are those in the room, and as many as it says
  pub record Placing (found : Found) : Type 0 where
    pub rules : found.size.rules ≡ uint 2 room 10
    pub conditions : found.size.conditions ≡ uint 2 room 12
    pub rule_places_are : twos found.size.rules (part room 8592 64) ≡ take found.size.rules found.places.rules
    pub rule_conditions_are : take found.size.rules (part room 8656 32) ≡ take found.size.rules found.places.counts
    pub condition_places_are : twos found.size.conditions (part room 8208 384) ≡ take found.size.conditions found.places.conditions

  pub refused_index : (e : Refusal) → Err e ≡ placed_of (read_book (book_in room)) → Indexed room → ⊥
  unfolding placed_of
  refused_index e w i = let h = rw i.reads at w in cc

  module _ (rules : List Rule) (reads : read_book (book_in room) ≡ accepted rules) (found : Found) (found_is : found ≡ record { size = sized rules; places = places_of rules }) where
    number : found.size.rules ≡ length rules
    number = ap (λ (f : Found). f.size.rules) found_is

    total : found.size.conditions ≡ condition_count rules
    total = ap (λ (f : Found). f.size.conditions) found_is

    rule_table : found.places.rules ≡ padded 32 (rule_places 0 rules)
    unfolding places_of
    rule_table = ap (λ (f : Found). f.places.rules) found_is

    count_table : found.places.counts ≡ padded 32 (counts rules)
    unfolding places_of
    count_table = ap (λ (f : Found). f.places.counts) found_is

    condition_table : found.places.conditions ≡ padded 192 (condition_places 0 rules)
    unfolding places_of
    condition_table = ap (λ (f : Found). f.places.conditions) found_is

    rule_front : take found.size.rules found.places.rules ≡ rule_places 0 rules
    rule_front = rw rule_table (take-padded 32 found.size.rules (rule_places 0 rules) (number ∙ sym (length-rule_places 0 rules)))

    count_front : take found.size.rules found.places.counts ≡ counts rules
    count_front = rw count_table (take-padded 32 found.size.rules (counts rules) (number ∙ sym (length-counts rules)))

    condition_front : take found.size.conditions found.places.conditions ≡ condition_places 0 rules
    condition_front = rw condition_table (take-padded 192 found.size.conditions (condition_places 0 rules) (total ∙ sym (length-condition_places 0 rules)))

    placing_indexed : Placing found → Indexed room
    placing_indexed t =
        let five : head_number room 5 ≡ found.size.rules = head_number-at room 5 (omega arith) ∙ sym t.rules in
        let six : head_number room 6 ≡ found.size.conditions = head_number-at room 6 (omega arith) ∙ sym t.conditions in
        record {
          rules = rules;
          reads = reads;
          rule_places_are = ap (λ (m : ℕ). twos m (part room 8592 64)) five ∙ t.rule_places_are ∙ rule_front;
          rule_conditions_are = ap (λ (m : ℕ). take m (part room 8656 32)) five ∙ t.rule_conditions_are ∙ count_front;
          condition_places_are = ap (λ (m : ℕ). twos m (part room 8208 384)) six ∙ t.condition_places_are ∙ condition_front;
        }

    indexed_placing : Indexed room → Placing found
    indexed_placing i =
        let both : accepted i.rules ≡ accepted rules = sym i.reads ∙ reads in
        let same : i.rules ≡ rules = cc in
        let places : twos (head_number room 5) (part room 8592 64) ≡ rule_places 0 rules = i.rule_places_are ∙ ap (rule_places 0) same in
        let firsts : twos (head_number room 6) (part room 8208 384) ≡ condition_places 0 rules = i.condition_places_are ∙ ap (condition_places 0) same in
        let five : found.size.rules ≡ head_number room 5 = number ∙ sym (length-rule_places 0 rules) ∙ sym (ap length places) ∙ length-twos (head_number room 5) (part room 8592 64) in
        let six : found.size.conditions ≡ head_number room 6 = total ∙ sym (length-condition_places 0 rules) ∙ sym (ap length firsts) ∙ length-twos (head_number room 6) (part room 8208 384) in
        record {
          rules = five ∙ head_number-at room 5 (omega arith);
          conditions = six ∙ head_number-at room 6 (omega arith);
          rule_places_are = ap (λ (m : ℕ). twos m (part room 8592 64)) five ∙ places ∙ sym rule_front;
          rule_conditions_are = ap (λ (m : ℕ). take m (part room 8656 32)) five ∙ i.rule_conditions_are ∙ ap counts same ∙ sym count_front;
          condition_places_are = ap (λ (m : ℕ). twos m (part room 8208 384)) six ∙ firsts ∙ sym condition_front;
        }

    -- what is asked for the tables to be compared
    placing_asked : Bounds room → Asked room found
    placing_asked b =
        let kept = read_kept (book_in room) rules reads in
        let few : found.size.rules ≤ 32 = omega (arith, number, kept.most) in
        let most : found.size.conditions ≤ 192 = omega (arith, total, condition_count_kept rules kept) in
        let long : (at w : ℕ) → at + w ≤ 18288 → length (part room at w) ≡ w = λ at w h. large-part room at w h b.large in
        let places : found.size.rules ≤ length found.places.rules = rw rule_table (long-padded 32 found.size.rules (rule_places 0 rules) (number ∙ sym (length-rule_places 0 rules))) in
        let numbers : found.size.rules ≤ length found.places.counts = rw count_table (long-padded 32 found.size.rules (counts rules) (number ∙ sym (length-counts rules))) in
        let firsts : found.size.conditions ≤ length found.places.conditions = rw condition_table (long-padded 192 found.size.conditions (condition_places 0 rules) (total ∙ sym (length-condition_places 0 rules))) in
        record {
          rule_places_are = (omega (arith, long 8592 64 (omega arith)), (places, omega arith));
          rule_conditions_are = (omega (arith, long 8656 32 (omega arith)), numbers);
          condition_places_are = (omega (arith, long 8208 384 (omega arith)), (firsts, most));
        }

  module _ (found : Found) (e : Ok found ≡ placed_of (read_book (book_in room))) where
    pub accepted_index : Indexed room ↔ Placing found
    accepted_index =
        let r = rules-read (book_in room) found e in
        (indexed_placing r.0 r.1.0 found r.1.1, placing_indexed r.0 r.1.0 found r.1.1)

    pub index_asked : Bounds room → Asked room found
    index_asked = let r = rules-read (book_in room) found e in placing_asked r.0 r.1.0 found r.1.1
