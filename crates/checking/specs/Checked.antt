-- What is asked of a room that is not broken, so that it holds the memories and tokens of its readings and stored book. Assumes nothing: these are definitions.
use Rattle.std.specs.Prelude.{◌≡◌, ℕ, ◌*◌, ◌<◌, Bool, ◌&&◌, eqb, take, get_or}
use mathlib.Core.List.{List, map, Memᴰ}
use Rattle.numbers.specs.BigEndian.{uint}
use Rattle.book.specs.Rules.{Rule, rule_places, condition_places}
use Rattle.book.specs.Read.{read_book, accepted}
use Rattle.book.specs.Tests.{tests_at}
use Rattle.reading.specs.declared.Reading.{Reading}
use Rattle.reading.specs.Reading.{is_less, reading_at}
use Rattle.matching.specs.Complaints.{levels}
use Rattle.matching.specs.Order.{Less, Sorted}
use Rattle.matching.specs.Passes.{joins}
use Rattle.room.specs.Parts.{twos}
use Rattle.room.specs.Layout.{head_number, parts, book_part, condition_places_part, rule_places_part, rule_conditions_part, ends_part, completes_part, slots_part, rows_part}
use Rattle.room.specs.Held.{in_memory, slots_of, stored_of}
use Rattle.row.specs.Row.{book_flags}
use Rattle.rete.specs.Rules.{rules_built, ends_built, completes_built}

module _ (room : List ℕ) where
  -- the book that a room stores, and how many conditions each of its rules has
  abbrev pub book_in : List ℕ
  book_in = take (head_number room 4) (book_part (parts room))

  abbrev pub counts_in : List ℕ
  counts_in = take (head_number room 5) (rule_conditions_part (parts room))

  -- the reading at a slot, and whether the slot passes condition c after the readings t: it is in the memory, and the tests that name earlier conditions pass
  abbrev pub read_in : ℕ → Reading
  read_in s = reading_at (slots_part (parts room)) s

  abbrev pub pass_in : ℕ → List Reading → ℕ → Bool
  pass_in c t s = in_memory (rows_part (parts room)) c s && joins (tests_at book_in (uint 2 (condition_places_part (parts room)) (c * 2))) t (read_in s)

  -- the stored book is accepted, and the tables are those of its rules
  pub record Indexed : Type 0 where
    pub rules : List Rule
    pub reads : read_book book_in ≡ accepted rules
    pub rule_places_are : twos (head_number room 5) (rule_places_part (parts room)) ≡ rule_places 0 rules
    pub rule_conditions_are : counts_in ≡ map levels rules
    pub condition_places_are : twos (head_number room 6) (condition_places_part (parts room)) ≡ condition_places 0 rules

  -- the readings ascend
  abbrev pub Rises : Type 0
  Rises = Sorted (Less is_less) (map read_in (slots_of room))

  -- the row of each slot in use has the bits of the conditions whose own tests its reading passes
  abbrev pub RowsAgree : Type 0
  RowsAgree = (s : ℕ) → Memᴰ s (slots_of room) → (c : ℕ) → c < head_number room 6
      → in_memory (rows_part (parts room)) c s ≡ eqb (get_or (book_flags book_in (condition_places_part (parts room)) (read_in s) 0 counts_in) c 0) 1

  -- the stored tokens and the tables of rules are those that the rules build of the slots in use
  pub record Rebuilt : Type 0 where
    pub tokens_are : stored_of room ≡ rules_built (slots_of room) read_in pass_in 0 counts_in
    pub ends_are : twos (head_number room 5) (ends_part (parts room)) ≡ ends_built (slots_of room) read_in pass_in 0 0 counts_in
    pub completes_are : twos (head_number room 5) (completes_part (parts room)) ≡ completes_built (slots_of room) read_in pass_in 0 0 counts_in
