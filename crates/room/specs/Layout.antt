-- The layout of a room, part after part: the table of docs/ROOM.md. Assumes nothing: these are definitions.
use Rattle.std.specs.Prelude.{ℕ, ◌+◌, ◌*◌, List, [], ◌∷◌, get_or}
use Rattle.numbers.specs.BigEndian.{uint}
use Rattle.room.specs.Parts.{part, cut}

-- the bytes needed for E readings and T tokens; E does not count: there is always room for 256
abbrev pub formula : ℕ → ℕ → ℕ
formula E T = 18288 + T * 2

-- header, book, places of conditions, places of rules, conditions of rules, ends of rules, complete matches up to and with each rule,
-- order, readings by slot, memories by slot, nodes of tokens, last slots of tokens
abbrev pub widths : ℕ → List ℕ
widths T = 16 ∷ 8192 ∷ 384 ∷ 64 ∷ 32 ∷ 64 ∷ 64 ∷ 256 ∷ 3072 ∷ 6144 ∷ T ∷ T ∷ []

-- number k of the header, two bytes each: E, T, readings present, tokens, length of the book, rules, conditions, and a 0
abbrev pub head_number : List ℕ → ℕ → ℕ
head_number room k = uint 2 (part room 0 16) (k * 2)

-- the token limit that a room says it was opened with
abbrev pub limit : List ℕ → ℕ
limit room = head_number room 1

-- a room's parts, and what stands past the formula
abbrev pub parts : List ℕ → List (List ℕ)
parts room = cut 0 (widths (limit room)) room

module _ (ps : List (List ℕ)) where
  abbrev pub head : List ℕ
  head = get_or ps 0 []

  abbrev pub book_part : List ℕ
  book_part = get_or ps 1 []

  abbrev pub condition_places_part : List ℕ
  condition_places_part = get_or ps 2 []

  abbrev pub rule_places_part : List ℕ
  rule_places_part = get_or ps 3 []

  abbrev pub rule_conditions_part : List ℕ
  rule_conditions_part = get_or ps 4 []

  abbrev pub ends_part : List ℕ
  ends_part = get_or ps 5 []

  abbrev pub completes_part : List ℕ
  completes_part = get_or ps 6 []

  abbrev pub order_part : List ℕ
  order_part = get_or ps 7 []

  abbrev pub slots_part : List ℕ
  slots_part = get_or ps 8 []

  abbrev pub rows_part : List ℕ
  rows_part = get_or ps 9 []

  abbrev pub nodes_part : List ℕ
  nodes_part = get_or ps 10 []

  abbrev pub lasts_part : List ℕ
  lasts_part = get_or ps 11 []

  abbrev pub rest_part : List ℕ
  rest_part = get_or ps 12 []
