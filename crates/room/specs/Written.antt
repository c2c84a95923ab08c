-- A room written, part by part: opened, or after a step. Assumes nothing: these are definitions.
use Rattle.std.specs.Prelude.{ℕ, ◌+◌, ◌*◌, ◌≤◌, ◌≡◌, List, [], ◌∷◌, ◌++◌, length, take, replicate}
use Rattle.numbers.specs.BigEndian.{bytes}
use Rattle.numbers.specs.Spliced.{spliced}
use Rattle.reading.specs.declared.Reading.{Reading}
use Rattle.reading.specs.Reading.{reading_bytes}
use Rattle.room.specs.declared.write.Worked.{Worked}
use Rattle.room.specs.Parts.{below, twos_bytes}
use Rattle.room.specs.Layout.{head, book_part, condition_places_part, rule_places_part, rule_conditions_part, order_part, slots_part, rows_part, nodes_part, lasts_part, rest_part}

-- the parts of a room just opened, given the parts before: the book and its index, every slot free, nothing else; what holds nothing stays as it was
unfoldable pub opened : ℕ → ℕ → List ℕ → ℕ → ℕ → List ℕ → List ℕ → List ℕ → List (List ℕ) → List (List ℕ)
opened E T book rules conditions rule_places rule_conditions condition_places ps =
    twos_bytes (E ∷ T ∷ 0 ∷ 0 ∷ length book ∷ rules ∷ conditions ∷ 0 ∷ [])
    ∷ spliced (book_part ps) 0 book
    ∷ twos_bytes condition_places
    ∷ twos_bytes rule_places
    ∷ rule_conditions
    ∷ replicate 64 0
    ∷ replicate 64 0
    ∷ below 256
    ∷ slots_part ps
    ∷ rows_part ps
    ∷ nodes_part ps
    ∷ lasts_part ps
    ∷ rest_part ps
    ∷ []

-- what an opening asks of what it is lent
pub record Opening (room book : List ℕ) (T : ℕ) (rule_places rule_conditions condition_places : List ℕ) : Type 0 where
  pub large : 18288 + T * 2 ≤ length room
  pub short : length book ≤ 8192
  pub rules : length rule_places ≡ 32
  pub counts : length rule_conditions ≡ 32
  pub conditions : length condition_places ≡ 192

-- what a step has worked out aside: the readings and tokens counted, the tables of rules, the order of slots, nodes and last slots of the tokens
pub record Aside : Type 0 where
  pub readings : ℕ
  pub tokens : ℕ
  pub ends : List ℕ
  pub completes : List ℕ
  pub order : List ℕ
  pub nodes : List ℕ
  pub lasts : List ℕ

-- the same, of the slices in which the code hands it over
abbrev pub aside : Worked → Aside
aside w = record {
  readings = w.readings;
  tokens = w.tokens;
  ends = w.ends.now;
  completes = w.completes.now;
  order = w.order.now;
  nodes = w.nodes.now;
  lasts = w.lasts.now;
}

-- the parts of a room after a step, given the parts before, the slots' readings and their rows
unfoldable pub stepped : Aside → List ℕ → List ℕ → List (List ℕ) → List (List ℕ)
stepped s slots rows ps =
    spliced (head ps) 4 (bytes 2 s.readings ++ bytes 2 s.tokens)
    ∷ book_part ps
    ∷ condition_places_part ps
    ∷ rule_places_part ps
    ∷ rule_conditions_part ps
    ∷ twos_bytes s.ends
    ∷ twos_bytes s.completes
    ∷ s.order
    ∷ slots
    ∷ rows
    ∷ spliced (nodes_part ps) 0 (take s.tokens s.nodes)
    ∷ spliced (lasts_part ps) 0 (take s.tokens s.lasts)
    ∷ rest_part ps
    ∷ []

-- the parts of a room whose tables of rules, readings present and tokens are counted anew
unfoldable pub counted : ℕ → ℕ → List ℕ → List ℕ → List (List ℕ) → List (List ℕ)
counted readings tokens ends completes ps =
    spliced (head ps) 4 (bytes 2 readings ++ bytes 2 tokens)
    ∷ book_part ps
    ∷ condition_places_part ps
    ∷ rule_places_part ps
    ∷ rule_conditions_part ps
    ∷ twos_bytes ends
    ∷ twos_bytes completes
    ∷ order_part ps
    ∷ slots_part ps
    ∷ rows_part ps
    ∷ nodes_part ps
    ∷ lasts_part ps
    ∷ rest_part ps
    ∷ []

-- a reading and its row at a slot
abbrev pub slots_with : List (List ℕ) → ℕ → Reading → List ℕ
slots_with ps slot r = spliced (slots_part ps) (slot * 12) (reading_bytes r)

abbrev pub rows_with : List (List ℕ) → ℕ → List ℕ → List ℕ
rows_with ps slot row = spliced (rows_part ps) (slot * 24) row

-- what a step asks of what it is lent, in a room of T tokens
pub record Stepping (room : List ℕ) (T : ℕ) (s : Aside) : Type 0 where
  pub large : 18288 + T * 2 ≤ length room
  pub few : s.tokens ≤ T
  pub small : T ≤ 2048
  pub ends : length s.ends ≡ 32
  pub completes : length s.completes ≡ 32
  pub order : length s.order ≡ 256
  pub nodes : s.tokens ≤ length s.nodes
  pub lasts : s.tokens ≤ length s.lasts
