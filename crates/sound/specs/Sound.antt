-- What the definition says should be held, and a room that holds it. Assumes nothing: these are definitions.
use Rattle.std.specs.Prelude.{◌≡◌, ℕ, ◌+◌, ◌-◌, false, List, [], ◌∷◌, ◌++◌, map, length}
use Rattle.book.specs.Rules.{Rule, rule_places, condition_places}
use Rattle.book.specs.Read.{read_book, accepted}
use Rattle.matching.specs.Complaints.{levels, pass_of, memories, rule_tokens, rule_complaints}
use Rattle.matching.specs.Match.{token_count}
use Rattle.matching.specs.Order.{Less, Sorted}
use Rattle.matching.specs.Step.{State}
use Rattle.reading.specs.declared.Reading.{Reading}
use Rattle.reading.specs.Reading.{is_less}
use Rattle.room.specs.Broken.{broken}
use Rattle.room.specs.Held.{Token, Held, Arranged, held}

-- the tokens of a rule whose first condition has the number `base` in the book: "a match of a rule's first k conditions" ends in its condition k - 1
unfoldable pub rule_held : ℕ → Rule → List Reading → List Token
rule_held base rule R = map (λ t. record { node = base + (length t - 1); readings = t }) (rule_tokens rule R)

-- those of all rules, rule after rule
unfoldable pub tokens_held : ℕ → List Rule → List Reading → List Token
tokens_held base [] R = []
tokens_held base (rule ∷ rules) R = rule_held base rule R ++ tokens_held (base + levels rule) rules R

-- for each rule the index after its last token, the first rule's tokens from `at` on
unfoldable pub ends_of : ℕ → List Rule → List Reading → List ℕ
ends_of at [] R = []
ends_of at (rule ∷ rules) R = (at + token_count R (pass_of rule) (levels rule)) ∷ ends_of (at + token_count R (pass_of rule) (levels rule)) rules R

-- for each rule the complete matches up to and with it, `at` before the first
unfoldable pub completes_of : ℕ → List Rule → List Reading → List ℕ
completes_of at [] R = []
completes_of at (rule ∷ rules) R = (at + length (rule_complaints rule R)) ∷ completes_of (at + length (rule_complaints rule R)) rules R

-- what a room with this book, limits and readings should hold: "exactly those that conjunctive match defines for the readings present"
unfoldable pub held_of : List ℕ → List Rule → ℕ → ℕ → List Reading → Held
held_of book rules E T R =
    record {
      book = book;
      E = E;
      T = T;
      rule_places = rule_places 0 rules;
      rule_conditions = map levels rules;
      condition_places = condition_places 0 rules;
      ends = ends_of 0 rules R;
      completes = completes_of 0 rules R;
      readings = R;
      memories = memories rules R;
      tokens = tokens_held 0 rules R;
    }

-- a room that is not broken, names no slot twice, has its readings ascending, and holds what the definition says of its own book, limits and readings
pub record Sound (room : List ℕ) : Type 0 where
  pub whole : broken room ≡ false
  pub arranged : Arranged room
  pub rules : List Rule
  pub reads : read_book (held room).book ≡ accepted rules
  pub ascending : Sorted (Less is_less) (held room).readings
  pub holds : held room ≡ held_of (held room).book rules (held room).E (held room).T (held room).readings

-- the state on values that a sound room is in
abbrev pub state_of : (room : List ℕ) → Sound room → State
state_of room s = record { book = s.rules; E = (held room).E; T = (held room).T; readings = (held room).readings }
