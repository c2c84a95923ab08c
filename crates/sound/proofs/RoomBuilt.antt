-- What a room holds whose bits are told by its readings and whose tokens are those that its rules build of its slots: the memories and tokens of the definition.
-- Assumes nothing.
use Prim.Native.Nat.{ℕ}
use mathlib.Core.Path.{◌≡◌, ap, ap₂, ◌∙◌}
use mathlib.Core.Bool.{Bool}
use mathlib.Core.List.{List, [], map}
use lib.ListN.{take}
use Rattle.book.specs.Rules.{Rule, condition_count}
use Rattle.reading.specs.declared.Reading.{Reading}
use Rattle.reading.specs.Reading.{reading_at}
use Rattle.matching.specs.Complaints.{levels, memories}
use Rattle.room.specs.Parts.{below}
use Rattle.room.specs.Layout.{head_number, parts, rule_conditions_part, slots_part, rows_part}
use Rattle.room.specs.Held.{Stored, held, level, sifted, in_memory, stored_of, slots_of, tokens_from}
use Rattle.rete.specs.Rules.{rules_built}
use Rattle.sound.specs.Sound.{tokens_held}
use Rattle.sound.proofs.Agree.{Bits, memories-held}
use Rattle.sound.proofs.Levels.{levelled_all}
use Rattle.sound.proofs.Stored.{as_token}
use Rattle.sound.proofs.TokensBuilt.{Agrees, rules_built-tokens}

module _ (room os slots : List ℕ) (rules : List Rule) (slots-in-use : slots_of room ≡ os) (slots-are : slots_part (parts room) ≡ slots) where
  pub room_memories : (rows : List ℕ) → rows_part (parts room) ≡ rows → head_number room 6 ≡ condition_count rules → Bits os (reading_at slots) (in_memory rows) 0 rules
      → (held room).memories ≡ memories rules (map (reading_at slots) os)
  unfolding held
  room_memories rows rows_are conditions bits =
      ap₂ (λ (sl ro : List ℕ). map (λ c. map (reading_at sl) (sifted (in_memory ro c) (slots_of room))) (below (head_number room 6))) slots-are rows_are
      ∙ ap₂ (λ (l : List ℕ) (n : ℕ). map (λ c. map (reading_at slots) (sifted (in_memory rows c) l)) (below n)) slots-in-use conditions
      ∙ memories-held os (reading_at slots) (in_memory rows) rules bits

  pub room_tokens : (pass : ℕ → List Reading → ℕ → Bool) → take (head_number room 5) (rule_conditions_part (parts room)) ≡ map levels rules
      → stored_of room ≡ rules_built os (reading_at slots) pass 0 (map levels rules) → Agrees os (reading_at slots) pass 0 rules
      → (held room).tokens ≡ tokens_held 0 rules (map (reading_at slots) os)
  unfolding held
  room_tokens pass counts tokens agrees =
      ap₂ (λ (l sl : List ℕ). map as_token (tokens_from (level l) (reading_at sl) [] (stored_of room))) counts slots-are
      ∙ ap (λ (l : List Stored). map as_token (tokens_from (level (map levels rules)) (reading_at slots) [] l)) tokens
      ∙ rules_built-tokens os (reading_at slots) pass (level (map levels rules)) 0 rules [] (levelled_all (map levels rules)) agrees
