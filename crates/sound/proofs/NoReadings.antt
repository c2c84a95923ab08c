-- What the definition says should be held of no readings: no token and no complete match, so that every index and number is 0, and every memory is empty.
-- Assumes nothing.
use Prim.Native.Nat.{ℕ, suc, ◌+◌, ◌<◌}
use mathlib.Core.Path.{◌≡◌, refl, ap, ap₂, ◌∙◌}
use mathlib.Core.List.{List, [], ◌∷◌, ◌++◌, map}
use native.Mathlib.Omega.{arith}
use lib.ListN.{length, replicate, replicate-append-replicate}
use Rattle.reading.specs.declared.Reading.{Reading}
use Rattle.book.specs.declared.record.Test.{Test}
use Rattle.book.specs.Rules.{Rule, condition_count}
use Rattle.book.specs.Limits.{All}
use Rattle.matching.specs.Lists.{concat_map, keep}
use Rattle.matching.specs.Match.{token_count}
use Rattle.matching.specs.Complaints.{levels, pass_of, memory, memories_from, memories, book_count, rule_complaints}
use Rattle.matching.proofs.Laws.Steps.{book_count-none}
use Rattle.sound.specs.Sound.{tokens_held, ends_of, completes_of}
use Rattle.sound.proofs.SoundLaws.{length-tokens_held, complaints-within}

-- ---- tokens and complete matches

token_count-none : (rule : Rule) → token_count [] (pass_of rule) (levels rule) ≡ 0
unfolding book_count
token_count-none rule = omega (arith, book_count-none (rule ∷ []))

pub ends_of-none : (at : ℕ) (rules : List Rule) → ends_of at rules [] ≡ replicate (length rules) at
unfolding ends_of
ends_of-none at [] = refl
ends_of-none at (rule ∷ rules) =
    let e : at + token_count [] (pass_of rule) (levels rule) ≡ at = omega (arith, token_count-none rule) in
    rw e (ap (λ (l : List ℕ). at ∷ l) (ends_of-none at rules))

pub completes_of-none : (at : ℕ) (rules : List Rule) → All (λ rule. 0 < length rule.conditions) rules → completes_of at rules [] ≡ replicate (length rules) at
unfolding completes_of
completes_of-none at [] s = refl
completes_of-none at (rule ∷ rules) s =
    let e : at + length (rule_complaints rule []) ≡ at = omega (arith, token_count-none rule, complaints-within rule [] s.0) in
    rw e (ap (λ (l : List ℕ). at ∷ l) (completes_of-none at rules s.1))

no_element : {A : Type 0} (l : List A) → length l ≡ 0 → l ≡ []
no_element [] h = refl
no_element (a ∷ l) h = absurd (omega arith)

pub tokens_held-none : (base : ℕ) (rules : List Rule) → tokens_held base rules [] ≡ []
tokens_held-none base rules = no_element (tokens_held base rules []) (length-tokens_held base rules [] ∙ book_count-none rules)

-- ---- memories

memories_from-none : (c : ℕ) (conditions : List (List Test)) → memories_from c conditions [] ≡ replicate (length conditions) []
unfolding memories_from memory keep concat_map
memories_from-none c [] = refl
memories_from-none c (tests ∷ conditions) = ap (λ (l : List (List Reading)). [] ∷ l) (memories_from-none (suc c) conditions)

pub memories-none : (rules : List Rule) → memories rules [] ≡ replicate (condition_count rules) []
unfolding memories concat_map condition_count
memories-none [] = refl
memories-none (rule ∷ rules) =
    ap₂ ◌++◌ (memories_from-none 0 rule.conditions) (memories-none rules)
    ∙ replicate-append-replicate (length rule.conditions) (condition_count rules) []

-- an empty memory for each of so many conditions
pub map-none : {A B : Type 0} (l : List A) → map (λ a. []) l ≡ replicate {A = List B} (length l) []
map-none [] = refl
map-none {A} {B} (a ∷ l) = ap (λ (m : List (List B)). [] ∷ m) (map-none l)
