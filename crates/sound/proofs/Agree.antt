-- A slot passes a condition as its reading does, where the memories and the tests at the conditions' places are those of the rules: the memory says that the
-- tests which need no other condition pass, and the others are asked. Assumes nothing.
use Prim.Native.Nat.{ℕ, suc, ◌+◌, ◌-◌, ◌≤◌, ◌<◌}
use mathlib.Core.Path.{◌≡◌, refl, sym, ap, ap₂, ◌∙◌}
use mathlib.Core.Bool.{Bool, ◌&&◌}
use mathlib.Core.Logic.{◌⊎◌, ⊎_elim}
use mathlib.Core.List.{List, [], ◌∷◌, ◌++◌, map, Memᴰ}
use native.Mathlib.Omega.{arith}
use lib.ListN.{length, get_or, length-append}
use Rattle.book.specs.declared.record.Test.{Test}
use Rattle.book.specs.Rules.{Rule, condition_count}
use Rattle.book.specs.Stands.{conditions_of}
use Rattle.reading.specs.declared.Reading.{Reading}
use Rattle.matching.specs.Lists.{concat_map, keep}
use Rattle.matching.specs.Passes.{alpha, joins}
use Rattle.matching.specs.Complaints.{levels, tests_of, pass_of, memory, memories_from, memories}
use Rattle.matching.proofs.Laws.Alpha.{passes_all_split, get_or-memories_from}
use Rattle.room.specs.Held.{sifted}
use Rattle.room.specs.Parts.{below}
use Rattle.weave.proofs.Grown.{le_or_lt}
use Rattle.sound.proofs.Entries.{Entries, entries_left, entries_right, entries-append, map-entries}
use Rattle.sound.proofs.Slots.{Distinct, sifted-keep, keep-sifted}
use Rattle.sound.proofs.TokensBuilt.{Agrees}

-- ---- how many memories there are

length-memories_from : (c : ℕ) (conditions : List (List Test)) (R : List Reading) → length (memories_from c conditions R) ≡ length conditions
unfolding memories_from
length-memories_from c [] R = refl
length-memories_from c (tests ∷ conditions) R = rw (length-memories_from (suc c) conditions R)

length-memories : (rules : List Rule) (R : List Reading) → length (memories rules R) ≡ condition_count rules
unfolding memories concat_map condition_count
length-memories [] R = refl
length-memories (rule ∷ rules) R =
    length-append (memories_from 0 rule.conditions R) (memories rules R) ∙ ap₂ ◌+◌ (length-memories_from 0 rule.conditions R) (length-memories rules R)

-- ---- bits: whether a slot is in the memory of a condition

module _ (os : List ℕ) (read : ℕ → Reading) (bit : ℕ → ℕ → Bool) where
  -- the memory of condition c, as readings
  abbrev pub memory_at : ℕ → List Reading
  memory_at c = map read (sifted (bit c) os)

  -- the bits of the conditions of a rule say which readings pass the tests that need no other condition, the first condition being number c
  abbrev pub BitsOn : ℕ → Rule → Type 0
  BitsOn c rule = (j : ℕ) (s : ℕ) → j < levels rule → Memᴰ s os → bit (c + j) s ≡ alpha (tests_of rule j) j (read s)

  -- and those of all rules
  abbrev pub Bits : ℕ → List Rule → Type 0
  Bits c [] = Unit {0}
  Bits c (rule ∷ rules) = BitsOn c rule × Bits (c + levels rule) rules

  -- the memory of condition j of a rule
  get_or-memories : (rule : Rule) (j : ℕ) → j < levels rule → get_or (memories_from 0 rule.conditions (map read os)) j [] ≡ keep (alpha (tests_of rule j) j) (map read os)
  unfolding memory
  get_or-memories rule j h =
      let start : 0 + j ≡ j = omega arith in
      get_or-memories_from 0 rule.conditions (map read os) j h ∙ ap (λ (n : ℕ). keep (alpha (tests_of rule j) n) (map read os)) start

  module _ (c : ℕ) (rule : Rule) (rules : List Rule) (m : Entries [] memory_at c (memories_from 0 rule.conditions (map read os) ++ memories rules (map read os))) where
    here : (j : ℕ) → j < levels rule → memory_at (c + j) ≡ keep (alpha (tests_of rule j) j) (map read os)
    here j h =
        entries_left [] memory_at c (memories_from 0 rule.conditions (map read os)) (memories rules (map read os)) m j (rw (length-memories_from 0 rule.conditions (map read os)) h)
        ∙ get_or-memories rule j h

    later : Entries [] memory_at (c + levels rule) (memories rules (map read os))
    later =
        rw (length-memories_from 0 rule.conditions (map read os)) at (entries_right [] memory_at c (memories_from 0 rule.conditions (map read os)) (memories rules (map read os)) m)

  pub memories-bits : Distinct read os → (c : ℕ) (rules : List Rule) → Entries [] memory_at c (memories rules (map read os)) → Bits c rules
  unfolding memories concat_map
  memories-bits told c [] m = tt
  memories-bits told c (rule ∷ rules) m = (
    λ j s h i. sifted-keep read (bit (c + j)) (alpha (tests_of rule j) j) os told (here c rule rules m j h) s i,
    memories-bits told (c + levels rule) rules (later c rule rules m),
  )

  bits-memories : (c : ℕ) (rules : List Rule) → Bits c rules → Entries [] memory_at c (memories rules (map read os))
  unfolding memories concat_map
  bits-memories c [] b = λ n h. absurd (omega arith)
  bits-memories c (rule ∷ rules) b =
      entries-append [] memory_at c (memories_from 0 rule.conditions (map read os)) (memories rules (map read os))
      (λ j h.
      let k : j < levels rule = rw (length-memories_from 0 rule.conditions (map read os)) at h in
      keep-sifted read (bit (c + j)) (alpha (tests_of rule j) j) os (λ s i. b.0 j s k i) ∙ sym (get_or-memories rule j k))
      (rw (length-memories_from 0 rule.conditions (map read os)) (bits-memories (c + levels rule) rules b.1))

  -- the memories of all conditions, as a room holds them
  pub memories-held : (rules : List Rule) → Bits 0 rules → map memory_at (below (condition_count rules)) ≡ memories rules (map read os)
  memories-held rules b = rw (← length-memories rules (map read os)) (map-entries [] memory_at (memories rules (map read os)) (bits-memories 0 rules b))

-- of the slots of two lists, and of no others
pub bits_either : (read : ℕ → Reading) (bit : ℕ → ℕ → Bool) (os a b : List ℕ) → ((s : ℕ) → Memᴰ s os → Memᴰ s a ⊎ Memᴰ s b) → (c : ℕ) (rules : List Rule)
    → Bits a read bit c rules → Bits b read bit c rules → Bits os read bit c rules
bits_either read bit os a b h c [] f g = tt
bits_either read bit os a b h c (rule ∷ rules) f g =
    (λ j s l m. ⊎_elim (f.0 j s l) (g.0 j s l) (h s m), bits_either read bit os a b h (c + levels rule) rules f.1 g.1)

-- only the readings of the slots at hand matter, and their bits of the conditions at hand
pub bits_ext : (os : List ℕ) (read read' : ℕ → Reading) (bit bit' : ℕ → ℕ → Bool) (top : ℕ) → ((s : ℕ) → Memᴰ s os → read s ≡ read' s)
    → ((c s : ℕ) → c < top → Memᴰ s os → bit c s ≡ bit' c s) → (c : ℕ) (rules : List Rule) → c + condition_count rules ≤ top → Bits os read bit c rules → Bits os read' bit' c rules
unfolding condition_count
bits_ext os read read' bit bit' top same bits c [] h f = tt
bits_ext os read read' bit bit' top same bits c (rule ∷ rules) h f = (
  λ j s l m. sym (bits (c + j) s (omega arith) m) ∙ f.0 j s l m ∙ ap (alpha (tests_of rule j) j) (same s m),
  bits_ext os read read' bit bit' top same bits (c + levels rule) rules (omega arith) f.1,
)

-- the readings tell the bits: any two that do say the same of the slots and conditions at hand
pub bits-same : (os : List ℕ) (read : ℕ → Reading) (bit bit' : ℕ → ℕ → Bool) (c : ℕ) (rules : List Rule) → Bits os read bit c rules → Bits os read bit' c rules
    → (n s : ℕ) → n < condition_count rules → Memᴰ s os → bit (c + n) s ≡ bit' (c + n) s
unfolding condition_count
bits-same os read bit bit' c [] f g n s l m = absurd (omega arith)
bits-same os read bit bit' c (rule ∷ rules) f g n s l m = ⊎_elim
    (λ (h : levels rule ≤ n).
    let e : c + n ≡ c + levels rule + (n - levels rule) = omega arith in
    rw e (bits-same os read bit bit' (c + levels rule) rules f.1 g.1 (n - levels rule) s (omega arith) m))
    (λ (h : n < levels rule). f.0 n s h m ∙ sym (g.0 n s h m))
    (le_or_lt (levels rule) n)

-- ---- a slot passes as its reading does

-- whether the reading at a slot passes condition c after the readings t: it is in the memory, and the tests that name earlier conditions pass
abbrev pub pass_slot : (ℕ → Reading) → (ℕ → ℕ → Bool) → (ℕ → List Test) → ℕ → List Reading → ℕ → Bool
pass_slot read bit tests c t s = bit c s && joins (tests c) t (read s)

module _ (os : List ℕ) (read : ℕ → Reading) (bit : ℕ → ℕ → Bool) (tests : ℕ → List Test) where
  pub bits_agree : (c : ℕ) (rules : List Rule) → Bits os read bit c rules → Entries [] tests c (conditions_of rules) → Agrees os read (pass_slot read bit tests) c rules
  unfolding conditions_of pass_of
  bits_agree c [] b e = tt
  bits_agree c (rule ∷ rules) b e = (
    λ j t s h l i.
        rw (b.0 j s h i, entries_left [] tests c rule.conditions (conditions_of rules) e j h)
        (sym (passes_all_split (tests_of rule j) t (read s) ∙ ap (λ (n : ℕ). alpha (tests_of rule j) n (read s) && joins (tests_of rule j) t (read s)) l)),
    bits_agree (c + levels rule) rules b.1 (entries_right [] tests c rule.conditions (conditions_of rules) e),
  )
