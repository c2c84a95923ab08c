-- A sound room: what it holds is known by its book, its limits and its readings, and its counts are those of the definition.
-- Assumes nothing.
use Prim.Native.Nat.{ℕ, zero, suc, ◌+◌, ◌*◌, ◌-◌, ◌≤◌}
use mathlib.Core.Path.{◌≡◌, refl, sym, ap, ◌∙◌}
use mathlib.Core.Bool.{false, cond}
use mathlib.Core.List.{List, [], ◌∷◌, ◌++◌}
use native.Mathlib.Omega.{arith}
use borrow.Author.Tests.{ne_eqb}
use lib.Dec.{eqb}
use lib.ListN.{length, take, length-append, length-map}
use lib.Seq.{length-take-le}
use Rattle.numbers.specs.BigEndian.{uint}
use Rattle.reading.specs.declared.Reading.{Reading}
use Rattle.reading.specs.Reading.{is_less}
use Rattle.book.specs.Rules.{Rule, last_or}
use Rattle.book.specs.Read.{read_book, accepted}
use Rattle.book.proofs.Lasts.{last_or_snoc}
use Rattle.matching.specs.Lists.{concat_map}
use Rattle.matching.specs.Match.{matches, token_count}
use Rattle.matching.specs.Order.{Less, Sorted}
use Rattle.matching.specs.Complaints.{levels, pass_of, rule_complaints, book_count, complaints}
use Rattle.matching.proofs.Laws.Tokens.{length-rule_tokens}
use Rattle.room.specs.Parts.{twos}
use Rattle.room.specs.Layout.{head_number, limit, parts, completes_part, order_part, nodes_part, lasts_part}
use Rattle.room.specs.Broken.{broken}
use Rattle.room.specs.Held.{Stored, Held, Arranged, held, stored, tokens_from}
use Rattle.room.proofs.BrokenLaws.{Whole, not_broken-whole}
use Rattle.room.proofs.Put.{length_part}
use Rattle.sound.specs.Sound.{Sound, held_of, rule_held, tokens_held, completes_of}
use Rattle.room.specs.Held.{complete_of}

-- ---- the tokens that should be held are as many as the token count says

pub length-tokens_held : (base : ℕ) (rules : List Rule) (R : List Reading) → length (tokens_held base rules R) ≡ book_count rules R
unfolding tokens_held rule_held book_count
length-tokens_held base [] R = refl
length-tokens_held base (rule ∷ rules) R = rw (length-append, length-map, length-rule_tokens rule R, length-tokens_held (base + levels rule) rules R)

-- ---- the complete matches up to and with the last rule are all complaints

length-complaints : (rule : Rule) (rules : List Rule) (R : List Reading) → length (complaints (rule ∷ rules) R) ≡ length (rule_complaints rule R) + length (complaints rules R)
unfolding complaints concat_map
length-complaints rule rules R = rw (length-append, length-map)

-- complete matches are tokens
pub complaints-within : (rule : Rule) (R : List Reading) → 1 ≤ levels rule → length (rule_complaints rule R) ≤ token_count R (pass_of rule) (levels rule)
unfolding rule_complaints token_count
complaints-within rule R = by (levels rule) where
  by : (m : ℕ) → 1 ≤ m → length (matches R (pass_of rule) m) ≤ token_count R (pass_of rule) m
  by zero h = absurd (omega arith)
  by (suc m) h = omega arith

no_complaints : (R : List Reading) → length (complaints [] R) ≡ 0
unfolding complaints concat_map
no_complaints R = refl

pub last-completes_of : (at : ℕ) (rules : List Rule) (R : List Reading) → last_or at (completes_of at rules R) ≡ at + length (complaints rules R)
unfolding completes_of last_or
last-completes_of at [] R = omega (arith, no_complaints R)
last-completes_of at (rule ∷ rules) R = omega (arith, last-completes_of (at + length (rule_complaints rule R)) rules R, length-complaints rule rules R)

-- ---- what a room counts is what it holds

length-stored : (ns ls : List ℕ) → length ls ≡ length ns → length (stored ns ls) ≡ length ns
unfolding stored
length-stored [] ls e = refl
length-stored (n ∷ ns) [] e = absurd (omega arith)
length-stored (n ∷ ns) (s ∷ ls) e = ap suc (length-stored ns ls (omega arith))

length-tokens_from : {A : Type 0} (lv : ℕ → ℕ) (read : ℕ → A) (carried : List A) (ts : List Stored) → length (tokens_from lv read carried ts) ≡ length ts
unfolding tokens_from
length-tokens_from lv read carried [] = refl
length-tokens_from lv read carried (t ∷ ts) = ap suc (length-tokens_from lv read (take (lv t.node) carried ++ read t.last ∷ []) ts)

last-twos : (n : ℕ) (l : List ℕ) → last_or 0 (twos n l) ≡ cond (eqb n 0) 0 (uint 2 l ((n - 1) * 2))
unfolding twos last_or
last-twos zero l = refl
last-twos (suc n) l =
    let e : suc n - 1 ≡ n = omega arith in
    last_or_snoc 0 (twos n l) (uint 2 l (n * 2)) ∙ simp (e, ne_eqb (suc n) 0 (λ (q : suc n ≡ 0). omega arith))

module _ (room : List ℕ) (w : Whole room) where
  pub length-held-readings : length (held room).readings ≡ head_number room 2
  unfolding held
  length-held-readings = rw length-map (length-take-le (head_number room 2) (order_part (parts room)) (omega (arith, length_part room 8816 256 (omega arith))))

  pub length-held-tokens : length (held room).tokens ≡ head_number room 3
  unfolding held
  length-held-tokens =
      let T : ℕ = limit room in
      let t : ℕ = head_number room 3 in
      let ns : length (take t (nodes_part (parts room))) ≡ t = length-take-le t (nodes_part (parts room)) (omega (arith, length_part room 18288 T (omega arith))) in
      let ls : length (take t (lasts_part (parts room))) ≡ t = length-take-le t (lasts_part (parts room)) (omega (arith, length_part room (18288 + T) T (omega arith))) in
      simp (length-map, length-tokens_from) (length-stored _ _ (ls ∙ sym ns) ∙ ns)

pub complete_of-held : (room : List ℕ) → complete_of room ≡ last_or 0 (held room).completes
unfolding held complete_of
complete_of-held room = sym (last-twos (head_number room 5) (completes_part (parts room)))

-- ---- a sound room

-- what is held is known by its parts
pub held_ext : (h k : Held) → h.book ≡ k.book → h.E ≡ k.E → h.T ≡ k.T → h.rule_places ≡ k.rule_places → h.rule_conditions ≡ k.rule_conditions
    → h.condition_places ≡ k.condition_places → h.ends ≡ k.ends → h.completes ≡ k.completes → h.readings ≡ k.readings → h.memories ≡ k.memories
    → h.tokens ≡ k.tokens → h ≡ k
held_ext h k e1 e2 e3 e4 e5 e6 e7 e8 e9 e10 e11 = rw (e1, e2, e3, e4, e5, e6, e7, e8, e9, e10, e11)

-- what is known of it from what it holds
pub held-sound : (room book : List ℕ) (rules : List Rule) (E T : ℕ) (R : List Reading) → broken room ≡ false → Arranged room → read_book book ≡ accepted rules
    → Sorted (Less is_less) R → held room ≡ held_of book rules E T R → Sound room
unfolding held_of
held-sound room book rules E T R whole arranged reads ascending holds =
    let b : (held room).book ≡ book = ap (λ (h : Held). h.book) holds in
    let e : (held room).E ≡ E = ap (λ (h : Held). h.E) holds in
    let t : (held room).T ≡ T = ap (λ (h : Held). h.T) holds in
    let r : (held room).readings ≡ R = ap (λ (h : Held). h.readings) holds in
    let own : held_of (held room).book rules (held room).E (held room).T (held room).readings ≡ held_of book rules E T R = rw (b, e, t, r) in
    record {
      whole = whole;
      arranged = arranged;
      rules = rules;
      reads = rw b reads;
      ascending = rw r ascending;
      holds = holds ∙ sym own;
    }

-- its counts
module _ (room : List ℕ) (s : Sound room) where
  pub sound-tokens : head_number room 3 ≡ book_count s.rules (held room).readings
  unfolding held_of
  sound-tokens =
      sym (length-held-tokens room (not_broken-whole room s.whole))
      ∙ ap (λ (h : Held). length h.tokens) s.holds
      ∙ length-tokens_held 0 s.rules (held room).readings

  pub sound_complete : complete_of room ≡ length (complaints s.rules (held room).readings)
  unfolding held_of
  sound_complete =
      complete_of-held room
      ∙ ap (λ (h : Held). last_or 0 h.completes) s.holds
      ∙ omega (arith, last-completes_of 0 s.rules (held room).readings)

-- ---- two results are the same

-- two sound rooms with the same book have the same rules
pub sound-rules : (room other : List ℕ) (s : Sound room) (s' : Sound other) → (held room).book ≡ (held other).book → s.rules ≡ s'.rules
sound-rules room other s s' b =
    let e : accepted s.rules ≡ accepted s'.rules = sym s.reads ∙ ap read_book b ∙ s'.reads in
    cc

-- two sound rooms with the same book, limits and readings hold the same
pub sound-same : (room other : List ℕ) → Sound room → Sound other → (held room).book ≡ (held other).book → (held room).E ≡ (held other).E → (held room).T ≡ (held other).T
    → (held room).readings ≡ (held other).readings → held room ≡ held other
sound-same room other s s' b e t r =
    let rules : s.rules ≡ s'.rules = sound-rules room other s s' b in
    s.holds ∙ rw (rules, b, e, t, r) (sym s'.holds)
