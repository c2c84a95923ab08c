-- What is found in a sound room: its complete matches, read off its tokens rule after rule, are the complaints of the definition, and the record of a complaint's
-- rule lies in the stored book, with that rule's number and wording. Assumes nothing.
use Prim.Native.Nat.{ℕ, ◌+◌, ◌-◌, ◌*◌, ◌≤◌, ◌<◌}
use mathlib.Core.Path.{◌≡◌, refl, sym, ap, ap₂, ◌∙◌}
use mathlib.Core.Bool.{Bool, true}
use mathlib.Core.List.{◌++◌, List, [], ◌∷◌, map, map-map, map-append}
use native.Mathlib.Nat.{add-zero, zero-add}
use native.Mathlib.Omega.{arith}
use lib.Dec.{eqb}
use lib.ListN.{length, take, drop, get_or, length-map, length-take, length-drop, take-append-drop}
use lib.Seq.{drop-append-le, drop-drop, get_or-drop, get_or-take, take-append-le}
use Rattle.numbers.specs.BigEndian.{uint}
use Rattle.numbers.proofs.BigEndian.{uint_ext}
use Rattle.book.specs.Rules.{Rule, no_rule, rule_places}
use Rattle.book.proofs.Growth.{length-rule_places}
use Rattle.book.proofs.Offsets.{rule_places-numbers, rule_places_wordings, rule_places-within}
use Rattle.book.proofs.Stands.{read-stands}
use Rattle.reading.specs.declared.Reading.{Reading}
use Rattle.matching.specs.Complaints.{levels, Matched, matched_by, rule_complaints, complaints}
use Rattle.matching.specs.Lists.{concat_map, keep}
use Rattle.room.specs.Parts.{part, twos}
use Rattle.room.specs.Layout.{head_number, parts, rule_places_part}
use Rattle.room.specs.Held.{Held, held, slots_of}
use Rattle.room.proofs.TwosRead.{length-twos, get_or-twos}
use Rattle.rete.proofs.Decode.{at_node}
use Rattle.lines.specs.Found.{tokens_of, fulls, ComplaintAt}
use Rattle.step.specs.Worked.{book_in, counts_in}
use Rattle.sound.specs.Sound.{Sound, held_of}
use Rattle.malletfrond.specs.Answers.{complaint_at}
use Rattle.sound.proofs.Entries.{Entries, entries_right, get_d_map}
use Rattle.sound.proofs.SoundRoom.{read_in, pass_in, sound_kept, sound_agrees, sound-counts, sound_stretches, sound-completes}
use Rattle.sound.proofs.TokensBuilt.{Some, Agrees, full-built}

-- ---- the complete matches found are the complaints

-- a match found, with its rule
abbrev pub found_by : (ℕ → Rule) → ℕ × List Reading → Matched
found_by rule p = matched_by (rule p.0) p.1

-- of any rules, the first being number i and its first condition node c
pub fulls-rules : (os : List ℕ) (read : ℕ → Reading) (pass : ℕ → List Reading → ℕ → Bool) (rule : ℕ → Rule) (i c : ℕ) (rules : List Rule) → Some rules
    → Agrees os read pass c rules → Entries no_rule rule i rules → map (found_by rule) (fulls os read pass i c (map levels rules)) ≡ complaints rules (map read os)
unfolding fulls complaints concat_map
fulls-rules os read pass rule i c [] some a e = refl
fulls-rules os read pass rule i c (r ∷ rules) some a e =
    let full : List (ℕ × List Reading) = keep (λ t. eqb t.0 (c + levels r - 1)) (tokens_of os read pass (levels r) c) in
    let first : rule i ≡ r = rw (add-zero i) at (e 0 (omega arith)) in
    map-append (found_by rule) (map (λ t. (i, t.1)) full) (fulls os read pass (i + 1) (c + levels r) (map levels rules))
    ∙ ap₂ ◌++◌
    (map-map (found_by rule) (λ t. (i, t.1)) full ∙ ap (map (λ t. matched_by (rule i) t.1)) (full-built os read pass c r a.0 some.0)
    ∙ map-map (λ t. matched_by (rule i) t.1) (at_node c) (rule_complaints r (map read os)) ∙ ap (λ (x : Rule). map (matched_by x) (rule_complaints r (map read os))) first)
    (fulls-rules os read pass rule (i + 1) (c + levels r) rules some.1 a.1 (entries_right no_rule rule i (r ∷ []) rules e))

module _ (room : List ℕ) (s : Sound room) where
  -- rule r of the book, counted from 0, and the complaints of the definition
  abbrev pub rule_at : ℕ → Rule
  rule_at r = get_or s.rules r no_rule

  abbrev pub complaints_in : List Matched
  complaints_in = complaints s.rules (held room).readings

  pub fulls-complaints : map (found_by rule_at) (fulls (slots_of room) (read_in room) (pass_in room) 0 0 (counts_in room)) ≡ complaints_in
  unfolding held
  fulls-complaints =
      ap (λ (ks : List ℕ). map (found_by rule_at) (fulls (slots_of room) (read_in room) (pass_in room) 0 0 ks)) (sound-counts room s)
      ∙ fulls-rules (slots_of room) (read_in room) (pass_in room) rule_at 0 0 s.rules (sound_kept room s).some (sound_agrees room s) (λ n b. rw zero-add)

  pub found_complaint : (m : ℕ) (found : Bool) (rule count : ℕ) (readings : List Reading) → ComplaintAt room m found rule count readings
      → m < length complaints_in → (found ≡ true) × (complaint_at complaints_in m ≡ matched_by (rule_at rule) (take count readings))
  found_complaint m found rule count readings c h =
      let all : List (ℕ × List Reading) = fulls (slots_of room) (read_in room) (pass_in room) 0 0 (counts_in room) in
      let there : m < length all = omega (arith, ap length fulls-complaints, length-map all (found_by rule_at)) in
      let does = c.does (slots_of room) (pass_in room) (rw (sound-counts room s) (sound_stretches room s)) (rw (sound-counts room s) (sound-completes room s)) there in
      (does.0, ap (λ (l : List Matched). complaint_at l m) (sym fulls-complaints) ∙ get_d_map (found_by rule_at) all m (0, []) _ there ∙ sym (ap (found_by rule_at) does.1))

-- ---- the record of a rule, in the stored book

-- what stands whole in the first n of a list stands in the list
part-take : (l : List ℕ) (n a w : ℕ) → a + w ≤ length (take n l) → part (take n l) a w ≡ part l a w
part-take l n a w h =
    sym (ap (λ (x : List ℕ). part x a w) (sym (take-append-drop n l)) ∙ ap (take w) (drop-append-le a (take n l) (drop n l) (omega arith))
    ∙ take-append-le w (drop a (take n l)) (drop n l) (omega (arith, length-drop a (take n l))))

-- the book begins at byte 16 of the room
book-part : (room : List ℕ) (a w : ℕ) → a + w ≤ length (book_in room) → part (book_in room) a w ≡ part room (16 + a) w
book-part room a w h =
    let n : ℕ = head_number room 4 in
    let within : a + w ≤ length (part room 16 8192) = omega (arith, length-take n (part room 16 8192)) in
    part-take (part room 16 8192) n a w h ∙ part-take (drop 16 room) 8192 a w within ∙ ap (take w) (drop-drop a 16 room)

uint-part : (n : ℕ) (b : List ℕ) (a : ℕ) → uint n b a ≡ uint n (part b a n) 0
uint-part n b a =
    uint_ext n b a (part b a n) 0 λ k l. sym (get_or-take n (drop a b) (0 + k) 0 (omega arith) ∙ get_or-drop a b (0 + k) 0 ∙ ap (λ (j : ℕ). get_or b j 0) (omega arith))

book-uint : (room : List ℕ) (n a : ℕ) → a + n ≤ length (book_in room) → uint n (book_in room) a ≡ uint n room (16 + a)
book-uint room n a h = uint-part n (book_in room) a ∙ ap (λ (b : List ℕ). uint n b 0) (book-part room a n h) ∙ sym (uint-part n room (16 + a))

-- the record of rule `rule` of a sound room: it lies in the book's part of the room, and says the rule's number and wording
pub found_text : (room : List ℕ) (s : Sound room) (rule place : ℕ) → rule < head_number room 5 → place ≡ uint 2 (rule_places_part (parts room)) (rule * 2)
    → (16 + place + 27 ≤ 8208) × (uint 2 room (16 + place + 1) ≡ (rule_at room s rule).number)
    × (part room (16 + place + 3) 24 ≡ (rule_at room s rule).wording)
unfolding held held_of
found_text room s rule place h e =
    let book : List ℕ = book_in room in
    let n : ℕ = head_number room 5 in
    let places : List ℕ = rule_places 0 s.rules in
    let read = read-stands book s.rules s.reads in
    let placed : twos n (rule_places_part (parts room)) ≡ places = ap (λ (k : Held). k.rule_places) s.holds in
    let many : length places ≡ n = ap length (sym placed) ∙ length-twos n (rule_places_part (parts room)) in
    let rules : length places ≡ length s.rules = length-rule_places 0 s.rules in
    let at : get_or places rule 0 ≡ place = ap (λ (l : List ℕ). get_or l rule 0) (sym placed) ∙ get_or-twos n (rule_places_part (parts room)) rule h ∙ sym e in
    let within : place + 27 ≤ length book = omega (arith, at, rule_places-within book 0 s.rules read.0.stand rule (omega arith)) in
    let one : 16 + place + 1 ≡ 16 + (place + 1) = omega arith in
    let three : 16 + place + 3 ≡ 16 + (place + 3) = omega arith in
    let number : uint 2 book (place + 1) ≡ (rule_at room s rule).number =
    ap (λ (p : ℕ). uint 2 book (p + 1)) (sym at) ∙ sym (get_d_map (λ p. uint 2 book (p + 1)) places rule 0 0 (omega arith))
    ∙ ap (λ (l : List ℕ). get_or l rule 0) (rule_places-numbers book 0 s.rules read.0.stand) ∙ get_d_map (λ r. r.number) s.rules rule no_rule 0 (omega arith) in
    let wording : part book (place + 3) 24 ≡ (rule_at room s rule).wording =
    ap (λ (p : ℕ). part book (p + 3) 24) (sym at) ∙ sym (get_d_map (λ p. part book (p + 3) 24) places rule 0 [] (omega arith))
    ∙ ap (λ (l : List (List ℕ)). get_or l rule []) (rule_places_wordings book 0 s.rules read.0.stand) ∙ get_d_map (λ r. r.wording) s.rules rule no_rule [] (omega arith) in (
      omega (arith, within, read.1),
      ap (uint 2 room) one ∙ sym (book-uint room 2 (place + 1) (omega arith)) ∙ number,
      ap (λ (k : ℕ). part room k 24) three ∙ sym (book-part room (place + 3) 24 (omega arith)) ∙ wording,
    )
