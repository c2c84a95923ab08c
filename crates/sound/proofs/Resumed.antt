-- A room after a step: its parts are those that were worked out aside and written, so that it is whole and holds what the definition says of the readings that are
-- then present. Assumes nothing.
use Prim.Native.Nat.{ℕ, zero, suc, ◌+◌, ◌*◌, ◌≤◌, ◌<◌}
use mathlib.Core.Path.{◌≡◌, refl, sym, ap, ap₂, ◌∙◌}
use mathlib.Core.Bool.{Bool, false}
use mathlib.Core.List.{List, [], ◌∷◌, ◌++◌, map, append-nil}
use native.Mathlib.Omega.{arith}
use lib.ListN.{length, take, drop, get_or, length-append, length-map, get_or-append}
use lib.Seq.{take_at}
use Rattle.numbers.specs.BigEndian.{uint, bytes}
use Rattle.numbers.specs.Spliced.{spliced}
use Rattle.numbers.proofs.Spliced.{spliced_front}
use Rattle.book.specs.Rules.{Rule, condition_count}
use Rattle.book.proofs.Growth.{length-rule_places}
use Rattle.reading.specs.declared.Reading.{Reading}
use Rattle.reading.specs.Reading.{reading_at}
use Rattle.matching.specs.Match.{token_count}
use Rattle.matching.specs.Complaints.{levels, pass_of, rule_complaints, book_count, complaints, memories}
use Rattle.room.specs.Parts.{part, cut, twos, twos_bytes}
use Rattle.room.specs.Layout.{widths, head_number, limit, parts, head, condition_places_part, rule_places_part, rule_conditions_part, ends_part, completes_part, nodes_part, lasts_part}
use Rattle.room.specs.Broken.{sum, broken}
use Rattle.room.specs.Held.{Stored, Held, Arranged, held, in_memory, stored, stored_of, slots_of}
use Rattle.room.specs.Written.{Aside, stepped}
use Rattle.room.proofs.BrokenLaws.{Whole, not_broken-whole, whole_not_broken}
use Rattle.room.proofs.Put.{length_part}
use Rattle.room.proofs.Twos.{uint-twos_bytes}
use Rattle.room.proofs.TwosRead.{length-twos, get_or-twos}
use Rattle.room.proofs.Written.{counted-readings, counted-tokens, counted-before, counted-after, parts-written}
use Rattle.weave.specs.Built.{nodes, lasts}
use Rattle.rete.specs.Rules.{rules_built}
use Rattle.checking.proofs.Fronts.{twos_front}
use Rattle.sound.specs.Sound.{Sound, held_of, tokens_held, ends_of, completes_of}
use Rattle.sound.proofs.Agree.{pass_slot, bits_agree}
use Rattle.sound.proofs.Next.{Next, slots_next}
use Rattle.sound.proofs.RoomBuilt.{room_memories, room_tokens}
use Rattle.sound.proofs.SoundLaws.{held_ext, held-sound, complaints-within}
use Rattle.sound.proofs.SoundRoom.{tests_in, nodes_long, lasts_long, counts_of, sound_kept, sound-tests, sound-counts}
use Rattle.sound.proofs.Stretches.{used-stored}
use Rattle.sound.proofs.Tables.{AtMost, places-counted}
use Rattle.sound.proofs.TokensBuilt.{Some, Agrees, rules_built-used, length-rules_built, ends_built_of, completes_built_of, complete_built_of}

-- ---- what is written from the start of a list on

front_spliced : (n : ℕ) (xs ys : List ℕ) → n ≡ length ys → take n (spliced xs 0 ys) ≡ ys
front_spliced n xs ys e = ap (take n) (spliced_front xs ys) ∙ take_at ys (drop (length ys) xs) n (sym e)

-- ---- the two planes of tokens

stored-planes : (l : List Stored) → stored (nodes l) (lasts l) ≡ l
unfolding stored
stored-planes [] = refl
stored-planes (t ∷ l) = ap (λ (m : List Stored). t ∷ m) (stored-planes l)

-- ---- the tables of rules: a number for each rule, which is at most the tokens

length-ends_of : (at : ℕ) (rules : List Rule) (R : List Reading) → length (ends_of at rules R) ≡ length rules
unfolding ends_of
length-ends_of at [] R = refl
length-ends_of at (rule ∷ rules) R = ap suc (length-ends_of (at + token_count R (pass_of rule) (levels rule)) rules R)

length-completes_of : (at : ℕ) (rules : List Rule) (R : List Reading) → length (completes_of at rules R) ≡ length rules
unfolding completes_of
length-completes_of at [] R = refl
length-completes_of at (rule ∷ rules) R = ap suc (length-completes_of (at + length (rule_complaints rule R)) rules R)

ends_of-most : (most at : ℕ) (rules : List Rule) (R : List Reading) → at + book_count rules R ≤ most → AtMost most (ends_of at rules R)
unfolding ends_of book_count
ends_of-most most at [] R h i = omega arith
ends_of-most most at (rule ∷ rules) R h zero = omega arith
ends_of-most most at (rule ∷ rules) R h (suc i) = ends_of-most most (at + token_count R (pass_of rule) (levels rule)) rules R (omega arith) i

completes_of-most : (most at : ℕ) (rules : List Rule) (R : List Reading) → Some rules → at + book_count rules R ≤ most → AtMost most (completes_of at rules R)
unfolding completes_of book_count
completes_of-most most at [] R some h i = omega arith
completes_of-most most at (rule ∷ rules) R some h zero = omega (arith, complaints-within rule R some.0)
completes_of-most most at (rule ∷ rules) R some h (suc i) =
    completes_of-most most (at + length (rule_complaints rule R)) rules R some.1 (omega (arith, complaints-within rule R some.0)) i

-- a table as it is written, over whatever stood there, and read back: only the numbers of the rules are read
table_read : (n : ℕ) (was xs l : List ℕ) → xs ≡ spliced was 0 l → n ≡ length l → AtMost 8192 l → twos n (twos_bytes xs) ≡ l
table_read n was xs l e long small =
    let behind : List ℕ = drop (length l) was in
    let is : xs ≡ l ++ behind = e ∙ spliced_front was l in
    let within : n ≤ length xs = omega (arith, ap length is, length-append l behind) in
    let own : (k : ℕ) → k < n → get_or xs k 0 ≡ get_or l k 0 = λ k h. ap (λ (z : List ℕ). get_or z k 0) is ∙ get_or-append l behind 0 k (omega arith) in
    (twos_front n (twos_bytes xs) xs within).1
    (λ k h. ap (λ (b : List ℕ). uint 2 b (k * 2)) (sym (append-nil (twos_bytes xs))) ∙ uint-twos_bytes xs [] k (omega arith) (omega (arith, small k, own k h)))
    ∙ ap (take n) e ∙ front_spliced n was l long

table_most : (n most : ℕ) (b l : List ℕ) → twos n b ≡ l → AtMost most l → (i : ℕ) → i < n → uint 2 b (i * 2) ≤ most
table_most n most b l e h i k = omega (arith, h i, get_or-twos n b i k, ap (λ (z : List ℕ). get_or z i 0) e)

-- ---- what a sound room says of its rules

module _ (room : List ℕ) (s : Sound room) where
  sound-rule-count : head_number room 5 ≡ length s.rules
  unfolding held held_of
  sound-rule-count =
      sym (length-twos (head_number room 5) (rule_places_part (parts room))) ∙ ap (λ (h : Held). length h.rule_places) s.holds ∙ length-rule_places 0 s.rules

  sound_condition_count : head_number room 6 ≡ condition_count s.rules
  unfolding held held_of
  sound_condition_count = places-counted (head_number room 6) (condition_places_part (parts room)) s.rules (ap (λ (h : Held). h.condition_places) s.holds)

-- ---- what was worked out aside

module _ (room room' : List ℕ) (s : Sound room) (a : Aside) (slots rows : List ℕ) (R : List Reading) (complete : ℕ) (next : Next room s a slots rows R complete) where
  abbrev os : List ℕ
  os = slots_next a

  abbrev read : ℕ → Reading
  read = reading_at slots

  abbrev pass : ℕ → List Reading → ℕ → Bool
  pass = pass_slot read (in_memory rows) (tests_in room)

  abbrev ks : List ℕ
  ks = counts_of room s

  abbrev made : List Stored
  made = rules_built os read pass 0 ks

  whole_before : Whole room
  whole_before = not_broken-whole room s.whole

  agrees : Agrees os read pass 0 s.rules
  agrees = bits_agree os read (in_memory rows) (tests_in room) 0 s.rules next.bits (sound-tests room s)

  some : Some s.rules
  some = (sound_kept room s).some

  length-made : length made ≡ book_count s.rules R
  length-made = length-rules_built os read pass 0 s.rules agrees ∙ ap (book_count s.rules) next.reads

  fits : length made ≤ limit room
  fits = omega (arith, length-made, next.fits)

  count : a.tokens ≡ length made
  count = omega (arith, next.told.planes.count (omega (arith, fits)))

  pub next-tokens : a.tokens ≡ book_count s.rules R
  next-tokens = count ∙ length-made

  pub next_complete : complete ≡ length (complaints s.rules R)
  next_complete = next.told.complete_is fits ∙ complete_built_of os read pass 0 s.rules some agrees ∙ ap (λ (l : List Reading). length (complaints s.rules l)) next.reads

  nodes-aside : take a.tokens a.nodes ≡ nodes made
  nodes-aside =
      ap (take a.tokens) (next.told.planes.nodes (omega (arith, fits)))
      ∙ front_spliced a.tokens next.ns (nodes made) (count ∙ sym (length-map made (λ t. t.node)))

  lasts-aside : take a.tokens a.lasts ≡ lasts made
  lasts-aside =
      ap (take a.tokens) (next.told.planes.lasts (omega (arith, fits)))
      ∙ front_spliced a.tokens next.ls (lasts made) (count ∙ sym (length-map made (λ t. t.last)))

  small : 0 + book_count s.rules R ≤ 8192
  small = let w : Whole room = whole_before in omega (arith, next.fits)

  ends-aside : twos (head_number room 5) (twos_bytes a.ends) ≡ ends_of 0 s.rules R
  ends-aside =
      let are : a.ends ≡ spliced next.es 0 (ends_of 0 s.rules R) =
      next.told.ends_are fits ∙ ap (spliced next.es 0) (ends_built_of os read pass 0 0 s.rules agrees ∙ ap (ends_of 0 s.rules) next.reads) in
      table_read (head_number room 5) next.es a.ends (ends_of 0 s.rules R) are (sound-rule-count room s ∙ sym (length-ends_of 0 s.rules R))
      (ends_of-most 8192 0 s.rules R small)

  completes-aside : twos (head_number room 5) (twos_bytes a.completes) ≡ completes_of 0 s.rules R
  completes-aside =
      let are : a.completes ≡ spliced next.ms 0 (completes_of 0 s.rules R) =
      next.told.completes_are fits ∙ ap (spliced next.ms 0) (completes_built_of os read pass 0 0 s.rules some agrees ∙ ap (completes_of 0 s.rules) next.reads) in
      table_read (head_number room 5) next.ms a.completes (completes_of 0 s.rules R) are (sound-rule-count room s ∙ sym (length-completes_of 0 s.rules R))
      (completes_of-most 8192 0 s.rules R some small)

  -- ---- written

  module _ (written : cut 0 (widths (limit room)) room' ≡ stepped a slots rows (parts room)) (long : length room' ≡ length room) where
    head-long : length (head (parts room)) ≡ 16
    head-long = length_part room 0 16 (omega (arith, whole_before.large))

    head-here : part room' 0 16 ≡ spliced (head (parts room)) 4 (bytes 2 a.readings ++ bytes 2 a.tokens)
    unfolding stepped
    head-here = ap (λ (ps : List (List ℕ)). head ps) written

    number : (k : ℕ) → head_number room' k ≡ uint 2 (spliced (head (parts room)) 4 (bytes 2 a.readings ++ bytes 2 a.tokens)) (k * 2)
    number k = ap (λ (h : List ℕ). uint 2 h (k * 2)) head-here

    before : (k : ℕ) → k < 2 → head_number room' k ≡ head_number room k
    before k l = number k ∙ counted-before (head (parts room)) a.readings a.tokens head-long k l

    after : (k : ℕ) → 4 ≤ k → head_number room' k ≡ head_number room k
    after k l = number k ∙ counted-after (head (parts room)) a.readings a.tokens head-long k l

    readings-here : head_number room' 2 ≡ a.readings
    readings-here =
        let w : Whole room = whole_before in
        number 2 ∙ counted-readings (head (parts room)) a.readings a.tokens head-long (omega (arith, next.few))

    tokens-here : head_number room' 3 ≡ a.tokens
    tokens-here =
        let w : Whole room = whole_before in
        number 3 ∙ counted-tokens (head (parts room)) a.readings a.tokens head-long (omega (arith, next-tokens, next.fits))

    parts-here : parts room' ≡ stepped a slots rows (parts room)
    unfolding stepped
    parts-here =
        parts-written (limit room) room' (stepped a slots rows (parts room)) written
        (counted-before (head (parts room)) a.readings a.tokens head-long 1 (omega arith))

    part-here : (k : ℕ) → get_or (parts room') k [] ≡ get_or (stepped a slots rows (parts room)) k []
    part-here k = ap (λ (ps : List (List ℕ)). get_or ps k []) parts-here

    rules-here : head_number room' 5 ≡ head_number room 5
    rules-here = after 5 (omega arith)

    counts-here : take (head_number room' 5) (rule_conditions_part (parts room')) ≡ ks
    unfolding stepped
    counts-here = ap₂ take rules-here (part-here 4) ∙ sound-counts room s

    slots-here : slots_of room' ≡ os
    unfolding stepped
    slots-here = ap₂ take readings-here (part-here 7)

    -- the first tokens of a plane
    plane : (was now from these : List ℕ) → now ≡ spliced was 0 (take a.tokens from) → take a.tokens from ≡ these → length these ≡ length made → take (head_number room' 3) now ≡ these
    plane was now from these e f l = ap₂ take tokens-here (e ∙ ap (spliced was 0) f) ∙ front_spliced a.tokens was these (count ∙ sym l)

    nodes-here : take (head_number room' 3) (nodes_part (parts room')) ≡ nodes made
    unfolding stepped
    nodes-here = plane (nodes_part (parts room)) (nodes_part (parts room')) a.nodes (nodes made) (part-here 10) nodes-aside (length-map made (λ t. t.node))

    lasts-here : take (head_number room' 3) (lasts_part (parts room')) ≡ lasts made
    unfolding stepped
    lasts-here = plane (lasts_part (parts room)) (lasts_part (parts room')) a.lasts (lasts made) (part-here 11) lasts-aside (length-map made (λ t. t.last))

    stored_here : stored_of room' ≡ made
    stored_here = ap₂ stored nodes-here lasts-here ∙ stored-planes made

    ends-here : twos (head_number room' 5) (ends_part (parts room')) ≡ ends_of 0 s.rules R
    unfolding stepped
    ends-here = ap₂ twos rules-here (part-here 5) ∙ ends-aside

    completes-here : twos (head_number room' 5) (completes_part (parts room')) ≡ completes_of 0 s.rules R
    unfolding stepped
    completes-here = ap₂ twos rules-here (part-here 6) ∙ completes-aside

    memories-here : (held room').memories ≡ memories s.rules R
    unfolding stepped
    memories-here =
        room_memories room' os slots s.rules slots-here (part-here 8) rows (part-here 9) (after 6 (omega arith) ∙ sound_condition_count room s) next.bits
        ∙ ap (memories s.rules) next.reads

    tokens-held : (held room').tokens ≡ tokens_held 0 s.rules R
    unfolding stepped
    tokens-held = room_tokens room' os slots s.rules slots-here (part-here 8) pass counts-here stored_here agrees ∙ ap (tokens_held 0 s.rules) next.reads

    pub next-holds : held room' ≡ held_of (held room).book s.rules (held room).E (held room).T R
    unfolding held held_of stepped
    next-holds =
        held_ext (held room') (held_of (held room).book s.rules (held room).E (held room).T R)
        (ap₂ take (after 4 (omega arith)) (part-here 1))
        (before 0 (omega arith))
        (before 1 (omega arith))
        (ap₂ twos rules-here (part-here 3) ∙ ap (λ (h : Held). h.rule_places) s.holds)
        counts-here
        (ap₂ twos (after 6 (omega arith)) (part-here 2) ∙ ap (λ (h : Held). h.condition_places) s.holds)
        ends-here
        completes-here
        (ap₂ (λ (sl l : List ℕ). map (reading_at sl) l) (part-here 8) slots-here ∙ next.reads)
        memories-here
        tokens-held

    whole_here : Whole room'
    unfolding stepped
    whole_here =
        let w : Whole room = whole_before in
        let E : head_number room' 0 ≡ head_number room 0 = before 0 (omega arith) in
        let T : head_number room' 1 ≡ head_number room 1 = before 1 (omega arith) in
        let table : part room' 8656 32 ≡ part room 8656 32 = part-here 4 in
        let most : 0 + book_count s.rules R ≤ head_number room' 3 = omega (arith, tokens-here, next-tokens) in
        record {
          large = omega arith;
          E_low = omega arith;
          E_high = omega arith;
          T_low = omega arith;
          T_high = omega arith;
          readings = omega (arith, readings-here, next.few);
          tokens = omega (arith, tokens-here, next-tokens, next.fits);
          book = omega (arith, after 4 (omega arith));
          rules = omega (arith, rules-here);
          conditions = omega (arith, after 6 (omega arith));
          zero = after 7 (omega arith) ∙ w.zero;
          counts = λ i h. rw table (w.counts i (omega (arith, rules-here)));
          total = ap sum (ap₂ take rules-here table) ∙ w.total ∙ sym (after 6 (omega arith));
          ends = table_most (head_number room' 5) (head_number room' 3) (ends_part (parts room')) (ends_of 0 s.rules R) ends-here (ends_of-most (head_number room' 3) 0 s.rules R most);
          completes = table_most (head_number room' 5) (head_number room' 3) (completes_part (parts room')) (completes_of 0 s.rules R) completes-here
              (completes_of-most (head_number room' 3) 0 s.rules R some most);
        }

    pub next-whole : broken room' ≡ false
    next-whole = whole_not_broken room' whole_here

    pub next-arranged : Arranged room'
    unfolding stepped
    next-arranged =
        record {
          once = rw (part-here 7) next.once;
          used = rw slots-here
              (used-stored os (head_number room' 3) (nodes_part (parts room')) (lasts_part (parts room')) (nodes_long room' whole_here) (lasts_long room' whole_here)
              (rw stored_here (rules_built-used os read pass 0 ks)));
        }

    pub next-sound : Sound room'
    next-sound = held-sound room' (held room).book s.rules (held room).E (held room).T R next-whole next-arranged s.reads next.ascending next-holds
