-- What a sound room stores: its slots are told by their readings and pass as they do, so that its tokens are those that its rules build of its slots,
-- each rule's up to the index that the table says. Assumes nothing.
use Prim.Native.Nat.{ℕ, ◌+◌, ◌*◌, ◌≤◌}
use mathlib.Core.Path.{◌≡◌, sym, ap, ◌∙◌}
use mathlib.Core.Bool.{Bool}
use mathlib.Core.List.{List, [], map}
use native.Mathlib.Omega.{arith}
use lib.ListN.{length, take}
use Rattle.numbers.specs.BigEndian.{uint}
use Rattle.book.specs.declared.record.Test.{Test}
use Rattle.book.specs.Rules.{Rule, condition_places}
use Rattle.book.specs.Read.{read_book, accepted}
use Rattle.book.specs.Limits.{Kept}
use Rattle.book.specs.Stands.{conditions_of}
use Rattle.book.specs.Tests.{tests_at}
use Rattle.book.proofs.Limits.{read_kept}
use Rattle.book.proofs.Offsets.{condition_places-tests}
use Rattle.book.proofs.Stands.{read-stands}
use Rattle.reading.specs.declared.Reading.{Reading}
use Rattle.reading.specs.Reading.{reading_at}
use Rattle.matching.specs.Complaints.{levels, memories, book_count}
use Rattle.room.specs.Parts.{below, twos}
use Rattle.room.specs.Layout.{head_number, parts, condition_places_part, rule_conditions_part, ends_part, completes_part, slots_part, rows_part, nodes_part, lasts_part}
use Rattle.room.specs.Held.{Held, held, level, in_memory, slots_of, stored_of, tokens_from}
use Rattle.room.proofs.BrokenLaws.{Whole, not_broken-whole}
use Rattle.room.proofs.Order.{length-below, get_or-below}
use Rattle.room.proofs.Put.{length_part}
use Rattle.room.proofs.TwosRead.{length-twos, get_or-twos}
use Rattle.rete.specs.Rules.{rules_built, ends_built, completes_built, Stretches}
use Rattle.weave.proofs.Planes.{length-stored}
use Rattle.step.specs.Worked.{book_in}
use Rattle.sound.specs.Sound.{Sound, held_of, tokens_held}
use Rattle.sound.proofs.Agree.{memory_at, pass_slot, Bits, memories-bits, bits_agree}
use Rattle.sound.proofs.Entries.{Entries, entries-map}
use Rattle.sound.proofs.Levels.{levelled_all}
use Rattle.sound.proofs.Slots.{Distinct, read_injective}
use Rattle.sound.proofs.Stored.{as_token, as_token_injective, tokens_injective}
use Rattle.sound.proofs.Stretches.{stored-used, stretches_built}
use Rattle.sound.proofs.TokensBuilt.{Agrees, rules_built-tokens, rules_built-used, length-rules_built, ends_built_of, completes_built_of}

module _ (room : List ℕ) where
  -- the reading at a slot, its bit of condition c, and the tests of condition c, as the room says
  abbrev pub read_in : ℕ → Reading
  read_in s = reading_at (slots_part (parts room)) s

  abbrev pub bit_in : ℕ → ℕ → Bool
  bit_in c s = in_memory (rows_part (parts room)) c s

  abbrev pub tests_in : ℕ → List Test
  tests_in c = tests_at (book_in room) (uint 2 (condition_places_part (parts room)) (c * 2))

  abbrev pub pass_in : ℕ → List Reading → ℕ → Bool
  pass_in = pass_slot read_in bit_in tests_in

  -- the tests at the conditions' places are those of the rules
  pub placed_tests : (rules : List Rule) → read_book (book_in room) ≡ accepted rules → twos (head_number room 6) (condition_places_part (parts room)) ≡ condition_places 0 rules
      → Entries [] tests_in 0 (conditions_of rules)
  placed_tests rules reads placed =
      let n : ℕ = head_number room 6 in
      let places : List ℕ = condition_places_part (parts room) in
      entries-map [] (λ c. uint 2 places (c * 2)) (tests_at (book_in room)) (twos n places) (conditions_of rules)
      (λ k b. get_or-twos n places k (rw (length-twos n places) at b))
      (ap (map (tests_at (book_in room))) placed ∙ condition_places-tests (book_in room) rules (read-stands (book_in room) rules reads).0 (read_kept (book_in room) rules reads))

  -- both planes have place for the tokens
  module _ (w : Whole room) where
    pub nodes_long : head_number room 3 ≤ length (nodes_part (parts room))
    nodes_long = omega (arith, length_part room 18288 (head_number room 1) (omega arith))

    pub lasts_long : head_number room 3 ≤ length (lasts_part (parts room))
    lasts_long = omega (arith, length_part room (18288 + head_number room 1) (head_number room 1) (omega arith))

  module _ (s : Sound room) where
    -- how many conditions each rule has
    abbrev pub counts_of : List ℕ
    counts_of = map levels s.rules

    pub sound_told : Distinct read_in (slots_of room)
    unfolding held
    sound_told = read_injective read_in (slots_of room) s.ascending

    pub sound_kept : Kept s.rules
    unfolding held
    sound_kept = read_kept (book_in room) s.rules s.reads

    pub sound-bits : Bits (slots_of room) read_in bit_in 0 s.rules
    unfolding held held_of
    sound-bits =
        let n : ℕ = head_number room 6 in
        memories-bits (slots_of room) read_in bit_in sound_told 0 s.rules
        (entries-map [] (λ c. c) (memory_at (slots_of room) read_in bit_in) (below n) (memories s.rules (map read_in (slots_of room)))
        (λ k b. get_or-below n k (rw (length-below n) at b)) (ap (λ (h : Held). h.memories) s.holds))

    pub sound-tests : Entries [] tests_in 0 (conditions_of s.rules)
    unfolding held held_of
    sound-tests = placed_tests s.rules s.reads (ap (λ (h : Held). h.condition_places) s.holds)

    pub sound_agrees : Agrees (slots_of room) read_in pass_in 0 s.rules
    sound_agrees = bits_agree (slots_of room) read_in bit_in tests_in 0 s.rules sound-bits sound-tests

    pub sound-counts : take (head_number room 5) (rule_conditions_part (parts room)) ≡ counts_of
    unfolding held held_of
    sound-counts = ap (λ (h : Held). h.rule_conditions) s.holds

    pub sound-tokens : stored_of room ≡ rules_built (slots_of room) read_in pass_in 0 counts_of
    unfolding held held_of
    sound-tokens =
        let os : List ℕ = slots_of room in
        let n : ℕ = head_number room 3 in
        let holds : map as_token (tokens_from (level (take (head_number room 5) (rule_conditions_part (parts room)))) read_in [] (stored_of room)) ≡ tokens_held 0 s.rules (map read_in os) =
        ap (λ (h : Held). h.tokens) s.holds in
        let here : map as_token (tokens_from (level counts_of) read_in [] (stored_of room)) ≡ tokens_held 0 s.rules (map read_in os) =
        ap (λ (ks : List ℕ). map as_token (tokens_from (level ks) read_in [] (stored_of room))) (sym sound-counts) ∙ holds in
        let made : map as_token (tokens_from (level counts_of) read_in [] (rules_built os read_in pass_in 0 counts_of)) ≡ tokens_held 0 s.rules (map read_in os) =
        rules_built-tokens os read_in pass_in (level counts_of) 0 s.rules [] (levelled_all counts_of) sound_agrees in
        tokens_injective (level counts_of) read_in os sound_told [] (stored_of room) (rules_built os read_in pass_in 0 counts_of)
        (stored-used os n (nodes_part (parts room)) (lasts_part (parts room)) s.arranged.used) (rules_built-used os read_in pass_in 0 counts_of)
        (as_token_injective (tokens_from (level counts_of) read_in [] (stored_of room)) (tokens_from (level counts_of) read_in [] (rules_built os read_in pass_in 0 counts_of)) (here ∙ sym made))

    pub sound-ends : twos (head_number room 5) (ends_part (parts room)) ≡ ends_built (slots_of room) read_in pass_in 0 0 counts_of
    unfolding held held_of
    sound-ends = ap (λ (h : Held). h.ends) s.holds ∙ sym (ends_built_of (slots_of room) read_in pass_in 0 0 s.rules sound_agrees)

    pub sound-completes : twos (head_number room 5) (completes_part (parts room)) ≡ completes_built (slots_of room) read_in pass_in 0 0 counts_of
    unfolding held held_of
    sound-completes =
        ap (λ (h : Held). h.completes) s.holds ∙ sym (completes_built_of (slots_of room) read_in pass_in 0 0 s.rules sound_kept.some sound_agrees)

    pub sound_stretches : Stretches (nodes_part (parts room)) (lasts_part (parts room)) (slots_of room) read_in pass_in 0 0 (twos (head_number room 5) (ends_part (parts room))) counts_of
    sound_stretches =
        let w : Whole room = not_broken-whole room s.whole in
        rw sound-ends
        (stretches_built (nodes_part (parts room)) (lasts_part (parts room)) (slots_of room) read_in pass_in (head_number room 3) (nodes_long w) (lasts_long w) 0 0 counts_of (omega arith) sound-tokens)

    -- the tokens in the header are as many as the definition says
    pub sound-count : head_number room 3 ≡ book_count s.rules (held room).readings
    unfolding held
    sound-count =
        let w : Whole room = not_broken-whole room s.whole in
        sym (length-stored (head_number room 3) (nodes_part (parts room)) (lasts_part (parts room)) (nodes_long w) (lasts_long w)) ∙ ap length sound-tokens
        ∙ length-rules_built (slots_of room) read_in pass_in 0 s.rules sound_agrees
