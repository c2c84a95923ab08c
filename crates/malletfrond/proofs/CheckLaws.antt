-- A room is sound exactly when it is not broken and passes what the check asks: its tables are those of its book, its order names no slot twice, its readings ascend,
-- each row has the bits that its reading tells, and its tokens are those that its rules build. So the check's yes is proved, and its no. Assumes nothing.
use Prim.Native.Nat.{ℕ}
use mathlib.Core.Path.{◌≡◌, refl, sym, ap, ◌∙◌, subst}
use mathlib.Core.Bool.{Bool, true, false, not, false≢true}
use mathlib.Core.Logic.{◌↔◌}
use mathlib.Core.List.{List, [], map}
use native.Mathlib.Nat.{zero-add}
use native.Mathlib.Omega.{arith}
use borrow.Author.Tests.{not-true, not-false}
use lib.Dec.{eqb}
use lib.ListN.{get_or}
use Rattle.book.specs.Rules.{condition_count}
use Rattle.book.specs.Stands.{conditions_of}
use Rattle.book.proofs.Limits.{read_kept}
use Rattle.matching.specs.Complaints.{levels}
use Rattle.room.specs.Layout.{head_number, parts, condition_places_part, order_part, slots_part, rows_part, nodes_part, lasts_part}
use Rattle.room.specs.Broken.{broken}
use Rattle.room.specs.Held.{Held, Once, Arranged, held, slots_of}
use Rattle.room.proofs.BrokenLaws.{agreed, Whole, not_broken-whole}
use Rattle.row.specs.Row.{book_flags}
use Rattle.rete.specs.Rules.{rules_built, ends_built, completes_built}
use Rattle.checking.specs.Checked.{book_in, counts_in, read_in, pass_in, Indexed, Rises, RowsAgree, Rebuilt}
use Rattle.sound.specs.Sound.{Sound, held_of}
use Rattle.malletfrond.specs.Promise.{Checks}
use Rattle.sound.proofs.Agree.{Bits, bits_ext, bits-same, bits_agree}
use Rattle.sound.proofs.Entries.{Entries}
use Rattle.sound.proofs.RoomBuilt.{room_memories, room_tokens}
use Rattle.sound.proofs.SoundLaws.{held_ext, held-sound}
use Rattle.sound.proofs.SoundRoom.{bit_in, tests_in, placed_tests, nodes_long, lasts_long, sound-bits, sound-counts, sound-tokens, sound-ends, sound-completes}
use Rattle.sound.proofs.Stretches.{used-stored}
use Rattle.sound.proofs.Tables.{places-counted}
use Rattle.sound.proofs.TokensBuilt.{Agrees, rules_built-used, ends_built_of, completes_built_of}
use Rattle.sound.proofs.Views.{book-bits}

module _ (room : List ℕ) where
  -- ---- a room whose tables are those of its book

  -- the bit of condition c that the reading at a slot tells, the rules having these numbers of conditions; and as the room says that they have
  abbrev flag_of : List ℕ → ℕ → ℕ → Bool
  flag_of ks c s = eqb (get_or (book_flags (book_in room) (condition_places_part (parts room)) (read_in room s) 0 ks) c 0) 1

  abbrev flag_in : ℕ → ℕ → Bool
  flag_in = flag_of (counts_in room)

  module _ (i : Indexed room) where
    indexed_tests : Entries [] (tests_in room) 0 (conditions_of i.rules)
    indexed_tests = placed_tests room i.rules i.reads i.condition_places_are

    indexed_conditions : head_number room 6 ≡ condition_count i.rules
    indexed_conditions = places-counted (head_number room 6) (condition_places_part (parts room)) i.rules i.condition_places_are

    indexed_flags : Bits (slots_of room) (read_in room) flag_in 0 i.rules
    indexed_flags =
        subst (λ (ks : List ℕ). Bits (slots_of room) (read_in room) (flag_of ks) 0 i.rules) (sym i.rule_conditions_are)
        (book-bits (book_in room) (condition_places_part (parts room)) (slots_of room) (read_in room) i.rules indexed_tests)

  -- ---- a sound room passes

  module _ (s : Sound room) where
    pub sound_indexed : Indexed room
    unfolding held held_of
    sound_indexed =
        record {
          rules = s.rules;
          reads = s.reads;
          rule_places_are = ap (λ (h : Held). h.rule_places) s.holds;
          rule_conditions_are = sound-counts room s;
          condition_places_are = ap (λ (h : Held). h.condition_places) s.holds;
        }

    pub sound-rises : Rises room
    unfolding held
    sound-rises = s.ascending

    pub sound-rows : RowsAgree room
    unfolding sound_indexed
    sound-rows t m c l =
        rw (zero-add c) at
        (bits-same (slots_of room) (read_in room) (bit_in room) flag_in 0 s.rules (sound-bits room s) (indexed_flags sound_indexed) c t (omega (arith, indexed_conditions sound_indexed)) m)

    pub sound_rebuilt : Rebuilt room
    sound_rebuilt =
        let counts : map levels s.rules ≡ counts_in room = sym (sound-counts room s) in
        record {
          tokens_are = sound-tokens room s ∙ ap (rules_built (slots_of room) (read_in room) (pass_in room) 0) counts;
          ends_are = sound-ends room s ∙ ap (ends_built (slots_of room) (read_in room) (pass_in room) 0 0) counts;
          completes_are = sound-completes room s ∙ ap (completes_built (slots_of room) (read_in room) (pass_in room) 0 0) counts;
        }

  -- ---- a room that passes is sound

  module _ (whole : broken room ≡ false) (i : Indexed room) (once : Once (order_part (parts room))) (rises : Rises room) (rows : RowsAgree room) where
    checked_bits : Bits (slots_of room) (read_in room) (bit_in room) 0 i.rules
    checked_bits =
        bits_ext (slots_of room) (read_in room) (read_in room) flag_in (bit_in room) (head_number room 6) (λ s m. refl) (λ c s l m. sym (rows s m c l)) 0 i.rules
        (omega (arith, indexed_conditions i)) (indexed_flags i)

    checked_agrees : Agrees (slots_of room) (read_in room) (pass_in room) 0 i.rules
    checked_agrees = bits_agree (slots_of room) (read_in room) (bit_in room) (tests_in room) 0 i.rules checked_bits (indexed_tests i)

    module _ (b : Rebuilt room) where
      checked_arranged : Arranged room
      checked_arranged =
          let w : Whole room = not_broken-whole room whole in
          record {
            once = once;
            used = used-stored (slots_of room) (head_number room 3) (nodes_part (parts room)) (lasts_part (parts room)) (nodes_long room w) (lasts_long room w)
                (rw b.tokens_are (rules_built-used (slots_of room) (read_in room) (pass_in room) 0 (counts_in room)));
          }

      checked_holds : held room ≡ held_of (book_in room) i.rules (head_number room 0) (head_number room 1) (map (read_in room) (slots_of room))
      unfolding held held_of
      checked_holds =
          let os : List ℕ = slots_of room in
          held_ext (held room) (held_of (book_in room) i.rules (head_number room 0) (head_number room 1) (map (read_in room) os))
          refl
          refl
          refl
          i.rule_places_are
          i.rule_conditions_are
          i.condition_places_are
          (b.ends_are ∙ ap (ends_built os (read_in room) (pass_in room) 0 0) i.rule_conditions_are ∙ ends_built_of os (read_in room) (pass_in room) 0 0 i.rules checked_agrees)
          (b.completes_are ∙ ap (completes_built os (read_in room) (pass_in room) 0 0) i.rule_conditions_are
          ∙ completes_built_of os (read_in room) (pass_in room) 0 0 i.rules (read_kept (book_in room) i.rules i.reads).some checked_agrees)
          refl
          (room_memories room os (slots_part (parts room)) i.rules refl refl (rows_part (parts room)) refl (indexed_conditions i) checked_bits)
          (room_tokens room os (slots_part (parts room)) i.rules refl refl (pass_in room) i.rule_conditions_are
          (b.tokens_are ∙ ap (rules_built os (read_in room) (pass_in room) 0) i.rule_conditions_are) checked_agrees)

      pub checked_sound : Sound room
      checked_sound =
          held-sound room (book_in room) i.rules (head_number room 0) (head_number room 1) (map (read_in room) (slots_of room)) whole checked_arranged i.reads rises checked_holds

  -- ---- the answer

  -- a yes so far says that the room has all that was asked, a no that it is not sound
  pub record Asked (asked : Bool) (P : Type 0) : Type 0 where
    pub yes : asked ≡ true → P
    pub no : asked ≡ false → Sound room → ⊥

  pub asked_whole : {b : Bool} → b ≡ broken room → Asked (not b) (broken room ≡ false)
  asked_whole {b} is = record { yes = λ e. sym is ∙ not-true b e; no = λ e s. false≢true (sym s.whole ∙ sym is ∙ not-false b e) }

  -- what a sound room has, asked after a yes; and not asked any more after a no
  pub asked_more : {a r v : Bool} {P Q : Type 0} → Asked a P → a ≡ true → (r ≡ true) ↔ Q → (Sound room → Q) → v ≡ r → Asked v (P × Q)
  asked_more before e asked has is =
      record {
        yes = λ t. (before.yes e, asked.0 (sym is ∙ t));
        no = λ f s. false≢true (sym f ∙ is ∙ asked.1 (has s));
      }

  pub asked_less : {a v : Bool} {P Q : Type 0} → Asked a P → a ≡ false → v ≡ a → Asked v Q
  asked_less before e is = record { yes = λ t. absurd (false≢true (sym e ∙ sym is ∙ t)); no = λ f. before.no e }

  pub checks_no : {a : Bool} {P : Type 0} → Asked a P → a ≡ false → Checks room a
  checks_no before e = record { exact = (λ t. absurd (false≢true (sym e ∙ t)), λ s. absurd (before.no e s)) }

  -- the tokens asked last: their answer is the check's
  pub checks_yes : {a r : Bool} → Asked a (((broken room ≡ false × Indexed room) × (Once (order_part (parts room)) × Rises room)) × RowsAgree room) → a ≡ true → (r ≡ true) ↔ Rebuilt room
      → Checks room r
  checks_yes before e built =
      let p = before.yes e in
      record { exact = (λ t. checked_sound p.0.0.0 p.0.0.1 p.0.1.0 p.0.1.1 p.1 (built.0 t), λ s. built.1 (sound_rebuilt s)) }

-- two answers that checking allows: of one room, whatever it holds; and of two sound rooms
pub checks_same : (room : List ℕ) (a b : Bool) → Checks room a → Checks room b → a ≡ b
checks_same room a b p q = agreed a b (λ e. q.exact.1 (p.exact.0 e), λ e. p.exact.1 (q.exact.0 e))

pub checks_sound_same : (room other : List ℕ) (a b : Bool) → Sound room → Sound other → Checks room a → Checks other b → a ≡ b
checks_sound_same room other a b s s' p q = p.exact.1 s ∙ sym (q.exact.1 s')
