-- A removal from a sound room, worked out aside: the order names no slot twice, so the slots but the one removed are those before it and those behind it, and what
-- is left of the readings and of the tokens is what the definition says of the readings without the removed one. Assumes nothing.
use Prim.Native.Nat.{ℕ, ◌+◌, ◌≤◌, ◌<◌}
use mathlib.Core.Path.{◌≡◌, refl, sym, ap, ap₂, ◌∙◌}
use mathlib.Core.Bool.{Bool}
use mathlib.Core.Logic.{inl}
use mathlib.Core.List.{List, ◌∷◌, ◌++◌, map, map-append, Memᴰ}
use native.Mathlib.Numerals.{add-one}
use native.Mathlib.Omega.{arith}
use borrow.Author.Tests.{eq-eqb, ne_eqb}
use lib.Dec.{eqb}
use lib.ListN.{length, take, drop, get_or, replicate, length-append, length-drop}
use lib.Seq.{split_at, take-take, get_or-take, length-take-le, length-slice}
use Rattle.book.specs.Rules.{Rule}
use Rattle.reading.specs.declared.Reading.{Reading}
use Rattle.reading.specs.Reading.{is_less, is_same}
use Rattle.matching.specs.Complaints.{book_count}
use Rattle.matching.specs.Order.{Less, Sorted, without}
use Rattle.matching.proofs.Laws.Complaints.{book_count-without}
use Rattle.matching.proofs.Laws.Lists.{omit-one}
use Rattle.matching.proofs.Laws.Members.{mem_keep}
use Rattle.matching.proofs.Laws.Orders.{without_split, without_sorted}
use Rattle.matching.proofs.Laws.ReadingOrder.{is_less-order, is_same-exact}
use Rattle.room.specs.Parts.{twos}
use Rattle.room.specs.Layout.{head_number, limit, parts, completes_part, order_part, slots_part, rows_part, nodes_part, lasts_part}
use Rattle.room.specs.Held.{Once, times, held, slots_of}
use Rattle.room.proofs.BrokenLaws.{Whole, not_broken-whole}
use Rattle.room.proofs.Order.{times-append}
use Rattle.rete.specs.Rules.{Told}
use Rattle.row.specs.Row.{moved_out}
use Rattle.rete.specs.Sift.{others}
use Rattle.row.proofs.OrderLaws.{take-moved_out, once-moved_out}
use Rattle.step.specs.Worked.{slot_in, counts_in, RemovedAt}
use Rattle.sound.specs.Sound.{Sound}
use Rattle.sound.proofs.Agree.{Bits, bits_either}
use Rattle.sound.proofs.Next.{Next, slots_next}
use Rattle.sound.proofs.Once.{times_mem, once-take}
use Rattle.sound.proofs.Ranks.{order_long}
use Rattle.sound.proofs.SoundRoom.{read_in, bit_in, pass_in, counts_of, sound-bits, sound-counts, sound-completes, sound_stretches, sound-count}

-- ---- a list that names no slot twice

-- without the slot between them, what stands before it and behind it
others_between : (s : ℕ) (a b : List ℕ) → Once (a ++ s ∷ b) → others s (a ++ s ∷ b) ≡ a ++ b
unfolding times
others_between s a b once =
    let here : times s (s ∷ b) ≡ 1 + times s b = rw (eq-eqb s s refl) in
    let none : times s (a ++ b) ≡ 0 = omega (arith, once s, times-append s a (s ∷ b), times-append s a b) in
    omit-one (λ x. eqb x s) a s b (eq-eqb s s refl) (λ x m. ne_eqb x s (λ (e : x ≡ s). omega (arith, rw e at (times_mem x (a ++ b) m))))

pub others-one : (os : List ℕ) (p : ℕ) → p < length os → Once os → others (get_or os p 0) os ≡ take p os ++ drop (p + 1) os
others-one os p low once =
    let split : os ≡ take p os ++ get_or os p 0 ∷ drop (p + 1) os = rw add-one (split_at os p 0 low) in
    ap (others (get_or os p 0)) split ∙ others_between (get_or os p 0) (take p os) (drop (p + 1) os) (rw (← split) once)

-- ---- a slot moved out of the order

length-moved_out : (l : List ℕ) (p n : ℕ) → p < n → n ≤ length l → length (moved_out l p n) ≡ length l
length-moved_out l p n low high =
    let kept : List ℕ = drop (p + 1) (take n l) in
    let gone : List ℕ = get_or l p 0 ∷ drop n l in
    omega (arith, length-append (take p l) (kept ++ gone), length-append kept gone, length-take-le p l (omega arith), length-slice (p + 1) n l high, length-drop n l)

-- ---- bits

-- of fewer slots
pub bits-fewer : (read : ℕ → Reading) (bit : ℕ → ℕ → Bool) (os os' : List ℕ) (c : ℕ) (rules : List Rule) → Bits os read bit c rules
    → ((t : ℕ) → Memᴰ t os' → Memᴰ t os) → Bits os' read bit c rules
bits-fewer read bit os os' c rules f fewer = bits_either read bit os' os os (λ t m. inl (fewer t m)) c rules f f

-- ---- the removal

module _ (room : List ℕ) (s : Sound room) (w : Reading) (p : ℕ) (low : p < head_number room 2) (is : read_in room (slot_in room p) ≡ w) where
  abbrev order : List ℕ
  order = order_part (parts room)

  abbrev os : List ℕ
  os = slots_of room

  abbrev slot : ℕ
  slot = slot_in room p

  -- what stands before the slot, and behind it
  abbrev before : List ℕ
  before = take p os

  abbrev after : List ℕ
  after = drop (p + 1) os

  whole : Whole room
  whole = not_broken-whole room s.whole

  within : head_number room 2 ≤ length order
  within = omega (arith, order_long room s, whole.readings, whole.E_high)

  slots_long : length os ≡ head_number room 2
  slots_long = length-take-le (head_number room 2) order within

  slot-here : get_or os p 0 ≡ slot
  slot-here = get_or-take (head_number room 2) order p 0 low

  slots_split : os ≡ before ++ slot ∷ after
  slots_split = rw (add-one, ← slot-here) (split_at os p 0 (rw slots_long low))

  slots_left : others slot os ≡ before ++ after
  slots_left = rw slot-here at (others-one os p (rw slots_long low) (once-take (head_number room 2) order s.arranged.once))

  -- the readings: w stands between those of the slots before it and behind it
  readings_split : (held room).readings ≡ map (read_in room) before ++ w ∷ map (read_in room) after
  unfolding held
  readings_split =
      ap (map (read_in room)) slots_split ∙ map-append (read_in room) before (slot ∷ after)
      ∙ ap (λ (r : Reading). map (read_in room) before ++ r ∷ map (read_in room) after) is

  readings_left : map (read_in room) (others slot os) ≡ without is_same w (held room).readings
  readings_left =
      let up : Sorted (Less is_less) (map (read_in room) before ++ w ∷ map (read_in room) after) = rw readings_split at s.ascending in
      ap (map (read_in room)) slots_left ∙ map-append (read_in room) before after
      ∙ sym (ap (without is_same w) readings_split ∙ without_split is_same-exact w (map (read_in room) before) (map (read_in room) after) is_less-order up)

  bits_left : Bits (others slot os) (read_in room) (bit_in room) 0 s.rules
  bits_left = bits-fewer (read_in room) (bit_in room) os (others slot os) 0 s.rules (sound-bits room s) (λ t m. ((mem_keep _ os).0 m).0)

  count_left : book_count s.rules (without is_same w (held room).readings) ≤ limit room
  count_left = omega (arith, sound-count room s, book_count-without w (held room).readings s.rules, whole.tokens)

  module _ {tokens complete : ℕ} {room' : List ℕ} (at : RemovedAt room p tokens complete room') where
    slots_after : slots_next at.aside ≡ others slot os
    slots_after =
        ap₂ take at.readings_are at.order_is ∙ take-moved_out order p (head_number room 2) low within
        ∙ ap (λ (l : List ℕ). l ++ after) (sym (take-take p (head_number room 2) order (omega arith))) ∙ sym slots_left

    told : Told (limit room) (others slot os) (read_in room) (pass_in room) (counts_of room s)
        (nodes_part (parts room)) (lasts_part (parts room)) (replicate 32 0) (twos 32 (completes_part (parts room))) tokens complete at.aside.nodes at.aside.lasts at.aside.ends at.aside.completes
    told =
        let counts : counts_in room ≡ counts_of room s = sound-counts room s in
        rw counts at (at.sifted.does os (read_in room) (pass_in room) (rw counts (sound_stretches room s)) (rw counts (sound-completes room s)))

    pub removing_next : Next room s at.aside (slots_part (parts room)) (rows_part (parts room)) (without is_same w (held room).readings) complete
    removing_next = record {
      order_long = ap length at.order_is ∙ length-moved_out order p (head_number room 2) low within ∙ order_long room s;
      once = rw at.order_is (once-moved_out order p (head_number room 2) low within s.arranged.once);
      few = omega (arith, at.readings_are, whole.readings);
      reads = ap (map (read_in room)) slots_after ∙ readings_left;
      ascending = without_sorted is_same w s.ascending;
      bits = rw slots_after bits_left;
      fits = count_left;
      ns = nodes_part (parts room);
      ls = lasts_part (parts room);
      es = replicate 32 0;
      ms = twos 32 (completes_part (parts room));
      told = rw (slots_after, at.tokens_are) told;
    }
