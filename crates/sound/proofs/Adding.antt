-- A reading that is not present, put in at its rank at the first free slot: what the step works out aside is that of the readings with it, and where those have more
-- tokens than the limit the step counts one past it. Assumes nothing.
use Prim.Native.Nat.{ℕ, ◌+◌, ◌≤◌, ◌<◌}
use mathlib.Core.Path.{◌≡◌, refl, sym, ap, ap₂, ◌∙◌, subst}
use mathlib.Core.Bool.{false, false≢true}
use mathlib.Core.Logic.{◌⊎◌, inl, inr, ⊎_elim}
use mathlib.Core.List.{List, [], ◌∷◌, ◌++◌, map, map-append}
use mathlib.Core.List.Memᴰ
use mathlib.Core.List.{Memᴰ}
use native.Mathlib.Omega.{arith}
use borrow.Author.Tests.{eq-eqb}
use lib.ListN.{length, take, drop, get_or, length-append, length-drop, take-append-drop, replicate}
use lib.Seq.{take-take, length-take-le, length-slice}
use Rattle.book.specs.Rules.{condition_count}
use Rattle.book.proofs.Limits.{condition_count_kept}
use Rattle.reading.specs.declared.Reading.{Reading}
use Rattle.reading.specs.Reading.{is_less, reading_at}
use Rattle.matching.specs.Complaints.{book_count}
use Rattle.matching.specs.Order.{Less, Sorted, inserted}
use Rattle.matching.specs.Step.{present}
use Rattle.matching.proofs.Laws.Members.{mem_same}
use Rattle.matching.proofs.Laws.Orders.{inserted_sorted}
use Rattle.matching.proofs.Laws.ReadingOrder.{is_less-order, is_same-exact}
use Rattle.room.specs.Broken.{sum}
use Rattle.room.specs.Parts.{twos}
use Rattle.room.specs.Layout.{head_number, limit, parts, condition_places_part, ends_part, completes_part, order_part, slots_part, rows_part, nodes_part, lasts_part}
use Rattle.room.specs.Held.{held, in_memory, slots_of}
use Rattle.room.specs.Written.{slots_with, rows_with}
use Rattle.room.proofs.BrokenLaws.{Whole, not_broken-whole}
use Rattle.room.proofs.Put.{length_part}
use Rattle.row.specs.Row.{RowOf, book_flags, lesser, moved_in}
use Rattle.rete.specs.Rules.{rules_built, completes_built, Stretches, Told}
use Rattle.weave.specs.View.{read_of, bit_of, pass_of, read, pass}
use Rattle.weave.specs.Weave.{before, Woven}
use Rattle.row.proofs.OrderLaws.{leading-within, take-moved_in, once-moved_in}
use Rattle.step.specs.Worked.{book_in, counts_in, ends_in, fulls_in, slot_in, view_in, seen_in, AddedAt}
use Rattle.checking.proofs.Extent.{told_ext}
use Rattle.sound.specs.Sound.{Sound, state_of}
use Rattle.sound.proofs.Agree.{pass_slot, Bits, bits_ext}
use Rattle.sound.proofs.Next.{Next, slots_next}
use Rattle.sound.proofs.Once.{once-new}
use Rattle.sound.proofs.Ranks.{rank_in, order_long, rank_low, rank_high, rank_inserted}
use Rattle.sound.proofs.ReadBack.{Fits, read_back, bit_back}
use Rattle.sound.proofs.SoundRoom.{read_in, tests_in, counts_of, sound_kept, sound-bits, sound-tests, sound-counts, sound-completes, sound_stretches}
use Rattle.sound.proofs.Tables.{sum-counts}
use Rattle.sound.proofs.TokensBuilt.{Agrees, length-rules_built}
use Rattle.sound.proofs.Views.{seen_read, seen_stretches, seen-completes, seen-bits, seen_agrees}

-- ---- lists

-- only what f brings for the elements at hand matters
map_ext : {A B : Type 0} (f g : A → B) (l : List A) → ((a : A) → Memᴰ a l → f a ≡ g a) → map f l ≡ map g l
map_ext f g [] h = refl
map_ext f g (a ∷ l) h = ap₂ ◌∷◌ (h a (Memᴰ.head refl)) (map_ext f g l (λ b m. h b (Memᴰ.tail m)))

length-moved_in : (l : List ℕ) (p n : ℕ) → p ≤ n → n < length l → length (moved_in l p n) ≡ length l
length-moved_in l p n low high =
    let behind : List ℕ = drop (n + 1) l in
    let moved : List ℕ = drop p (take n l) in
    omega (
      arith,
      length-append (take p l) (get_or l n 0 ∷ (moved ++ behind)),
      length-append moved behind,
      length-take-le p l (omega arith),
      length-slice p n l (omega arith),
      length-drop (n + 1) l,
    )

-- ---- the order with the first free slot at the rank

-- the slots in use before the rank, and from it on
abbrev early : List ℕ → Reading → List ℕ
early room w = take (rank_in room w) (slots_of room)

abbrev late : List ℕ → Reading → List ℕ
late room w = drop (rank_in room w) (slots_of room)

-- the slots in use with the added one
abbrev order_with : List ℕ → Reading → List ℕ
order_with room w = early room w ++ slot_in room (head_number room 2) ∷ late room w

-- w is not present, and a slot is free
module _ (room : List ℕ) (s : Sound room) (w : Reading) (new : present (state_of room s) w ≡ false) (free : head_number room 2 < head_number room 0) where
  free_within : head_number room 2 < length (order_part (parts room))
  free_within =
      let whole : Whole room = not_broken-whole room s.whole in
      omega (arith, order_long room s)

  rank_within : rank_in room w ≤ head_number room 2
  rank_within =
      omega (
        arith,
        free_within,
        leading-within (lesser (slots_part (parts room)) w) (slots_of room),
        length-take-le (head_number room 2) (order_part (parts room)) (omega (arith, free_within)),
      )

  -- the first free slot is not in use
  slot-new : Memᴰ (slot_in room (head_number room 2)) (slots_of room) → ⊥
  slot-new = once-new (order_part (parts room)) (head_number room 2) s.arranged.once free_within

  order_with_lem : take (head_number room 2 + 1) (moved_in (order_part (parts room)) (rank_in room w) (head_number room 2)) ≡ order_with room w
  order_with_lem =
      take-moved_in (order_part (parts room)) (rank_in room w) (head_number room 2) rank_within free_within
      ∙ ap (λ (l : List ℕ). l ++ slot_in room (head_number room 2) ∷ late room w) (sym (take-take (rank_in room w) (head_number room 2) (order_part (parts room)) rank_within))

  early_in : (t : ℕ) → Memᴰ t (early room w) → Memᴰ t (slots_of room)
  early_in t m = subst (Memᴰ t) (take-append-drop (rank_in room w) (slots_of room)) (Memᴰ.append_left (late room w) m)

  late_in : (t : ℕ) → Memᴰ t (late room w) → Memᴰ t (slots_of room)
  late_in t m = subst (Memᴰ t) (take-append-drop (rank_in room w) (slots_of room)) (Memᴰ.append_right (early room w) m)

  -- each is the added one or in use
  in_either : (t : ℕ) → Memᴰ t (order_with room w) → Memᴰ t (slot_in room (head_number room 2) ∷ []) ⊎ Memᴰ t (slots_of room)
  in_either t m = ⊎_elim
      (λ i. inr (early_in t i))
      (λ i. ⊎_elim (λ (e : t ≡ slot_in room (head_number room 2)). inl (Memᴰ.head e)) (λ j. inr (late_in t j)) (Memᴰ.cases_cons i))
      (Memᴰ.append_cases (early room w) m)

  -- the readings with w ascend
  ascending_with : Sorted (Less is_less) (inserted is_less w (held room).readings)
  ascending_with = inserted_sorted is_less w is_less-order s.ascending λ m. false≢true (sym new ∙ (mem_same is_same-exact w (held room).readings).1 m)

  conditions-few : condition_count s.rules ≤ 192
  conditions-few = condition_count_kept s.rules (sound_kept room s)

  -- ---- what the step sees

  module _ (row : List ℕ) where
    read_in_use : (t : ℕ) → Memᴰ t (slots_of room) → read_in room t ≡ read_of (slots_part (parts room)) (view_in room w) t
    read_in_use = seen_read (book_in room) (condition_places_part (parts room)) (slots_part (parts room)) (rows_part (parts room)) row (view_in room w) (slots_of room) slot-new

    -- the readings that the step sees in order are those present with w
    order-reads : map (read_of (slots_part (parts room)) (view_in room w)) (order_with room w) ≡ inserted is_less w (held room).readings
    unfolding read_of
    order-reads =
        let sees : ℕ → Reading = read_of (slots_part (parts room)) (view_in room w) in
        let own : sees (slot_in room (head_number room 2)) ≡ w = rw (eq-eqb (slot_in room (head_number room 2)) (slot_in room (head_number room 2)) refl) in
        map-append sees (early room w) (slot_in room (head_number room 2) ∷ late room w)
        ∙ ap₂ ◌++◌ (map_ext sees (read_in room) (early room w) (λ t m. sym (read_in_use t (early_in t m))))
        (ap₂ ◌∷◌ own (map_ext sees (read_in room) (late room w) (λ t m. sym (read_in_use t (late_in t m)))))
        ∙ sym (rank_inserted room s w)

    order-woven : Woven (seen_in room row w) (order_with room w) (early room w) (late room w)
    unfolding before
    order-woven =
        record {
          ascends = rw order-reads ascending_with;
          whole = refl;
          low = λ t m. rw (← read_in_use t (early_in t m)) (rank_low room s w (read_in room t) (Memᴰ.map (read_in room) m));
          high = λ t m. rw (← read_in_use t (late_in t m)) (rank_high room s w (read_in room t) (Memᴰ.map (read_in room) m));
        }

    old_stretches : Stretches (nodes_part (parts room)) (lasts_part (parts room)) (early room w ++ late room w) (read (seen_in room row w)) (pass (seen_in room row w)) 0 0
        (ends_in room) (counts_in room)
    old_stretches =
        rw (take-append-drop (rank_in room w) (slots_of room), sound-counts room s)
        (seen_stretches (book_in room) (condition_places_part (parts room)) (slots_part (parts room)) (rows_part (parts room)) row (view_in room w) (slots_of room) slot-new
        (nodes_part (parts room)) (lasts_part (parts room)) (ends_in room) (counts_of room s) (sound_stretches room s))

    old_completes : fulls_in room ≡ completes_built (early room w ++ late room w) (read (seen_in room row w)) (pass (seen_in room row w)) 0 0 (counts_in room)
    old_completes =
        rw (take-append-drop (rank_in room w) (slots_of room), sound-counts room s)
        (sound-completes room s
        ∙ seen-completes (book_in room) (condition_places_part (parts room)) (slots_part (parts room)) (rows_part (parts room)) row (view_in room w) (slots_of room) slot-new (counts_of room s))

    module _ (made : RowOf row (book_flags (book_in room) (condition_places_part (parts room)) w 0 (counts_in room))) where
      order-bits : Bits (order_with room w) (read (seen_in room row w)) (bit_of (rows_part (parts room)) row (view_in room w)) 0 s.rules
      order-bits =
          seen-bits (book_in room) (condition_places_part (parts room)) (slots_part (parts room)) (rows_part (parts room)) row (view_in room w) (slots_of room) slot-new s.rules conditions-few
          (rw (sound-counts room s) at made) (sound-tests room s) (sound-bits room s) (order_with room w) in_either

      order_agrees : Agrees (order_with room w) (read (seen_in room row w)) (pass (seen_in room row w)) 0 s.rules
      order_agrees =
          seen_agrees (book_in room) (condition_places_part (parts room)) (slots_part (parts room)) (rows_part (parts room)) row (view_in room w) (order_with room w) s.rules
          order-bits (sound-tests room s)

      order-count : length (rules_built (order_with room w) (read (seen_in room row w)) (pass (seen_in room row w)) 0 (counts_of room s))
          ≡ book_count s.rules (inserted is_less w (held room).readings)
      order-count =
          length-rules_built (order_with room w) (read (seen_in room row w)) (pass (seen_in room row w)) 0 s.rules order_agrees ∙ ap (book_count s.rules) order-reads

  -- ---- what the step has worked out

  module _ {p : ℕ} (place : p ≡ rank_in room w) {tokens complete : ℕ} {room' : List ℕ} (added : AddedAt room p w tokens complete room') where
    order_moved : added.aside.order ≡ moved_in (order_part (parts room)) (rank_in room w) (head_number room 2)
    order_moved = added.order_is ∙ ap (λ (q : ℕ). moved_in (order_part (parts room)) q (head_number room 2)) place

    order-next : take (head_number room 2 + 1) added.aside.order ≡ order_with room w
    order-next = ap (take (head_number room 2 + 1)) order_moved ∙ order_with_lem

    told_seen : Told (limit room) (order_with room w) (read (seen_in room added.row w)) (pass (seen_in room added.row w)) (counts_of room s) (replicate 2048 0) (replicate 2048 0)
        (twos 32 (ends_part (parts room))) (twos 32 (completes_part (parts room))) tokens complete added.aside.nodes added.aside.lasts added.aside.ends added.aside.completes
    told_seen =
        rw (order-next, sound-counts room s) at
        (added.woven.does (early room w) (late room w) (rw order-next (order-woven added.row)) (old_stretches added.row) (old_completes added.row))

    pub adding_over : limit room < book_count s.rules (inserted is_less w (held room).readings) → tokens ≡ limit room + 1
    adding_over h = told_seen.planes.over (omega (arith, order-count added.row added.made))

    -- where four bytes hold each of w's numbers, what is written is read as the step saw it
    module _ (fits : Fits w) where
      next-read : (t : ℕ) → read_of (slots_part (parts room)) (view_in room w) t ≡ reading_at (slots_with (parts room) (slot_in room (head_number room 2)) w) t
      next-read t =
          let whole : Whole room = not_broken-whole room s.whole in
          let long : length (slots_part (parts room)) ≡ 3072 = length_part room 9072 3072 (omega arith) in
          sym (read_back (slots_part (parts room)) (view_in room w) fits (omega (arith, added.slot_small)) t)

      next_bit : (c t : ℕ) → c < 192 → bit_of (rows_part (parts room)) added.row (view_in room w) c t ≡ in_memory (rows_with (parts room) (slot_in room (head_number room 2)) added.row) c t
      next_bit c t few =
          let whole : Whole room = not_broken-whole room s.whole in
          let long : length (rows_part (parts room)) ≡ 6144 = length_part room 12144 6144 (omega arith) in
          sym (bit_back (rows_part (parts room)) added.row (view_in room w) added.made.long (omega (arith, added.slot_small)) c t few)

      pub adding_next : book_count s.rules (inserted is_less w (held room).readings) ≤ limit room
          → Next room s added.aside (slots_with (parts room) (slot_in room (head_number room 2)) w) (rows_with (parts room) (slot_in room (head_number room 2)) added.row)
          (inserted is_less w (held room).readings) complete
      unfolding pass_of
      adding_next few =
          let row : List ℕ = added.row in
          let slots : List ℕ = slots_with (parts room) (slot_in room (head_number room 2)) w in
          let rows : List ℕ = rows_with (parts room) (slot_in room (head_number room 2)) row in
          let sees : ℕ → Reading = read_of (slots_part (parts room)) (view_in room w) in
          let is : slots_next added.aside ≡ order_with room w = ap (λ (n : ℕ). take n added.aside.order) added.readings_are ∙ order-next in
          let total : sum (counts_of room s) ≤ 192 = omega (arith, sum-counts s.rules, conditions-few) in
          let bits : Bits (order_with room w) (reading_at slots) (in_memory rows) 0 s.rules =
          bits_ext (order_with room w) sees (reading_at slots) (bit_of (rows_part (parts room)) row (view_in room w)) (in_memory rows) 192 (λ t m. next-read t) (λ c t h m. next_bit c t h)
          0 s.rules (omega (arith, conditions-few)) (order-bits row added.made) in
          record {
            order_long = ap length order_moved ∙ length-moved_in (order_part (parts room)) (rank_in room w) (head_number room 2) rank_within free_within ∙ order_long room s;
            once = rw order_moved (once-moved_in (order_part (parts room)) (rank_in room w) (head_number room 2) rank_within free_within s.arranged.once);
            few = omega (arith, added.readings_are);
            reads = ap (map (reading_at slots)) is ∙ map_ext (reading_at slots) sees (order_with room w) (λ t m. sym (next-read t)) ∙ order-reads row;
            ascending = ascending_with;
            bits = rw is bits;
            fits = few;
            ns = replicate 2048 0;
            ls = replicate 2048 0;
            es = twos 32 (ends_part (parts room));
            ms = twos 32 (completes_part (parts room));
            told = rw (is, added.tokens_are)
                (told_ext (order_with room w) sees (reading_at slots) (pass (seen_in room row w)) (pass_slot (reading_at slots) (in_memory rows) (tests_in room)) (λ t m. next-read t) 192
                (λ c t x h m. rw (next_bit c x h, next-read x)) total told_seen);
          }
