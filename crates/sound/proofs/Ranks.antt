-- The rank of a reading among those present, which ascend: how many stand first that come before it. Those before the rank come before the reading, those from it on do not;
-- so the reading is put in at its rank, and is present exactly when it stands there. Assumes nothing.
use Prim.Native.Nat.{ℕ, suc, ◌≤◌, ◌<◌}
use mathlib.Core.Path.{◌≡◌, refl, sym, ap, ◌∙◌}
use mathlib.Core.Bool.{Bool, true, false, cond, false≢true, and-eq-true_iff}
use mathlib.Core.Logic.{◌⊎◌, ⊎_elim}
use mathlib.Core.List.{List, [], ◌∷◌, ◌++◌, map, map-append}
use mathlib.Core.List.{Memᴰ}
use native.Mathlib.Omega.{arith}
use borrow.Author.Tests.{ltb-true, lt-ltb}
use lib.Dec.{ltb}
use lib.ListN.{length, take, drop, get_or, take-append-drop}
use lib.Seq.{length-take-le, get_or-take}
use Rattle.reading.specs.declared.Reading.{Reading}
use Rattle.reading.specs.Reading.{is_less, is_same, reading_at}
use Rattle.matching.specs.Order.{Less, Sorted, first, Each, inserted}
use Rattle.matching.specs.Preorder.{has}
use Rattle.matching.specs.Step.{present}
use Rattle.matching.proofs.Laws.Members.{mem_same}
use Rattle.matching.proofs.Laws.Orders.{inserted-at}
use Rattle.matching.proofs.Laws.ReadingOrder.{is_less-order, is_same-exact}
use Rattle.room.specs.Layout.{head_number, parts, order_part, slots_part}
use Rattle.room.specs.Held.{held, slots_of}
use Rattle.room.proofs.BrokenLaws.{agreed, Whole, not_broken-whole}
use Rattle.room.proofs.Put.{length_part}
use Rattle.row.specs.Row.{leading, lesser, stands_at}
use Rattle.row.proofs.OrderLaws.{mem_at, rank, leading_low, leading-high}
use Rattle.sound.specs.Sound.{Sound, state_of}
use Rattle.sound.proofs.SoundRoom.{read_in}

-- ---- slots whose readings ascend

module _ (slots : List ℕ) (w : Reading) where
  pub leading-inserted : (os : List ℕ) → Sorted (Less is_less) (map (reading_at slots) os)
      → inserted is_less w (map (reading_at slots) os) ≡ map (reading_at slots) (take (rank slots w os) os) ++ w ∷ map (reading_at slots) (drop (rank slots w os) os)
  leading-inserted os up =
      let low : List Reading = map (reading_at slots) (take (rank slots w os) os) in
      let high : List Reading = map (reading_at slots) (drop (rank slots w os) os) in
      let whole : map (reading_at slots) os ≡ low ++ high =
      ap (map (reading_at slots)) (sym (take-append-drop (rank slots w os) os)) ∙ map-append (reading_at slots) (take (rank slots w os) os) (drop (rank slots w os) os) in
      ap (inserted is_less w) whole ∙ inserted-at is_less w low high (leading_low slots w os) (leading-high slots w os up)

  -- w stands at its rank, where it stands at all
  leading_at : (os : List ℕ) → Sorted (Less is_less) (map (reading_at slots) os) → Memᴰ w (map (reading_at slots) os)
      → (rank slots w os < length os) × (reading_at slots (get_or os (rank slots w os) 0) ≡ w)
  unfolding leading
  leading_at [] up m = absurd (mathlib.Core.List.Memᴰ.not-nil m)
  leading_at (x ∷ os) (first f up) m = by (lesser slots w x) refl (leading_at os up) (mathlib.Core.List.Memᴰ.cases_cons m)
    where
      by : (b : Bool) → lesser slots w x ≡ b → (Memᴰ w (map (reading_at slots) os) → (rank slots w os < length os) × (reading_at slots (get_or os (rank slots w os) 0) ≡ w))
          → (w ≡ reading_at slots x) ⊎ Memᴰ w (map (reading_at slots) os)
          → (cond b (suc (rank slots w os)) 0 < suc (length os)) × (reading_at slots (get_or (x ∷ os) (cond b (suc (rank slots w os)) 0) 0) ≡ w)
      by true e h = ⊎_elim
          (λ (q : w ≡ reading_at slots x). absurd (is_less-order.irreflexive w (rw (← q) at e)))
          (λ i. let ih = h i in (omega (arith, ih.0), ih.1))
      by false e h = ⊎_elim
          (λ (q : w ≡ reading_at slots x). (omega arith, sym q))
          (λ i. absurd (false≢true (sym e ∙ f w i)))

  -- ---- the first n of an order

  module _ (order : List ℕ) (n : ℕ) where
    -- w is the reading at a place where it is found to stand
    pub stands-there : (p : ℕ) → stands_at order slots n p w ≡ true → (p < n) × (reading_at slots (get_or order p 0) ≡ w)
    stands-there p e =
        let both = (and-eq-true_iff (ltb p n) (is_same (reading_at slots (get_or order p 0)) w)).0 e in
        (ltb-true p n both.0, (is_same-exact (reading_at slots (get_or order p 0)) w).0 both.1)

    pub leading-present : n ≤ length order → Sorted (Less is_less) (map (reading_at slots) (take n order))
        → stands_at order slots n (rank slots w (take n order)) w ≡ has (is_same w) (map (reading_at slots) (take n order))
    leading-present long up =
        let os : List ℕ = take n order in
        let p : ℕ = rank slots w os in
        let found = mem_same is_same-exact w (map (reading_at slots) os) in
        agreed (stands_at order slots n p w) (has (is_same w) (map (reading_at slots) os)) (
          λ e.
              let at = stands-there p e in
              let within : p < length os = rw (length-take-le n order long) at.0 in
              let there : Memᴰ (get_or order p 0) os = rw (get_or-take n order p 0 at.0) at (mem_at os p 0 within) in
              found.1 (mathlib.Core.List.Memᴰ.cast (sym at.1) (mathlib.Core.List.Memᴰ.map (reading_at slots) there)),
          λ e.
              let at = leading_at os up (found.0 e) in
              let low : p < n = rw (length-take-le n order long) at at.0 in
              let here : reading_at slots (get_or order p 0) ≡ w = rw (get_or-take n order p 0 low) at at.1 in
              (and-eq-true_iff (ltb p n) (is_same (reading_at slots (get_or order p 0)) w)).1 (lt-ltb p n low, (is_same-exact (reading_at slots (get_or order p 0)) w).1 here),
        )

-- ---- a sound room

-- the rank of w among the readings present
abbrev pub rank_in : List ℕ → Reading → ℕ
rank_in room w = rank (slots_part (parts room)) w (slots_of room)

pub order_long : (room : List ℕ) → Sound room → length (order_part (parts room)) ≡ 256
order_long room s = let whole : Whole room = not_broken-whole room s.whole in length_part room 8816 256 (omega arith)

module _ (room : List ℕ) (s : Sound room) (w : Reading) where
  readings-few : head_number room 2 ≤ length (order_part (parts room))
  readings-few =
      let whole : Whole room = not_broken-whole room s.whole in
      omega (arith, order_long room s)

  pub rank_low : Each (λ r. is_less r w) true (map (read_in room) (take (rank_in room w) (slots_of room)))
  rank_low = leading_low (slots_part (parts room)) w (slots_of room)

  pub rank_high : Each (λ r. is_less r w) false (map (read_in room) (drop (rank_in room w) (slots_of room)))
  unfolding held
  rank_high = leading-high (slots_part (parts room)) w (slots_of room) s.ascending

  pub rank_inserted : inserted is_less w (held room).readings ≡ map (read_in room) (take (rank_in room w) (slots_of room)) ++ w ∷ map (read_in room) (drop (rank_in room w) (slots_of room))
  unfolding held
  rank_inserted = leading-inserted (slots_part (parts room)) w (slots_of room) s.ascending

  pub stands-present : stands_at (order_part (parts room)) (slots_part (parts room)) (head_number room 2) (rank_in room w) w ≡ present (state_of room s) w
  unfolding held
  stands-present = leading-present (slots_part (parts room)) w (order_part (parts room)) (head_number room 2) readings-few s.ascending
