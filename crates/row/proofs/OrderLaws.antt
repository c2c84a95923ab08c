-- Laws of an order of slots: the rank of a reading, which is how many stand first that come before it; a place of slots whose readings ascend is below the rank exactly
-- when its reading comes before; and the order with a slot put in or taken out, which names each slot as often as before. Assumes nothing.
use Prim.Native.Nat.{ℕ, zero, suc, ◌+◌, ◌-◌, ◌≤◌, ◌<◌}
use mathlib.Core.Path.{◌≡◌, refl, sym, ap, ◌∙◌}
use mathlib.Core.Bool.{Bool, true, false, cond, false≢true, not-eq-not}
use mathlib.Core.Logic.{⊎_elim}
use mathlib.Core.List.{List, [], ◌∷◌, ◌++◌, map, append_assoc}
use mathlib.Core.List.Memᴰ
use mathlib.Core.List.{Memᴰ}
use native.Mathlib.Numerals.{add-one}
use native.Mathlib.Omega.{arith}
use lib.ListN.{length, take, drop, get_or, set, length-append, length-drop, take-append-drop}
use lib.Seq.{drop-cons, drop-drop, take_at, take-suc, take-take, set_at, split_at, length-take-le, length-slice, get_or-take, get_or-drop}
use Rattle.std.proofs.lemmas.List.{get_or_default}
use Rattle.std.specs.List.Sorted.{IsPartitionPoint, IsPartitionedBy}
use borrow.Rule.Slice.PartMut.{put_mid}
use Rattle.numbers.specs.Spliced.{spliced}
use Rattle.reading.specs.declared.Reading.{Reading}
use Rattle.reading.specs.Reading.{is_less, reading_at}
use Rattle.matching.specs.Order.{Less, Sorted, first, Each}
use Rattle.matching.proofs.Laws.ReadingOrder.{is_less-order}
use Rattle.room.specs.Held.{times, Once}
use Rattle.room.proofs.Order.{times-append}
use Rattle.row.specs.Row.{leading, lesser, moved_in, moved_out}
use Rattle.weave.proofs.Grown.{le_or_lt}
use Rattle.weave.proofs.SplicedLaws.{length_stretch, stretch_up_to}

-- ---- lists

pub mem_at : {A : Type 0} (list : List A) (k : ℕ) (d : A) → k < length list → Memᴰ (get_or list k d) list
mem_at [] k d h = absurd (omega arith)
mem_at (x ∷ list) zero d h = Memᴰ.head refl
mem_at (x ∷ list) (suc k) d h = Memᴰ.tail (mem_at list k d (omega arith))

-- ---- leading

pub leading-within : (p : ℕ → Bool) (l : List ℕ) → leading p l ≤ length l
unfolding leading
leading-within p [] = omega arith
leading-within p (s ∷ l) = by (p s) (leading-within p l)
  where
    by : (b : Bool) → leading p l ≤ length l → cond b (suc (leading p l)) 0 ≤ suc (length l)
    by true h = omega arith
    by false h = omega arith

-- ---- slots whose readings ascend

module _ (slots : List ℕ) (w : Reading) where
  -- the rank of w among the readings at the slots os
  abbrev pub rank : List ℕ → ℕ
  rank os = leading (lesser slots w) os

  -- what does not come before w comes before nothing that does
  behind : (x : ℕ) (r : Reading) → is_less (reading_at slots x) w ≡ false → Less is_less (reading_at slots x) r → is_less r w ≡ false
  behind x r e h = not-eq-not.0 λ (q : is_less r w ≡ true). false≢true (sym e ∙ is_less-order.transitive (reading_at slots x) r w h q)

  pub leading_low : (os : List ℕ) → Each (λ r. is_less r w) true (map (reading_at slots) (take (rank os) os))
  unfolding leading
  leading_low [] = λ r m. absurd (Memᴰ.not-nil m)
  leading_low (x ∷ os) = by (lesser slots w x) refl (leading_low os)
    where
      by : (b : Bool) → lesser slots w x ≡ b → Each (λ r. is_less r w) true (map (reading_at slots) (take (rank os) os))
          → Each (λ r. is_less r w) true (map (reading_at slots) (take (cond b (suc (rank os)) 0) (x ∷ os)))
      by true e h r m = ⊎_elim (λ (q : r ≡ reading_at slots x). rw q e) (h r) (Memᴰ.cases_cons m)
      by false e h r m = absurd (Memᴰ.not-nil m)

  pub leading-high : (os : List ℕ) → Sorted (Less is_less) (map (reading_at slots) os) → Each (λ r. is_less r w) false (map (reading_at slots) (drop (rank os) os))
  unfolding leading
  leading-high [] up = λ r m. absurd (Memᴰ.not-nil m)
  leading-high (x ∷ os) (first f up) = by (lesser slots w x) refl (leading-high os up)
    where
      by : (b : Bool) → lesser slots w x ≡ b → Each (λ r. is_less r w) false (map (reading_at slots) (drop (rank os) os))
          → Each (λ r. is_less r w) false (map (reading_at slots) (drop (cond b (suc (rank os)) 0) (x ∷ os)))
      by true e h r m = h r m
      by false e h r m = ⊎_elim (λ (q : r ≡ reading_at slots x). rw q e) (λ i. behind x r e (f r i)) (Memᴰ.cases_cons m)

  -- a place whose reading comes before w is below the rank, and any other is not
  module _ (os : List ℕ) (k : ℕ) (h : k < length os) where
    pub leading-above : Sorted (Less is_less) (map (reading_at slots) os) → lesser slots w (get_or os k 0) ≡ true → k < rank os
    leading-above up e = ⊎_elim
        (λ (low : rank os ≤ k).
        let after : List ℕ = drop (rank os) os in
        let there : k - rank os < length after = omega (arith, length-drop (rank os) os) in
        let q : rank os + (k - rank os) ≡ k = omega arith in
        let at : get_or after (k - rank os) 0 ≡ get_or os k 0 = get_or-drop (rank os) os (k - rank os) 0 ∙ rw q in
        let not : lesser slots w (get_or after (k - rank os) 0) ≡ false = leading-high os up _ (Memᴰ.map (reading_at slots) (mem_at after (k - rank os) 0 there)) in
        absurd (false≢true (sym (rw at at not) ∙ e)))
        (λ high. high)
        (le_or_lt (rank os) k)

    pub leading-below : lesser slots w (get_or os k 0) ≡ false → rank os ≤ k
    leading-below e = ⊎_elim
        (λ low. low)
        (λ (high : k < rank os).
        let before : List ℕ = take (rank os) os in
        let there : k < length before = omega (arith, length-take-le (rank os) os (leading-within (lesser slots w) os)) in
        let is : lesser slots w (get_or before k 0) ≡ true = leading_low os _ (Memᴰ.map (reading_at slots) (mem_at before k 0 there)) in
        absurd (false≢true (sym e ∙ rw (get_or-take (rank os) os k 0 high) at is)))
        (le_or_lt (rank os) k)

-- ---- the rank as the place that parts the readings

module _ (slots : List ℕ) (w : Reading) (os : List ℕ) (up : Sorted (Less is_less) (map (reading_at slots) os)) where
  -- before one that comes before w stand only such
  pub parted-by : IsPartitionedBy (lesser slots w) os
  parted-by i j d h k e = by (lesser slots w (get_or os i d)) refl
    where
      by : (b : Bool) → lesser slots w (get_or os i d) ≡ b → lesser slots w (get_or os i d) ≡ true
      by true f = f
      by false f =
          let low = leading-below slots w os i (omega arith) (rw (get_or_default os i 0 d (omega arith)) f) in
          let high = leading-above slots w os j k up (rw (get_or_default os j 0 d k) e) in
          absurd (omega arith)

  -- so the place that parts them is the rank
  pub parted-rank : (i : ℕ) → i ≤ length os → IsPartitionPoint (λ y. lesser slots w y ≡ true) (λ y. lesser slots w y ≡ false) os i → i ≡ leading (lesser slots w) os
  parted-rank i h (before, behind) =
      let r : ℕ = rank slots w os in
      let all : r ≤ length os = leading-within (lesser slots w) os in
      ⊎_elim
      (λ (l : r ≤ i). ⊎_elim
      (λ (m : i ≤ r). omega arith)
      (λ (m : r < i). absurd (omega (arith, leading-above slots w os r (omega arith) up (before r 0 (omega arith) m))))
      (le_or_lt i r))
      (λ (l : i < r). absurd (omega (arith, leading-below slots w os i (omega arith) (behind i 0 (omega arith) (omega arith)))))
      (le_or_lt r i)

-- ---- an order written anew, and one written in place

-- the order as `put_in` writes it: a copy, the slots from p up to n moved up in it, and then the slot of n set before them
pub moved_in-set : (l : List ℕ) (p n : ℕ) → length l ≡ 256 → p ≤ n → n < 256
    → set (put_mid (p + 1) (n + 1 - (p + 1)) l (take (n - p) (drop p l))) p (get_or l n 0) ≡ moved_in l p n
moved_in-set l p n long low high =
    let v : ℕ = get_or l n 0 in
    let m : List ℕ = take (n - p) (drop p l) in
    let rest : drop (n + 1 - (p + 1)) (drop (p + 1) l) ≡ drop (n + 1) l =
    let e : p + 1 + (n + 1 - (p + 1)) ≡ n + 1 = omega arith in
    drop-drop (n + 1 - (p + 1)) (p + 1) l ∙ ap (λ (k : ℕ). drop k l) e in
    let front : take (p + 1) l ≡ take p l ++ get_or l p 0 ∷ [] = rw (add-one p, take-suc l p 0 (omega arith)) in
    let is : put_mid (p + 1) (n + 1 - (p + 1)) l m ≡ take p l ++ get_or l p 0 ∷ (m ++ drop (n + 1) l) =
    rw (rest, front) (append_assoc (take p l) (get_or l p 0 ∷ []) (m ++ drop (n + 1) l)) in
    ap (λ (x : List ℕ). set x p v) is
    ∙ set_at (take p l) (get_or l p 0) (m ++ drop (n + 1) l) v p (length-take-le p l (omega arith))
    ∙ rw (stretch_up_to l p n low (omega arith))

-- the order as `take_from` leaves it: the slots behind p moved down, and then the slot of p set behind them
pub moved_out-set : (l l1 : List ℕ) (p n : ℕ) → p < n → n ≤ length l → l1 ≡ spliced l p (take (n - 1 - p) (drop (p + 1) l)) → set l1 (n - 1) (get_or l p 0) ≡ moved_out l p n
unfolding spliced
moved_out-set l l1 p n low high e =
    let v : ℕ = get_or l p 0 in
    let m : List ℕ = take (n - 1 - p) (drop (p + 1) l) in
    let x : ℕ = get_or l (n - 1) 0 in
    let count : n - 1 - p ≡ n - (p + 1) = omega arith in
    let up : m ≡ drop (p + 1) (take n l) = ap (λ (k : ℕ). take k (drop (p + 1) l)) count ∙ stretch_up_to l (p + 1) n (omega arith) (omega arith) in
    let many : length m ≡ n - 1 - p = length_stretch l (p + 1) (n - 1 - p) (omega arith) in
    let rest : drop (p + length m) l ≡ x ∷ drop n l =
    let d : p + length m ≡ n - 1 = omega (arith, many) in
    let f : suc (n - 1) ≡ n = omega arith in
    ap (λ (k : ℕ). drop k l) d ∙ drop-cons l (n - 1) 0 (omega arith) ∙ ap (λ (k : ℕ). x ∷ drop k l) f in
    let long : length (take p l ++ m) ≡ n - 1 = omega (arith, many, length-append (take p l) m, length-take-le p l (omega arith)) in
    let is : l1 ≡ (take p l ++ m) ++ x ∷ drop n l = e ∙ rw rest (sym (append_assoc (take p l) m (x ∷ drop n l))) in
    ap (λ (z : List ℕ). set z (n - 1) v) is
    ∙ set_at (take p l ++ m) x (drop n l) v (n - 1) long
    ∙ append_assoc (take p l) m (v ∷ drop n l)
    ∙ ap (λ (z : List ℕ). take p l ++ (z ++ v ∷ drop n l)) up

-- ---- moved_in

module _ (l : List ℕ) (p n : ℕ) (low : p ≤ n) (high : n < length l) where
  pub take-moved_in : take (n + 1) (moved_in l p n) ≡ take p l ++ get_or l n 0 ∷ drop p (take n l)
  take-moved_in =
      let x = get_or l n 0 in
      let s = drop p (take n l) in
      let k : length (take p l ++ x ∷ s) ≡ n + 1 =
      omega (arith, length-append (take p l) (x ∷ s), length-take-le p l (omega arith), length-slice p n l (omega arith)) in
      ap (take (n + 1)) (sym (append_assoc (take p l) (x ∷ s) (drop (n + 1) l))) ∙ take_at (take p l ++ x ∷ s) (drop (n + 1) l) (n + 1) k

  pub times-moved_in : (s : ℕ) → times s (moved_in l p n) ≡ times s l
  times-moved_in s =
      let x = get_or l n 0 in
      let m = drop p (take n l) in
      let r = drop (n + 1) l in
      let a = times-append s (take p l) ((x ∷ []) ++ (m ++ r)) in
      let b = times-append s (x ∷ []) (m ++ r) in
      let d = times-append s m r in
      let e = times-append s (x ∷ []) r in
      let f = times-append s (take p (take n l)) m in
      let g = ap (times s) (take-append-drop p (take n l)) in
      let h = ap (times s) (take-take p n l low) in
      let i : times s l ≡ times s (take n l ++ x ∷ r) = ap (times s) (split_at l n 0 high) ∙ rw add-one in
      omega (arith, times-append s (take n l) (x ∷ r))

  pub once-moved_in : Once l → Once (moved_in l p n)
  once-moved_in o s = omega (arith, times-moved_in s, o s)

-- ---- moved_out

module _ (l : List ℕ) (p n : ℕ) (low : p < n) (high : n ≤ length l) where
  pub take-moved_out : take (n - 1) (moved_out l p n) ≡ take p l ++ drop (p + 1) (take n l)
  take-moved_out =
      let s = drop (p + 1) (take n l) in
      let r = get_or l p 0 ∷ drop n l in
      let k : length (take p l ++ s) ≡ n - 1 =
      omega (arith, length-append (take p l) s, length-take-le p l (omega arith), length-slice (p + 1) n l high) in
      ap (take (n - 1)) (sym (append_assoc (take p l) s r)) ∙ take_at (take p l ++ s) r (n - 1) k

  pub times-moved_out : (s : ℕ) → times s (moved_out l p n) ≡ times s l
  times-moved_out s =
      let x = get_or l p 0 in
      let m = drop (p + 1) (take n l) in
      let r = drop n l in
      let a = times-append s (take p l) (m ++ (x ∷ [] ++ r)) in
      let b = times-append s m (x ∷ [] ++ r) in
      let d = times-append s (x ∷ []) r in
      let e = times-append s (take p l) (x ∷ [] ++ m) in
      let f = times-append s (x ∷ []) m in
      let k : p < length (take n l) = rw (length-take-le n l high) low in
      let g : times s (take n l) ≡ times s (take p l ++ x ∷ m) =
      ap (times s) (split_at (take n l) p 0 k) ∙ rw (take-take p n l (omega arith), get_or-take n l p 0 low, add-one) in
      let h = times-append s (take n l) r in
      let i = ap (times s) (take-append-drop n l) in
      omega arith

  pub once-moved_out : Once l → Once (moved_out l p n)
  once-moved_out o s = omega (arith, times-moved_out s, o s)
