-- Elements of a list, looked at one by one: the first n the same as those of another or all of one kind, and all ascending. Assumes nothing.
use Prim.Native.Nat.{ℕ, zero, suc, ◌+◌, ◌*◌, ◌≤◌, ◌<◌}
use mathlib.Core.Path.{◌≡◌, refl, sym, ap, ◌∙◌}
use mathlib.Core.Bool.{Bool, true, false, false≢true}
use mathlib.Core.List.{List, [], ◌∷◌, map, Memᴰ}
use mathlib.Core.Logic.{◌↔◌}
use native.Mathlib.Numerals.{add-one}
use native.Mathlib.Omega.{arith}
use lib.ListN.{length, take, get_or, get_or-map, length-map}
use lib.Seq.{ext_get_or, get_or-take, length-take-le}
use Rattle.std.specs.List.{IsAllAdjacentAnswer}
use Rattle.numbers.specs.BigEndian.{uint}
use Rattle.reading.specs.declared.Reading.{Reading}
use Rattle.reading.specs.Reading.{is_less}
use Rattle.matching.specs.Order.{Less, Sorted, nought, first, Rising, empty, single, step}
use Rattle.matching.proofs.Laws.Orders.{rising_sorted}
use Rattle.matching.proofs.Laws.ReadingOrder.{is_less-order}
use Rattle.room.specs.Parts.{twos}
use Rattle.room.proofs.TwosRead.{length-twos, get_or-twos}
use Rattle.checking.proofs.Answers.{yes, no}

-- ---- the same

pub twos_front : (n : ℕ) (table numbers : List ℕ) → n ≤ length numbers → (twos n table ≡ take n numbers) ↔ ((k : ℕ) → k < n → uint 2 table (k * 2) ≡ get_or numbers k 0)
twos_front n table numbers h =
    let long = length-twos n table in
    let as_long = length-take-le n numbers h in (
      λ e k l. sym (get_or-twos n table k l) ∙ ap (λ (s : List ℕ). get_or s k 0) e ∙ get_or-take n numbers k 0 l,
      λ each. ext_get_or 0 (twos n table) (take n numbers) (long ∙ sym as_long) λ k l.
          let m : k < n = omega arith in get_or-twos n table k m ∙ each k m ∙ sym (get_or-take n numbers k 0 m),
    )

-- ---- all of one kind

module _ (P : ℕ → Type 0) where
  mem_get_or : (l : List ℕ) (k : ℕ) → k < length l → ((s : ℕ) → Memᴰ s l → P s) → P (get_or l k 0)
  mem_get_or [] k h each = absurd (omega arith)
  mem_get_or (x ∷ l) zero h each = each x (Memᴰ.head refl)
  mem_get_or (x ∷ l) (suc k) h each = mem_get_or l k (omega arith) λ s m. each s (Memᴰ.tail m)

  get_or_mem : {s : ℕ} {l : List ℕ} → Memᴰ s l → ((k : ℕ) → k < length l → P (get_or l k 0)) → P s
  get_or_mem (Memᴰ.head e) each = rw e (each 0 (omega arith))
  get_or_mem (Memᴰ.tail m) each = get_or_mem m λ k h. each (suc k) (omega arith)

  pub each_front : (n : ℕ) (l : List ℕ) → n ≤ length l → ((s : ℕ) → Memᴰ s (take n l) → P s) ↔ ((k : ℕ) → k < n → P (get_or l k 0))
  each_front n l h =
      let long = length-take-le n l h in (
        λ each k m. rw (get_or-take n l k 0 m) at (mem_get_or (take n l) k (omega arith) each),
        λ each s m. get_or_mem m λ k j. let q : k < n = omega arith in rw (get_or-take n l k 0 q) (each k q),
      )

-- ---- ascending: each comes before the next

module _ {A : Type 0} {before : A → A → Type 0} (d : A) where
  next_rising : (l : List A) → ((k : ℕ) → suc k < length l → before (get_or l k d) (get_or l (suc k) d)) → Rising before l
  next_rising [] next = empty
  next_rising (a ∷ []) next = single
  next_rising (a ∷ (b ∷ l)) next = step (next 0 (omega arith)) (next_rising (b ∷ l) λ k h. next (suc k) (omega arith))

  sorted_next : {l : List A} → Sorted before l → (k : ℕ) → suc k < length l → before (get_or l k d) (get_or l (suc k) d)
  sorted_next nought k h = absurd (omega arith)
  sorted_next (first {l = []} f p) k h = absurd (omega arith)
  sorted_next (first {l = b ∷ l} f p) zero h = f b (Memᴰ.head refl)
  sorted_next (first {l = b ∷ l} f p) (suc k) h = sorted_next p k (omega arith)

-- the answer on each two neighbours says whether all ascend
module _ (read : ℕ → Reading) (l : List ℕ) where
  read_next : (k : ℕ) → k + 1 < length l → (is_less (read (get_or l k 0)) (read (get_or l (k + 1) 0)) ≡ true) ↔ Less is_less (get_or (map read l) k (read 0)) (get_or (map read l) (suc k) (read 0))
  read_next k h =
      let here : get_or (map read l) k (read 0) ≡ read (get_or l k 0) = get_or-map read l k 0 in
      let after : get_or (map read l) (suc k) (read 0) ≡ read (get_or l (k + 1) 0) = rw add-one (get_or-map read l (suc k) 0) in
      (λ e. rw (here, after) e, λ e. rw (here, after) at e)

  pub ascending : (r : Bool) → IsAllAdjacentAnswer (λ a b answer. answer ≡ is_less (read a) (read b)) l r → (r ≡ true) ↔ Sorted (Less is_less) (map read l)
  ascending true up = yes (rising_sorted is_less-order.transitive (next_rising (read 0) (map read l) λ k h.
      let next : k + 1 < length l = omega (arith, length-map l read) in
      (read_next k next).0 (sym (up k 0 next))))
  ascending false (k, h, down) = no λ sorted. false≢true (down 0 ∙ (read_next k h).1 (sorted_next (read 0) sorted k (omega (arith, length-map l read))))
