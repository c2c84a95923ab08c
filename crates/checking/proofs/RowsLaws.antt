-- The rows of a room, slot by slot: they agree if at each place of the order in use the row of the slot there has the bits of a row made anew. Assumes nothing.
use Prim.Native.Nat.{ℕ, ◌+◌, ◌-◌, ◌<◌}
use mathlib.Core.Path.{◌≡◌, sym, ap, ◌∙◌}
use mathlib.Core.Bool.{Bool, true}
use mathlib.Core.List.{List}
use mathlib.Core.Logic.{◌↔◌}
use native.Mathlib.Omega.{arith}
use lib.Dec.{eqb}
use lib.ListN.{take, drop, get_or}
use lib.Seq.{get_or-take, get_or-drop}
use Rattle.numbers.specs.BigEndian.{uint}
use Rattle.reading.specs.declared.Reading.{Reading}
use Rattle.reading.specs.Reading.{reading_at}
use Rattle.room.specs.Parts.{part}
use Rattle.room.specs.Layout.{head_number, parts, condition_places_part, order_part, rows_part}
use Rattle.room.specs.Held.{in_memory}
use Rattle.room.proofs.BrokenLaws.{head_number-at}
use Rattle.room.proofs.Large.{large-part}
use Rattle.row.specs.Row.{book_flags, RowOf}
use Rattle.checking.specs.Checked.{book_in, counts_in, read_in, RowsAgree}
use Rattle.checking.proofs.Fronts.{each_front}
use Rattle.checking.proofs.Numbers.{Bounds, Numbered, book-read}

module _ (room : List ℕ) where
  -- what is asked of the row of a slot
  abbrev pub RowAgrees : ℕ → Type 0
  RowAgrees s = (c : ℕ) → c < head_number room 6
      → in_memory (rows_part (parts room)) c s ≡ eqb (get_or (book_flags (book_in room) (condition_places_part (parts room)) (read_in room s) 0 (counts_in room)) c 0) 1

  module _ (b : Bounds room) where
    order-at : (k : ℕ) → k < 256 → get_or (order_part (parts room)) k 0 ≡ get_or room (8816 + k) 0
    order-at k h = get_or-take 256 (drop 8816 room) k 0 h ∙ get_or-drop 8816 room k 0

    pub rows_known : RowsAgree room ↔ ((k : ℕ) → k < uint 2 room 4 → RowAgrees (get_or room (8816 + k) 0))
    rows_known =
        let n = head_number-at room 2 (omega arith) in
        let each = each_front RowAgrees (head_number room 2) (order_part (parts room)) (omega (arith, large-part room 8816 256 (omega arith) b.large, b.readings)) in (
          λ all k h. rw (order-at k (omega (arith, b.readings))) at (each.0 all k (omega arith)),
          λ all. each.1 λ k h. rw (order-at k (omega (arith, b.readings))) (all k (omega arith)),
        )

  -- the answer on one row, of the numbers as they are read and a row made of them
  pub row_known : (n end conditions : ℕ) → Numbered room n end conditions → (s : ℕ) (w : Reading) (row : List ℕ) (r : Bool) → w ≡ reading_at (part room 9072 3072) s
      → RowOf row (book_flags (take (end - 16) (drop 16 room)) (part room 8208 384) w 0 (counts_in room))
      → ((r ≡ true) ↔ ((c : ℕ) → c < conditions → in_memory (part room 12144 6144) c s ≡ in_memory row c 0))
      → (r ≡ true) ↔ RowAgrees s
  row_known n end conditions a s w row r e made answer =
      let b = a.bounded in
      let six = head_number-at room 6 (omega arith) in
      let flags = ap (λ (bs : List ℕ). book_flags bs (part room 8208 384) w 0 (counts_in room)) (book-read room b end a.book) in
      let own = ap (λ (v : Reading). book_flags (book_in room) (part room 8208 384) v 0 (counts_in room)) e in
      let bit : (c : ℕ) → c < head_number room 6 → in_memory row c 0 ≡ eqb (get_or (book_flags (book_in room) (part room 8208 384) (read_in room s) 0 (counts_in room)) c 0) 1 =
      λ c h. made.bits c (omega (arith, b.conditions)) ∙ ap (λ (l : List ℕ). eqb (get_or l c 0) 1) (flags ∙ own) in (
        λ y c h. answer.0 y c (omega (arith, a.conditions)) ∙ bit c h,
        λ all. answer.1 λ c h. let m : c < head_number room 6 = omega (arith, a.conditions) in all c m ∙ sym (bit c m),
      )
