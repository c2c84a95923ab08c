-- What a step lends of a room that is not broken: each part as it is lent is the one that the room names, as long as the walk over the rules asks, and what that walk and
-- the writing behind it say of the parts as lent is so said of the room. Assumes nothing.
use Prim.Native.Nat.{ℕ, ◌+◌, ◌*◌, ◌-◌, ◌≤◌, ◌<◌}
use mathlib.Core.Path.{◌≡◌, sym, ap, ap₂, ◌∙◌}
use mathlib.Core.Bool.{false, false≢true}
use mathlib.Core.List.{List}
use native.Mathlib.Omega.{arith}
use lib.Dec.{lit≤}
use lib.ListN.{length, take, drop, get_or, replicate, length-replicate}
use lib.Seq.{get_or-take, get_or-drop, take-take}
use Rattle.std.specs.Prelude.{Result, Ok, Err}
use Rattle.std.specs.Result.{IsErr}
use Rattle.numbers.specs.BigEndian.{uint}
use Rattle.reading.specs.declared.Reading.{Reading}
use Rattle.room.specs.Parts.{part, cut, twos}
use Rattle.room.specs.Layout.{widths, head_number, limit, parts, nodes_part, lasts_part}
use Rattle.room.specs.Broken.{broken, sum}
use Rattle.room.specs.Written.{Aside, stepped, slots_with, rows_with, Stepping}
use Rattle.room.proofs.BrokenLaws.{Whole, head_number-at, not_broken-whole}
use Rattle.room.proofs.Large.{large-part}
use Rattle.room.proofs.Put.{length_part}
use Rattle.weave.specs.declared.made.Full.{Full}
use Rattle.weave.specs.View.{seen}
use Rattle.row.specs.Row.{RowOf, book_flags, moved_in}
use Rattle.rete.specs.declared.rules.Tally.{Tally}
use Rattle.rete.specs.Rules.{Weaves, Tables}
use Rattle.row.proofs.Sums.{sum_take_le}
use Rattle.step.specs.Worked.{book_in, slot_in, AddedAt, tokens_of, complete_in}

-- what lies before the tokens is in the room
pub in_room : (room : List ℕ) → broken room ≡ false → {e : ℕ} → e ≤ 18288 → e ≤ length room
in_room room whole h = let w = not_broken-whole room whole in omega arith

-- the same of all of it
pub room_long : (room : List ℕ) → broken room ≡ false → 18288 ≤ length room
room_long room whole = in_room room whole (omega arith)

-- a number of the header as it is read
pub number_read : (room : List ℕ) (k : ℕ) {x : ℕ} → k < 8 → x ≡ uint 2 room (k * 2) → x ≡ head_number room k
number_read room k h e = e ∙ sym (head_number-at room k h)

module _ (room : List ℕ) (whole : broken room ≡ false) {n : ℕ} (read : n ≡ uint 2 room 4) where
  -- the readings present, as they are read
  pub many_read : n ≡ head_number room 2
  many_read = number_read room 2 (lit≤ tt) read

  -- the order and the slots are lent long enough for a reading to be looked up
  pub parts-lent : (n ≤ length (part room 8816 256)) × (length (part room 9072 3072) ≡ 3072)
  parts-lent =
      let w : Whole room = not_broken-whole room whole in
      let large : 18288 ≤ length room = in_room room whole (lit≤ tt) in
      (omega (arith, many_read, large-part room 8816 256 (lit≤ tt) large), large-part room 9072 3072 (lit≤ tt) large)

-- a whole room, and the limit, the readings and the rules that were read of it
pub record Known (room : List ℕ) (T n rules : ℕ) : Type 0 where
  pub whole : Whole room
  pub T_is : T ≡ limit room
  pub n_is : n ≡ head_number room 2
  pub rules_is : rules ≡ head_number room 5

pub known : (room : List ℕ) {T n rules : ℕ} → broken room ≡ false → T ≡ uint 2 room 2 → n ≡ uint 2 room 4 → rules ≡ uint 2 room 10 → Known room T n rules
known room h t r s =
    record {
      whole = not_broken-whole room h;
      T_is = number_read room 1 (omega arith) t;
      n_is = number_read room 2 (omega arith) r;
      rules_is = number_read room 5 (omega arith) s;
    }

-- what is lent to be filled
abbrev pub zeros : ℕ → List ℕ
zeros n = replicate n 0

pub length_zeros : (n : ℕ) → length (zeros n) ≡ n
length_zeros n = length-replicate n 0

-- the tokens' nodes and last slots as they are lent
abbrev pub nodes_lent : List ℕ → ℕ → List ℕ
nodes_lent room T = part room 18288 (18288 + T - 18288)

abbrev pub lasts_lent : List ℕ → ℕ → List ℕ
lasts_lent room T = part room (18288 + T) (18288 + T + T - (18288 + T))

module _ {room : List ℕ} {T n rules : ℕ} (k : Known room T n rules) where
  -- ---- lengths

  pub large : 18288 + T * 2 ≤ length room
  large = omega arith

  pub fixed_part : (a w : ℕ) → a + w ≤ 18288 → length (part room a w) ≡ w
  fixed_part a w h = large-part room a w h (omega arith)

  pub nodes_long : length (nodes_lent room T) ≡ T
  nodes_long = length_part room 18288 (18288 + T - 18288) (omega arith) ∙ omega arith

  pub lasts_long : length (lasts_lent room T) ≡ T
  lasts_long = length_part room (18288 + T) (18288 + T + T - (18288 + T)) (omega arith) ∙ omega arith

  -- ---- the parts as they are lent

  nodes-lent : nodes_lent room T ≡ nodes_part (parts room)
  nodes-lent =
      let w : 18288 + T - 18288 ≡ limit room = omega arith in
      ap (part room 18288) w

  lasts-lent : lasts_lent room T ≡ lasts_part (parts room)
  lasts-lent =
      let a : 18288 + T ≡ 18288 + limit room = omega arith in
      let w : 18288 + T + T - (18288 + T) ≡ limit room = omega arith in
      ap₂ (part room) a w

  book-lent : (L : ℕ) → L ≡ head_number room 4 → part room 16 (16 + L - 16) ≡ book_in room
  book-lent L e =
      let w : 16 + L - 16 ≡ head_number room 4 = omega arith in
      ap (part room 16) w ∙ sym (take-take (head_number room 4) 8192 (drop 16 room) k.whole.book)

  pub slot_read : (p : ℕ) → p < 256 → get_or room (8816 + p) 0 ≡ slot_in room p
  slot_read p h = sym (get_or-take 256 (drop 8816 room) p 0 h ∙ get_or-drop 8816 room p 0)

  -- ---- what making a row asks

  conditions-few : sum (take rules (part room 8656 32)) ≤ 192
  conditions-few =
      let total : sum (take rules (part room 8656 32)) ≡ head_number room 6 = rw k.rules_is k.whole.total in
      omega arith

  -- the conditions as they are read: those of the rules, and no more than the whole table tells
  pub conditions_are : {conditions : ℕ} → conditions ≡ uint 2 room 12 → sum (take rules (part room 8656 32)) ≡ conditions
  conditions_are e = rw k.rules_is (k.whole.total ∙ sym (number_read room 6 (omega arith) e))

  pub conditions_told : {conditions : ℕ} → conditions ≡ uint 2 room 12 → conditions ≤ sum (part room 8656 32)
  conditions_told e =
      omega (
        arith,
        conditions_are e,
        sum_take_le (part room 8656 32) rules 32 (omega arith),
        ap sum (take-take 32 32 (drop 8656 room) (omega arith)),
      )

  pub conditions-low : {conditions : ℕ} → conditions ≡ uint 2 room 12 → conditions ≤ 192
  conditions-low e = omega (arith, conditions_are e, conditions-few)

  -- ---- what the walk over the rules asks

  planes-long : T ≤ length (zeros 2048)
  planes-long = omega (arith, length_zeros 2048)

  -- of tokens whose nodes and last slots are as many as the limit says
  pub tables_of : {olds oldl : List ℕ} → length olds ≡ T → length oldl ≡ T
      → Tables (part room 8656 32) (part room 8688 64) (part room 8752 64) olds oldl (zeros 32) (zeros 32) rules
  tables_of nodes lasts =
      record {
        few = omega arith;
        counts_long = omega (arith, fixed_part 8656 32 (omega arith));
        ends_long = omega (arith, fixed_part 8688 64 (omega arith));
        fulls_long = omega (arith, fixed_part 8752 64 (omega arith));
        fs_long = length_zeros 32;
        ms_long = length_zeros 32;
        each = λ r h. k.whole.counts r (omega arith);
        total = conditions-few;
        ends_fit = λ r h. (omega (arith, k.whole.ends r (omega arith)), omega (arith, k.whole.ends r (omega arith)));
      }

  pub tables : Tables (part room 8656 32) (part room 8688 64) (part room 8752 64) (nodes_lent room T) (lasts_lent room T) (zeros 32) (zeros 32) rules
  tables = tables_of nodes_long lasts_long

  -- ---- what the writing asks

  pub stepping : (s : Aside) → s.tokens ≤ T → length s.ends ≡ length (zeros 32) → length s.completes ≡ length (zeros 32) → length s.order ≡ 256
      → T ≤ length s.nodes → T ≤ length s.lasts → Stepping room T s
  stepping s few ends completes order nodes lasts =
      record {
        large = large;
        few = few;
        small = omega arith;
        ends = ends ∙ length_zeros 32;
        completes = completes ∙ length_zeros 32;
        order = order;
        nodes = omega arith;
        lasts = omega arith;
      }

  -- ---- an addition

  pub added-at : {p L tokens complete : ℕ} {w : Reading} {room' : List ℕ} (s : Aside) (row : List ℕ) → L ≡ head_number room 4 → n < 256 → get_or room (8816 + n) 0 < 256
      → RowOf row (book_flags (part room 16 (16 + L - 16)) (part room 8208 384) w 0 (take rules (part room 8656 32)))
      → s.readings ≡ n + 1 → s.tokens ≡ tokens → s.order ≡ moved_in (part room 8816 256) p n
      → Weaves
      (seen (part room 16 (16 + L - 16)) (part room 8208 384) (part room 9072 3072) (part room 12144 6144) row (record { slot = get_or room (8816 + n) 0; w = w }))
      (take (n + 1) s.order) (nodes_lent room T) (lasts_lent room T) T (twos rules (part room 8688 64)) (twos rules (part room 8752 64)) (take rules (part room 8656 32))
      (zeros 2048) (zeros 2048) (twos 32 (part room 8688 64)) (twos 32 (part room 8752 64)) tokens complete s.nodes s.lasts s.ends s.completes
      → (T < tokens → room' ≡ room)
      → (tokens ≤ T → cut 0 (widths T) room'
      ≡ stepped s (slots_with (cut 0 (widths T) room) (get_or room (8816 + n) 0) w) (rows_with (cut 0 (widths T) room) (get_or room (8816 + n) 0) row) (cut 0 (widths T) room))
      → length room' ≡ length room → AddedAt room p w tokens complete room'
  added-at {L = L} s row book h small made readings tokens order weaves full written long =
      record {
        aside = s;
        row = row;
        made = rw (book-lent L book, k.rules_is) at made;
        readings_are = omega arith;
        tokens_are = tokens;
        order_is = rw k.n_is at order;
        woven = rw (book-lent L book, nodes-lent, lasts-lent, slot_read n h, k.T_is, k.n_is, k.rules_is) at weaves;
        slot_small = rw (slot_read n h, k.n_is) at small;
        full = λ more. full (omega arith);
        written = λ fits. rw (slot_read n h, k.T_is, k.n_is) at (written (omega arith));
        long = long;
      }

-- at an exit
pub added_exit : {room : List ℕ} {p : ℕ} {w : Reading} {room' : List ℕ} (r : Result Tally Full) → IsErr r → AddedAt room p w (limit room + 1) 0 room'
    → AddedAt room p w (tokens_of (limit room) r) (complete_in r) room'
added_exit (Err e) h A = A
added_exit (Ok t) h A = absurd (false≢true h)
