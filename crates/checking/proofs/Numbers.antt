-- The numbers and the book of a room that is not broken, as they are read: within their bounds, and the book as its part and length say. Assumes nothing.
use Prim.Native.Nat.{ℕ, ◌+◌, ◌-◌, ◌≤◌}
use mathlib.Core.Path.{◌≡◌, sym, ap, ◌∙◌}
use mathlib.Core.Bool.{false}
use mathlib.Core.List.{List}
use native.Mathlib.Omega.{arith}
use lib.ListN.{length, take, drop}
use lib.Seq.{take-take}
use Rattle.numbers.specs.BigEndian.{uint}
use Rattle.room.specs.Parts.{part}
use Rattle.room.specs.Layout.{head_number}
use Rattle.room.specs.Broken.{sum, broken}
use Rattle.room.proofs.BrokenLaws.{head_number-at, not_broken-whole}
use Rattle.room.proofs.Large.{large-part}
use Rattle.row.proofs.Sums.{sum_take_le}
use Rattle.checking.specs.Checked.{book_in, counts_in}

pub record Bounds (room : List ℕ) : Type 0 where
  pub large : 18288 ≤ length room
  pub readings : uint 2 room 4 ≤ 256
  pub book : uint 2 room 8 ≤ 8192
  pub rules : uint 2 room 10 ≤ 32
  pub conditions : uint 2 room 12 ≤ 192
  pub total : sum (counts_in room) ≡ uint 2 room 12

pub bounds : (room : List ℕ) → broken room ≡ false → Bounds room
bounds room h =
    let w = not_broken-whole room h in
    record {
      large = omega (arith, w.large);
      readings = omega (arith, w.E_high, w.readings, head_number-at room 2 (omega arith));
      book = omega (arith, w.book, head_number-at room 4 (omega arith));
      rules = omega (arith, w.rules, head_number-at room 5 (omega arith));
      conditions = omega (arith, w.conditions, head_number-at room 6 (omega arith));
      total = w.total ∙ head_number-at room 6 (omega arith);
    }

pub book-read : (room : List ℕ) → Bounds room → (end : ℕ) → end ≡ 16 + uint 2 room 8 → take (end - 16) (drop 16 room) ≡ book_in room
book-read room b end e =
    let n = head_number-at room 4 (omega arith) in
    let long : end - 16 ≡ head_number room 4 = omega arith in
    ap (λ (m : ℕ). take m (drop 16 room)) long ∙ sym (take-take (head_number room 4) 8192 (drop 16 room) (omega (arith, b.book)))

-- all numbers that a check of the rows reads
pub record Numbered (room : List ℕ) (n end c : ℕ) : Type 0 where
  pub bounded : Bounds room
  pub readings : n ≡ uint 2 room 4
  pub book : end ≡ 16 + uint 2 room 8
  pub conditions : c ≡ uint 2 room 12

module _ (room : List ℕ) (n end conditions : ℕ) (a : Numbered room n end conditions) where
  -- the conditions are those of the rules
  pub rules_few : head_number room 5 ≤ 32
  rules_few = omega (arith, a.bounded.rules, head_number-at room 5 (omega arith))

  pub conditions_are : sum (counts_in room) ≡ conditions
  conditions_are = a.bounded.total ∙ sym a.conditions

  -- what is asked for a row to be made
  pub row-asked : (length (part room 8208 384) ≡ 384) × ((length (part room 8656 32) ≡ 32) × ((conditions ≤ sum (part room 8656 32)) × (conditions ≤ 192)))
  row-asked =
      let b = a.bounded in
      let told : conditions ≤ sum (part room 8656 32) =
      omega (
        arith,
        conditions_are,
        sum_take_le (part room 8656 32) (head_number room 5) 32 rules_few,
        ap sum (take-take 32 32 (drop 8656 room) (omega arith)),
      ) in (
        large-part room 8208 384 (omega arith) b.large,
        (large-part room 8656 32 (omega arith) b.large, (told, omega (arith, a.conditions, b.conditions))),
      )
