-- How many conditions each rule has, in a table of 32 places, tested place after place with no way out: what is counted meanwhile says at the end that all is as it should be.
-- Assumes nothing.
use Prim.Native.Nat.{ℕ, zero, suc, ◌+◌, ◌-◌, ◌*◌, ◌≤◌, ◌<◌}
use mathlib.Core.Bool.{Bool, true, false, not, beq}
use mathlib.Core.Path.{◌≡◌, refl, sym, ap, ◌∙◌}
use mathlib.Core.List.{List}
use native.Mathlib.Nat.{add-zero}
use native.Mathlib.Omega.{arith}
use borrow.Author.Count.{below_none, below_more}
use borrow.Author.Tests.{eqb-true, eqb-false, lt-ltb, le-ltb}
use lib.Dec.{ltb, eqb}
use lib.ListN.{length, take, get_or}
use Rattle.room.specs.Broken.{sum}
use Rattle.room.proofs.BrokenLaws.{sum-take}

-- ---- one test, and what is tested of place k

-- the count before it and after it, which is one more where what is asked does not hold
abbrev pub Noted : ℕ → ℕ → Type 0 → Type 0
Noted before after asked = (after ≤ before + 1) × (after ≡ 0 → (before ≡ 0) × asked)

module _ {before after : ℕ} {asked : Type 0} where
  pub noted_wrong : after ≡ before + 1 → Noted before after asked
  noted_wrong e = (omega arith, λ z. absurd (omega arith))

  pub noted_right : after ≡ before → asked → Noted before after asked
  noted_right e holds = (omega arith, λ z. (omega arith, holds))

-- its conditions are added to a sum, where they are at most 6
abbrev pub Added : List ℕ → ℕ → ℕ → ℕ → Type 0
Added counts k before after = (get_or counts k 0 ≤ 6) × (after ≡ before + get_or counts k 0)

-- it has some just where it is a rule's
abbrev pub Filled : List ℕ → ℕ → ℕ → Type 0
Filled counts rules k = (k < rules → 1 ≤ get_or counts k 0) × (rules ≤ k → get_or counts k 0 ≡ 0)

other : (a b : Bool) → beq a b ≡ false → a ≡ not b
other true true e = e
other true false e = refl
other false true e = refl
other false false e = sym e

-- of the first i places: `wrong` counts the tests that failed, and `total` is the sum where none did
abbrev pub Counted : List ℕ → ℕ → ℕ → ℕ → ℕ → Type 0
Counted counts rules i wrong total =
    (wrong ≤ i * 2) × ((total ≤ i * 6) × (wrong ≡ 0 → (total ≡ sum (take i counts)) × ((k : ℕ) → k < i → (get_or counts k 0 ≤ 6) × Filled counts rules k)))

module _ (counts : List ℕ) (rules : ℕ) where
  -- the test, which names the place by a number that equals it
  pub filled : (k : ℕ) {place : ℕ} → place ≡ k → beq (eqb (get_or counts k 0) 0) (ltb place rules) ≡ false → Filled counts rules k
  filled k {place} e t =
      let q = other (eqb (get_or counts k 0) 0) (ltb place rules) t in (
        λ l. omega (arith, eqb-false (get_or counts k 0) 0 (q ∙ ap not (lt-ltb place rules (omega arith)))),
        λ l. eqb-true (get_or counts k 0) 0 (q ∙ ap not (le-ltb place rules (omega arith))),
      )

  pub counted_none : Counted counts rules 0 0 0
  unfolding sum
  counted_none = (omega arith, (omega arith, λ z. (refl, below_none _)))

  -- one place more, by two tests
  pub counted-more : (i : ℕ) {wrong large wrong' total total' : ℕ} → i < length counts → Counted counts rules i wrong total → total' ≤ total + 6
      → Noted wrong large (Added counts i total total')
      → Noted large wrong' (Filled counts rules i)
      → Counted counts rules (i + 1) wrong' total'
  counted-more i h so few added fill = (
    omega arith,
    (
      omega arith,
      λ z.
          let f = fill.1 z in
          let a = added.1 f.0 in
          let before = so.1.1 a.0 in
          (omega (arith, sum-take counts i h), below_more _ i before.1 (a.1.0, f.1)),
    ),
  )

  -- ---- all 32

  module _ (long : length counts ≡ 32) where
    -- what is behind adds nothing
    sum-behind : (n : ℕ) → rules + n ≤ 32 → ((k : ℕ) → k < 32 → Filled counts rules k) → sum (take (rules + n) counts) ≡ sum (take rules counts)
    sum-behind zero h so = rw add-zero
    sum-behind (suc n) h so =
        let e : rules + suc n ≡ rules + n + 1 = omega arith in
        let nothing = (so (rules + n) (omega arith)).1 (omega arith) in
        rw e (omega (arith, sum-take counts (rules + n) (omega arith), sum-behind n (omega arith) so))

    pub counts_right : {total : ℕ} → rules ≤ 32 → Counted counts rules 32 0 total
        → ((i : ℕ) → i < rules → (1 ≤ get_or counts i 0) × (get_or counts i 0 ≤ 6)) × (sum (take rules counts) ≡ total)
    counts_right few counted =
        let so = counted.1.1 refl in
        let whole : rules + (32 - rules) ≡ 32 = omega arith in (
          λ i l. let p = so.1 i (omega arith) in (p.1.0 l, p.0),
          sym (rw whole at (sum-behind (32 - rules) (omega arith) λ k l. (so.1 k l).1)) ∙ sym so.0,
        )
