-- The rule behind refusal 10: what it asks, number by number, and what is so known of a room that is not broken.
-- Assumes nothing.
use Prim.Native.Nat.{ℕ, zero, suc, ◌+◌, ◌*◌, ◌≤◌, ◌<◌}
use mathlib.Core.Path.{◌≡◌, refl, sym, ap, ◌∙◌}
use mathlib.Core.Bool.{Bool, true, false, not, ◌&&◌, and-false, or-true}
use mathlib.Core.List.{List, [], ◌∷◌, ◌++◌}
use mathlib.Core.Logic.{◌↔◌}
use mathlib.Mathlib.Data.Bool.Basic.{eq-false_of_not-eq-true}
use native.Mathlib.Numerals.{add-one}
use native.Mathlib.Omega.{arith}
use borrow.Author.Tests.{leb-true, leb-false, eqb-true, lt-ltb, le-ltb, le-leb, eq-eqb}
use lib.Dec.{leb, eqb}
use lib.ListN.{length, take, drop, get_or, length-take, length-drop}
use lib.Seq.{take-suc, get_or-take, get_or-drop, length-take-le}
use Rattle.numbers.specs.BigEndian.{uint}
use Rattle.numbers.proofs.BigEndian.{uint_ext, uint-drop}
use Rattle.room.specs.Parts.{part, twos}
use Rattle.room.specs.Layout.{head_number, limit}
use Rattle.room.specs.Broken.{every, sum, head_fits, tables_fit, broken}
use Rattle.room.proofs.TwosRead.{length-twos, get_or-twos}

-- ---- a test among others

-- one without which the whole fails
asked : (b : Bool) {whole : Bool} → whole ≡ true → (b ≡ false → whole ≡ false) → b ≡ true
asked true h without = refl
asked false h without = sym (without refl) ∙ h

asked_le : (m n : ℕ) {whole : Bool} → whole ≡ true → (leb m n ≡ false → whole ≡ false) → m ≤ n
asked_le m n h without = leb-true m n (asked (leb m n) h without)

-- two that hold together
pub agreed : (a b : Bool) → (a ≡ true) ↔ (b ≡ true) → a ≡ b
agreed true b h = sym (h.0 refl)
agreed false true h = h.1 refl
agreed false false h = refl

-- ---- every

every-get_or : (p : ℕ → Bool) (l : List ℕ) → every p l ≡ true → (i : ℕ) → i < length l → p (get_or l i 0) ≡ true
unfolding every
every-get_or p [] h i l = absurd (omega arith)
every-get_or p (x ∷ xs) h zero l = asked (p x) h λ f. simp f
every-get_or p (x ∷ xs) h (suc i) l = every-get_or p xs (asked (every p xs) h λ f. simp (f, and-false)) i (omega arith)

get_or-every : (p : ℕ → Bool) (l : List ℕ) → ((i : ℕ) → i < length l → p (get_or l i 0) ≡ true) → every p l ≡ true
unfolding every
get_or-every p [] h = refl
get_or-every p (x ∷ xs) h = simp (h 0 (omega arith), get_or-every p xs (λ i l. h (suc i) (omega arith)))

-- of a list of which is known how long it is and what stands where
every_known : (p : ℕ → Bool) (l : List ℕ) (n : ℕ) (at : ℕ → ℕ) → length l ≡ n → ((i : ℕ) → i < n → get_or l i 0 ≡ at i)
    → (every p l ≡ true) ↔ ((i : ℕ) → i < n → p (at i) ≡ true)
every_known p l n at long known = (
  λ h i k. ap p (sym (known i k)) ∙ every-get_or p l h i (omega arith),
  λ h. get_or-every p l λ i k. ap p (known i (omega arith)) ∙ h i (omega arith),
)

one_to_six : (k : ℕ) → ((leb 1 k && leb k 6) ≡ true) ↔ ((1 ≤ k) × (k ≤ 6))
one_to_six k = (
  λ h. (asked_le 1 k h (λ f. simp f), asked_le k 6 h (λ f. simp (f, and-false))),
  λ h. simp (le-leb 1 k h.0, le-leb k 6 h.1),
)

-- the rule's test of the first n of a table of counts, and of a table of numbers in two bytes
abbrev all_one_to_six : ℕ → List ℕ → Bool
all_one_to_six n l = every (λ k. leb 1 k && leb k 6) (take n l)

all_one_to_six_lem : (n : ℕ) (l : List ℕ) → n ≤ length l → (all_one_to_six n l ≡ true) ↔ ((i : ℕ) → i < n → (1 ≤ get_or l i 0) × (get_or l i 0 ≤ 6))
all_one_to_six_lem n l h =
    let each = every_known (λ k. leb 1 k && leb k 6) (take n l) n (λ i. get_or l i 0) (length-take-le n l h) (λ i k. get_or-take n l i 0 k) in
    (λ t i k. (one_to_six _).0 (each.0 t i k), λ t. each.1 λ i k. (one_to_six _).1 (t i k))

abbrev all_at_most : ℕ → ℕ → List ℕ → Bool
all_at_most n most l = every (λ e. leb e most) (twos n l)

all-at-most : (n most : ℕ) (l : List ℕ) → (all_at_most n most l ≡ true) ↔ ((i : ℕ) → i < n → uint 2 l (i * 2) ≤ most)
all-at-most n most l =
    let each = every_known (λ e. leb e most) (twos n l) n (λ i. uint 2 l (i * 2)) (length-twos n l) (get_or-twos n l) in
    (λ t i k. leb-true _ _ (each.0 t i k), λ t. each.1 λ i k. le-leb _ _ (t i k))

-- ---- sum

sum_snoc : (l : List ℕ) (x : ℕ) → sum (l ++ x ∷ []) ≡ sum l + x
unfolding sum
sum_snoc [] x = omega arith
sum_snoc (y ∷ l) x = omega (arith, sum_snoc l x)

pub sum-take : (l : List ℕ) (i : ℕ) → i < length l → sum (take (i + 1) l) ≡ sum (take i l) + get_or l i 0
sum-take l i h = rw (add-one, take-suc l i 0) (sum_snoc (take i l) (get_or l i 0))

-- ---- the numbers of the header

pub head_number-at : (room : List ℕ) (k : ℕ) → k < 8 → head_number room k ≡ uint 2 room (k * 2)
head_number-at room k h = uint_ext 2 (take 16 room) (k * 2) room (k * 2) λ j l. get_or-take 16 room (k * 2 + j) 0 (omega arith)

-- what is asked of them: n k is number k
pub record Head (n : ℕ → ℕ) : Type 0 where
  pub E_low : 1 ≤ n 0
  pub E_high : n 0 ≤ 256
  pub T_low : 1 ≤ n 1
  pub T_high : n 1 ≤ 2048
  pub readings : n 2 ≤ n 0
  pub tokens : n 3 ≤ n 1
  pub book : n 4 ≤ 8192
  pub rules : n 5 ≤ 32
  pub conditions : n 6 ≤ 192
  pub zero : n 7 ≡ 0

head_fits_lem : (room : List ℕ) → (head_fits room ≡ true) ↔ Head (head_number room)
unfolding head_fits
head_fits_lem room = (
  λ h. record {
    E_low = asked_le 1 (head_number room 0) h λ f. simp f;
    E_high = asked_le (head_number room 0) 256 h λ f. simp (f, and-false);
    T_low = asked_le 1 (head_number room 1) h λ f. simp (f, and-false);
    T_high = asked_le (head_number room 1) 2048 h λ f. simp (f, and-false);
    readings = asked_le (head_number room 2) (head_number room 0) h λ f. simp (f, and-false);
    tokens = asked_le (head_number room 3) (head_number room 1) h λ f. simp (f, and-false);
    book = asked_le (head_number room 4) 8192 h λ f. simp (f, and-false);
    rules = asked_le (head_number room 5) 32 h λ f. simp (f, and-false);
    conditions = asked_le (head_number room 6) 192 h λ f. simp (f, and-false);
    zero = eqb-true _ _ (asked (eqb (head_number room 7) 0) h λ f. simp (f, and-false));
  },
  λ h.
      simp (
        le-leb _ _ h.E_low,
        le-leb _ _ h.E_high,
        le-leb _ _ h.T_low,
        le-leb _ _ h.T_high,
        le-leb _ _ h.readings,
        le-leb _ _ h.tokens,
        le-leb _ _ h.book,
        le-leb _ _ h.rules,
        le-leb _ _ h.conditions,
        eq-eqb _ _ h.zero,
      ),
)

same_head : (n m : ℕ → ℕ) → ((k : ℕ) → k < 8 → n k ≡ m k) → Head n → Head m
same_head n m same h =
    omega (
      arith,
      same 0 (omega arith),
      same 1 (omega arith),
      same 2 (omega arith),
      same 3 (omega arith),
      same 4 (omega arith),
      same 5 (omega arith),
      same 6 (omega arith),
      same 7 (omega arith),
    )

-- the same of the numbers as they are read
pub head_read : (room : List ℕ) → (head_fits room ≡ true) ↔ Head (λ k. uint 2 room (k * 2))
head_read room =
    let read : ℕ → ℕ = λ k. uint 2 room (k * 2) in (
      λ h. same_head (head_number room) read (head_number-at room) ((head_fits_lem room).0 h),
      λ h. (head_fits_lem room).1 (same_head read (head_number room) (λ k l. sym (head_number-at room k l)) h),
    )

-- what each of them is at most, the two limits of the room being e and t
abbrev pub highest : ℕ → ℕ → List ℕ
highest e t = 256 ∷ 2048 ∷ e ∷ t ∷ 8192 ∷ 32 ∷ 192 ∷ 0 ∷ []

module _ (n : ℕ → ℕ) {e t : ℕ} (same_e : e ≡ n 0) (same_t : t ≡ n 1) where
  pub head-highest : Head n → (k : ℕ) → k < 8 → n k ≤ get_or (highest e t) k 0
  head-highest h zero l = h.E_high
  head-highest h (suc zero) l = h.T_high
  head-highest h (suc (suc zero)) l = omega (arith, h.readings)
  head-highest h (suc (suc (suc zero))) l = omega (arith, h.tokens)
  head-highest h (suc (suc (suc (suc zero)))) l = h.book
  head-highest h (suc (suc (suc (suc (suc zero))))) l = h.rules
  head-highest h (suc (suc (suc (suc (suc (suc zero)))))) l = h.conditions
  head-highest h (suc (suc (suc (suc (suc (suc (suc zero))))))) l = omega (arith, h.zero)
  head-highest h (suc (suc (suc (suc (suc (suc (suc (suc k)))))))) l = absurd (omega arith)

  pub highest-head : ((k : ℕ) → k < 8 → n k ≤ get_or (highest e t) k 0) → 1 ≤ e → 1 ≤ t → Head n
  highest-head all some_e some_t = record {
    E_low = omega arith;
    E_high = all 0 (omega arith);
    T_low = omega arith;
    T_high = all 1 (omega arith);
    readings = omega (arith, all 2 (omega arith));
    tokens = omega (arith, all 3 (omega arith));
    book = all 4 (omega arith);
    rules = all 5 (omega arith);
    conditions = all 6 (omega arith);
    zero = omega (arith, all 7 (omega arith));
  }

-- ---- the tables of rules

-- what is asked of them, by the numbers of rules, tokens and conditions
record Tables (room : List ℕ) (rules tokens conditions : ℕ) : Type 0 where
  counts : (i : ℕ) → i < rules → (1 ≤ get_or (part room 8656 32) i 0) × (get_or (part room 8656 32) i 0 ≤ 6)
  total : sum (take rules (part room 8656 32)) ≡ conditions
  ends : (i : ℕ) → i < rules → uint 2 (part room 8688 64) (i * 2) ≤ tokens
  completes : (i : ℕ) → i < rules → uint 2 (part room 8752 64) (i * 2) ≤ tokens

-- the same of one rule, by the numbers as they are read
pub record RuleFits (room : List ℕ) (tokens i : ℕ) : Type 0 where
  pub low : 1 ≤ get_or room (8656 + i) 0
  pub high : get_or room (8656 + i) 0 ≤ 6
  pub ends : uint 2 room (8688 + i * 2) ≤ tokens
  pub completes : uint 2 room (8752 + i * 2) ≤ tokens

module _ (room : List ℕ) where
  pub count_at : (i : ℕ) → i < 32 → get_or (part room 8656 32) i 0 ≡ get_or room (8656 + i) 0
  count_at i h = get_or-take 32 (drop 8656 room) i 0 h ∙ get_or-drop 8656 room i 0

  pub two_of : (a i : ℕ) → i < 32 → uint 2 (part room a 64) (i * 2) ≡ uint 2 room (a + i * 2)
  two_of a i h =
      uint_ext 2 (part room a 64) (i * 2) (drop a room) (i * 2) (λ k l. get_or-take 64 (drop a room) (i * 2 + k) 0 (omega arith)) ∙ uint-drop 2 a room (i * 2)

  module _ {rules tokens conditions : ℕ} (few : rules ≤ 32) where
    tables_rules : Tables room rules tokens conditions → ((i : ℕ) → i < rules → RuleFits room tokens i) × (sum (take rules (part room 8656 32)) ≡ conditions)
    tables_rules h = (
      λ i l. record {
        low = rw (count_at i (omega arith)) at (h.counts i l).0;
        high = rw (count_at i (omega arith)) at (h.counts i l).1;
        ends = rw (two_of 8688 i (omega arith)) at (h.ends i l);
        completes = rw (two_of 8752 i (omega arith)) at (h.completes i l);
      },
      h.total,
    )

    rules_tables : ((i : ℕ) → i < rules → RuleFits room tokens i) → sum (take rules (part room 8656 32)) ≡ conditions → Tables room rules tokens conditions
    rules_tables fits total = record {
      counts = λ i l. rw (count_at i (omega arith)) ((fits i l).low, (fits i l).high);
      total = total;
      ends = λ i l. rw (two_of 8688 i (omega arith)) (fits i l).ends;
      completes = λ i l. rw (two_of 8752 i (omega arith)) (fits i l).completes;
    }

  module _ (large : 18288 ≤ length room) where
    counts-there : length (part room 8656 32) ≡ 32
    counts-there = simp (length-take, length-drop) (omega arith)

    -- the conditions of one rule more
    pub total-more : (i : ℕ) → i < 32 → sum (take (i + 1) (part room 8656 32)) ≡ sum (take i (part room 8656 32)) + get_or room (8656 + i) 0
    total-more i h = omega (arith, sum-take (part room 8656 32) i (omega (arith, counts-there)), count_at i h)

    tables_fit_lem : head_number room 5 ≤ 32 → (tables_fit room ≡ true) ↔ Tables room (head_number room 5) (head_number room 3) (head_number room 6)
    unfolding tables_fit
    tables_fit_lem few =
        let total = eqb (sum (take (head_number room 5) (part room 8656 32))) (head_number room 6) in
        let counts = all_one_to_six_lem (head_number room 5) (part room 8656 32) (omega (arith, counts-there)) in
        let ends = all-at-most (head_number room 5) (head_number room 3) (part room 8688 64) in
        let completes = all-at-most (head_number room 5) (head_number room 3) (part room 8752 64) in (
          λ h. record {
            counts = counts.0 (asked (all_one_to_six (head_number room 5) (part room 8656 32)) h λ f. simp f);
            total = eqb-true _ _ (asked total h λ f. simp (f, and-false));
            ends = ends.0 (asked (all_at_most (head_number room 5) (head_number room 3) (part room 8688 64)) h λ f. simp (f, and-false));
            completes = completes.0 (asked (all_at_most (head_number room 5) (head_number room 3) (part room 8752 64)) h λ f. simp (f, and-false));
          },
          λ h. simp (counts.1 h.counts, eq-eqb _ _ h.total, ends.1 h.ends, completes.1 h.completes),
        )

    -- rule by rule, by the numbers as they are read
    pub tables_read : {rules tokens conditions : ℕ} → rules ≡ uint 2 room 10 → tokens ≡ uint 2 room 6 → conditions ≡ uint 2 room 12 → rules ≤ 32
        → (tables_fit room ≡ true) ↔ (((i : ℕ) → i < rules → RuleFits room tokens i) × (sum (take rules (part room 8656 32)) ≡ conditions))
    tables_read {rules} {tokens} {conditions} r t c few =
        let r' : rules ≡ head_number room 5 = r ∙ sym (head_number-at room 5 (omega arith)) in
        let t' : tokens ≡ head_number room 3 = t ∙ sym (head_number-at room 3 (omega arith)) in
        let c' : conditions ≡ head_number room 6 = c ∙ sym (head_number-at room 6 (omega arith)) in
        let fit : (tables_fit room ≡ true) ↔ Tables room rules tokens conditions = rw (r', t', c') (tables_fit_lem (omega arith)) in
        (λ h. tables_rules few (fit.0 h), λ h. fit.1 (rules_tables few h.0 h.1))

    -- the verdict: where not every rule fits, and where every one does, so that it is left to what their conditions add up to
    module _ {rules tokens : ℕ} (r : rules ≡ uint 2 room 10) (t : tokens ≡ uint 2 room 6) (few : rules ≤ 32) where
      pub some_unfit : (((i : ℕ) → i < rules → RuleFits room tokens i) → ⊥) → tables_fit room ≡ false
      some_unfit outside = eq-false_of_not-eq-true λ h. outside ((tables_read r t refl few).0 h).0

      pub all_fit : {conditions total : ℕ} → conditions ≡ uint 2 room 12 → ((i : ℕ) → i < rules → RuleFits room tokens i)
          → total ≡ sum (take rules (part room 8656 32)) → eqb total conditions ≡ tables_fit room
      all_fit c fits total =
          let read = tables_read r t c few in
          agreed _ _ (λ h. read.1 (fits, sym total ∙ eqb-true _ _ h), λ h. eq-eqb _ _ (total ∙ (read.0 h).1))

-- ---- a room that is not broken

pub record Whole (room : List ℕ) : Type 0 where
  pub large : 18288 + limit room * 2 ≤ length room
  pub E_low : 1 ≤ head_number room 0
  pub E_high : head_number room 0 ≤ 256
  pub T_low : 1 ≤ head_number room 1
  pub T_high : head_number room 1 ≤ 2048
  pub readings : head_number room 2 ≤ head_number room 0
  pub tokens : head_number room 3 ≤ head_number room 1
  pub book : head_number room 4 ≤ 8192
  pub rules : head_number room 5 ≤ 32
  pub conditions : head_number room 6 ≤ 192
  pub zero : head_number room 7 ≡ 0
  pub counts : (i : ℕ) → i < head_number room 5 → (1 ≤ get_or (part room 8656 32) i 0) × (get_or (part room 8656 32) i 0 ≤ 6)
  pub total : sum (take (head_number room 5) (part room 8656 32)) ≡ head_number room 6
  pub ends : (i : ℕ) → i < head_number room 5 → uint 2 (part room 8688 64) (i * 2) ≤ head_number room 3
  pub completes : (i : ℕ) → i < head_number room 5 → uint 2 (part room 8752 64) (i * 2) ≤ head_number room 3

module _ (room : List ℕ) where
  pub whole_not_broken : Whole room → broken room ≡ false
  unfolding broken
  whole_not_broken w =
      let tables : Tables room (head_number room 5) (head_number room 3) (head_number room 6) = record {
        counts = w.counts;
        total = w.total;
        ends = w.ends;
        completes = w.completes;
      } in
      simp (
        le-ltb (length room) 16 (omega arith),
        (head_fits_lem room).1 (omega arith),
        le-ltb _ _ w.large,
        (tables_fit_lem room (omega arith) w.rules).1 tables,
      )

  pub not_broken-whole : broken room ≡ false → Whole room
  unfolding broken
  not_broken-whole h =
      let whole : not (broken room) ≡ true = ap not h in
      let large : 18288 + limit room * 2 ≤ length room =
      asked_le (18288 + limit room * 2) (length room) whole λ f. simp (lt-ltb (length room) (18288 + limit room * 2) (leb-false _ _ f), or-true) in
      let head : Head (head_number room) = (head_fits_lem room).0 (asked (head_fits room) whole λ f. simp (f, or-true)) in
      let tables : Tables room (head_number room 5) (head_number room 3) (head_number room 6) =
      (tables_fit_lem room (omega arith) head.rules).0 (asked (tables_fit room) whole λ f. simp (f, or-true)) in
      record {
        large = large;
        E_low = head.E_low;
        E_high = head.E_high;
        T_low = head.T_low;
        T_high = head.T_high;
        readings = head.readings;
        tokens = head.tokens;
        book = head.book;
        rules = head.rules;
        conditions = head.conditions;
        zero = head.zero;
        counts = tables.counts;
        total = tables.total;
        ends = tables.ends;
        completes = tables.completes;
      }
