-- The tables of a book in a room: lists filled up with zeros, and read back from two bytes each. What stands there is within the book, so that two bytes hold it.
-- Assumes nothing.
use Prim.Native.Nat.{ℕ, zero, suc, ◌+◌, ◌*◌, ◌-◌, ◌≤◌, ◌<◌}
use mathlib.Core.Path.{◌≡◌, refl, sym, ap, ◌∙◌}
use mathlib.Core.List.{List, [], ◌∷◌, ◌++◌}
use native.Mathlib.Omega.{arith}
use native.Mathlib.Numerals.{add-one}
use lib.ListN.{length, get_or, replicate, length-append, length-replicate, get_or-append, replicate-append-replicate}
use Rattle.numbers.specs.BigEndian.{uint}
use Rattle.book.specs.declared.record.Test.{Test}
use Rattle.book.specs.Rules.{Rule, condition_count, tests_size, conditions_size, rules_size, rule_places, condition_places_in, condition_places, padded}
use Rattle.book.specs.Limits.{All, RuleKept}
use Rattle.book.proofs.Growth.{counts, length-condition_places}
use Rattle.room.specs.Parts.{twos, twos_bytes}
use Rattle.room.specs.Broken.{sum}
use Rattle.room.proofs.Twos.{twos_prefix}
use Rattle.room.proofs.TwosRead.{length-twos}
use Rattle.checking.proofs.IndexLaws.{take-padded}

-- ---- numbers that are at most some bound, wherever they stand in a list

abbrev pub AtMost : ℕ → List ℕ → Type 0
AtMost most l = (i : ℕ) → get_or l i 0 ≤ most

at_most_zeros : (most n : ℕ) → AtMost most (replicate n 0)
at_most_zeros most zero i = omega arith
at_most_zeros most (suc n) zero = omega arith
at_most_zeros most (suc n) (suc i) = at_most_zeros most n i

at_most_append : (most : ℕ) (l m : List ℕ) → AtMost most l → AtMost most m → AtMost most (l ++ m)
at_most_append most [] m h k i = k i
at_most_append most (x ∷ l) m h k zero = h 0
at_most_append most (x ∷ l) m h k (suc i) = at_most_append most l m (λ j. h (suc j)) k i

-- ---- the places of rules and conditions are within the book

pub rule_places-most : (most at : ℕ) (rules : List Rule) → at + rules_size rules ≤ most → AtMost most (rule_places at rules)
unfolding rule_places rules_size
rule_places-most most at [] h i = omega arith
rule_places-most most at (rule ∷ rules) h zero = omega arith
rule_places-most most at (rule ∷ rules) h (suc i) = rule_places-most most (at + (27 + conditions_size rule.conditions)) rules (omega arith) i

condition_places_in-most : (most at : ℕ) (conditions : List (List Test)) → at + conditions_size conditions ≤ most → AtMost most (condition_places_in at conditions)
unfolding condition_places_in conditions_size
condition_places_in-most most at [] h i = omega arith
condition_places_in-most most at (tests ∷ conditions) h zero = omega arith
condition_places_in-most most at (tests ∷ conditions) h (suc i) = condition_places_in-most most (at + (1 + tests_size tests)) conditions (omega arith) i

pub condition_places-most : (most at : ℕ) (rules : List Rule) → at + rules_size rules ≤ most → AtMost most (condition_places at rules)
unfolding condition_places rules_size
condition_places-most most at [] h i = omega arith
condition_places-most most at (rule ∷ rules) h i =
    at_most_append most (condition_places_in (at + 27) rule.conditions) (condition_places (at + (27 + conditions_size rule.conditions)) rules)
    (condition_places_in-most most (at + 27) rule.conditions (omega arith))
    (condition_places-most most (at + (27 + conditions_size rule.conditions)) rules (omega arith))
    i

-- as many places as conditions
pub places-counted : (n : ℕ) (b : List ℕ) (rules : List Rule) → twos n b ≡ condition_places 0 rules → n ≡ condition_count rules
places-counted n b rules e = sym (length-twos n b) ∙ ap length e ∙ length-condition_places 0 rules

-- ---- a list filled up with zeros: its front, and read back from two bytes each

pub length-padded : (n : ℕ) (l : List ℕ) → length l ≤ n → length (padded n l) ≡ n
unfolding padded
length-padded n l h = omega (arith, length-append l (replicate (n - length l) 0), length-replicate {A = ℕ} (n - length l) 0)

pub get_or-padded : (n : ℕ) (l : List ℕ) (i : ℕ) → i < length l → get_or (padded n l) i 0 ≡ get_or l i 0
unfolding padded
get_or-padded n l i h = get_or-append l (replicate (n - length l) 0) 0 i h

pub twos-padded : (n : ℕ) (l : List ℕ) → length l ≤ n → AtMost 8192 l → twos (length l) (twos_bytes (padded n l)) ≡ l
unfolding padded
twos-padded n l h small =
    twos_prefix (length l) (padded n l)
    (λ i. omega (arith, at_most_append 8192 l (replicate (n - length l) 0) small (at_most_zeros 8192 (n - length l)) i))
    (omega (arith, length-padded n l h))
    ∙ take-padded n (length l) l refl

-- ---- how many conditions each rule has

pub counts_kept : (rules : List Rule) → All RuleKept rules → All (λ rule. 0 < length rule.conditions) rules → (i : ℕ) → i < length rules
    → (1 ≤ get_or (counts rules) i 0) × (get_or (counts rules) i 0 ≤ 6)
counts_kept [] k s i h = absurd (omega arith)
counts_kept (rule ∷ rules) k s zero h = (s.0, k.0.most)
counts_kept (rule ∷ rules) k s (suc i) h = counts_kept rules k.1 s.1 i (omega arith)

pub sum-counts : (rules : List Rule) → sum (counts rules) ≡ condition_count rules
unfolding sum condition_count
sum-counts [] = refl
sum-counts (rule ∷ rules) = ap (λ (n : ℕ). length rule.conditions + n) (sum-counts rules)

-- ---- a table of zeros

pub uint_zeros : (n i : ℕ) → uint 2 (replicate n 0) i ≡ 0
unfolding uint
uint_zeros n i = omega (arith, at_most_zeros 0 n (i + 0), at_most_zeros 0 n (i + 1))

pub twos_zeros : (n m : ℕ) → twos n (replicate m 0) ≡ replicate n 0
unfolding twos
twos_zeros zero m = refl
twos_zeros (suc n) m = rw (twos_zeros n m, uint_zeros m (n * 2)) (replicate-append-replicate n 1 0 ∙ ap (λ (k : ℕ). replicate k 0) (add-one n))
