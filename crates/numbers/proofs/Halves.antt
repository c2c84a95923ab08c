-- What halving knows of bytes that part: those below one place pass, those from another on do not. Assumes nothing.
use Rattle.std.proofs.Common.{arith, ap, sym, ◌∙◌, true≢false, ◌≡◌, ◌<◌, ◌+◌, ℕ, Bool, true, false, length, List, [], ◌∷◌, slice_index_or}
use Rattle.std.proofs.lemmas.Bool.{false_from_ne_true}
use Rattle.std.proofs.lemmas.Grind.{get_or_default_zero}
use Rattle.std.specs.Fn.{Mut, Called, AlwaysReturns}
use Rattle.std.specs.List.{AllWithin}
use Rattle.std.specs.List.Sorted.{IsPartitionedBy}

-- what is left to look at is from low up to high
abbrev pub Halved : (ℕ → Bool) → List ℕ → ℕ → ℕ → Type 0
Halved p xs low high = IsPartitionedBy p xs → AllWithin (λ y. p y ≡ true) xs 0 low × AllWithin (λ y. p y ≡ false) xs high (length xs)

-- a call says what it says, and so do those after it
pub next_answers : {F X R : Type 0} (g : Mut F X R) (P : X → R → Type 0) (f : F) (a : X) (r : R) (f' : F) → Called g f a r f' → AlwaysReturns g P f → P a r × AlwaysReturns g P f'
next_answers g P f a r f' c h = ((h.at (a ∷ []) r f' c).0, record { at = λ xs. (h.at (a ∷ xs) r f' c).1 })

-- a byte that is there is the same whatever stands for one that is not
same_byte : (p : ℕ → Bool) (b : Bool) (xs : List ℕ) (k : ℕ) → k < length xs → b ≡ p (slice_index_or xs k 0) → (d : ℕ) → p (slice_index_or xs k d) ≡ b
same_byte p b xs k long e d = ap p (get_or_default_zero xs k d long) ∙ sym e

-- the middle passes: so does all before it
pub passed : (p : ℕ → Bool) (xs : List ℕ) (low high mid : ℕ) → mid < length xs → Halved p xs low high → true ≡ p (slice_index_or xs mid 0) → Halved p xs (mid + 1) high
passed p xs low high mid long h t parted = (λ k d a b. parted k mid d (omega arith) long (same_byte p true xs mid long t d), (h parted).1)

-- it does not: nor does what is behind it
pub failed : (p : ℕ → Bool) (xs : List ℕ) (low high mid : ℕ) → mid < length xs → Halved p xs low high → false ≡ p (slice_index_or xs mid 0) → Halved p xs low mid
failed p xs low high mid long h f parted = (
  (h parted).0,
  λ k d a b. false_from_ne_true (p (slice_index_or xs k d)) (λ t. true≢false (sym (parted mid k d a b t) ∙ same_byte p false xs mid long f d)),
)
