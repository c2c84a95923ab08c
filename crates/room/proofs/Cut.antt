-- A room cut into parts: a part replaced in the room is that part replaced among the parts. Assumes nothing.
use Prim.Native.Nat.{ℕ, zero, suc, ◌+◌, ◌≤◌, ◌<◌}
use mathlib.Core.Path.{◌≡◌, sym, ap, ap₂, ◌∙◌}
use mathlib.Core.List.{List, [], ◌∷◌}
use native.Mathlib.Nat.{add-zero}
use native.Mathlib.Omega.{arith}
use lib.ListN.{length, take, get_or, set}
use Rattle.numbers.specs.Spliced.{spliced}
use Rattle.numbers.proofs.Spliced.{length-spliced}
use Rattle.room.specs.Parts.{part, put, cut}
use Rattle.room.proofs.Put.{length_part, length-put, spliced-put, put_same, put-before, put-past}
use Rattle.room.proofs.Spliced.{spliced-whole}

-- where part k starts
abbrev pub start : List ℕ → ℕ → ℕ
start [] k = 0
start (w ∷ ws) zero = 0
start (w ∷ ws) (suc k) = w + start ws k

module _ (l r : List ℕ) (a w : ℕ) (len : length r ≡ w) (fits : a + w ≤ length l) where
  cut-past : (ws : List ℕ) (b : ℕ) → a + w ≤ b → cut b ws (put l a w r) ≡ cut b ws l
  cut-past [] b h = ap (λ (k : List ℕ). k ∷ []) (put-past l a w r len fits b h)
  cut-past (v ∷ ws) b h = ap₂ ◌∷◌ (ap (take v) (put-past l a w r len fits b h)) (cut-past ws (b + v) (omega arith))

  pub cut-put : (ws : List ℕ) (b k : ℕ) → k < length ws → get_or ws k 0 ≡ w → b + start ws k ≡ a → cut b ws (put l a w r) ≡ set (cut b ws l) k r
  cut-put [] b k h e s = absurd (omega arith)
  cut-put (v ∷ ws) b zero h e s =
      let q : b ≡ a = omega arith in
      let x : part (put l a w r) b v ≡ r = rw (q, e) (put_same l a w r len fits) in
      ap₂ ◌∷◌ x (cut-past ws (b + v) (omega arith))
  cut-put (v ∷ ws) b (suc k) h e s =
      ap₂ ◌∷◌ (put-before l a w r len fits b v (omega arith)) (cut-put ws (b + v) k (omega arith) e (omega arith))

-- a part that was written, among the parts: that the room kept its length says that the part did
pub cut-written : (ws l l' r : List ℕ) (a w k : ℕ) → l' ≡ put l a w r → length l' ≡ length l → a + w ≤ length l → k < length ws → get_or ws k 0 ≡ w → start ws k ≡ a
    → cut 0 ws l' ≡ set (cut 0 ws l) k r
cut-written ws l l' r a w k e same fits h v s =
    ap (cut 0 ws) e ∙ cut-put l r a w (length-put l l' a w r e same fits) fits ws 0 k h v (omega arith)

-- bytes that were written within a part, among the parts
pub cut-spliced : (ws l l' ys : List ℕ) (a w k o : ℕ) → l' ≡ spliced l (a + o) ys → o + length ys ≤ w → a + w ≤ length l → k < length ws → get_or ws k 0 ≡ w → start ws k ≡ a
    → cut 0 ws l' ≡ set (cut 0 ws l) k (spliced (part l a w) o ys)
cut-spliced ws l l' ys a w k o e short fits h v s =
    let p : List ℕ = part l a w in
    let len : length (spliced p o ys) ≡ w = omega (arith, length-spliced p o ys (omega (arith, length_part l a w fits)), length_part l a w fits) in
    ap (cut 0 ws) (e ∙ spliced-put l a w o ys short fits) ∙ cut-put l (spliced p o ys) a w len fits ws 0 k h v (omega arith)

pub cut-spliced-whole : (ws l l' r : List ℕ) (a w k : ℕ) → l' ≡ spliced l a r → length r ≡ w → a + w ≤ length l → k < length ws → get_or ws k 0 ≡ w → start ws k ≡ a
    → cut 0 ws l' ≡ set (cut 0 ws l) k r
cut-spliced-whole ws l l' r a w k e len fits h v s =
    let here : l' ≡ spliced l (a + 0) r = e ∙ ap (λ (b : ℕ). spliced l b r) (sym (add-zero a)) in
    cut-spliced ws l l' r a w k 0 here (omega arith) fits h v s ∙ ap (set (cut 0 ws l) k) (spliced-whole (part l a w) r (omega (arith, length_part l a w fits)))
