-- A part of a list replaced by one as long: the same list with a part written over, and what each part of it then is. Assumes nothing.
use Prim.Native.Nat.{ℕ, ◌+◌, ◌≤◌}
use mathlib.Core.Path.{◌≡◌, sym, ap, ◌∙◌}
use mathlib.Core.List.{List, ◌++◌, append_assoc}
use native.Mathlib.Omega.{arith}
use lib.ListN.{length, take, drop, length-append, length-drop, take-append-drop}
use lib.Seq.{drop-append-le, drop_at, drop-drop, length-take-le, take-add, take-take}
use Rattle.numbers.specs.Spliced.{spliced}
use Rattle.numbers.proofs.Spliced.{take-spliced, part-spliced, drop-spliced, length-spliced}
use Rattle.room.specs.Parts.{part, put}

pub length_part : (l : List ℕ) (a w : ℕ) → a + w ≤ length l → length (part l a w) ≡ w
length_part l a w h = length-take-le w (drop a l) (omega (arith, length-drop a l))

-- a part depends on what stands up to its end
part_from : (l : List ℕ) (b m : ℕ) → b ≤ length l → part l b m ≡ drop b (take (b + m) l)
part_from l b m h = sym (ap (drop b) (take-add b m l) ∙ drop_at (take b l) (part l b m) b (length-take-le b l h))

-- a list that kept its length kept that of its part
pub length-put : (l l' : List ℕ) (a w : ℕ) (r : List ℕ) → l' ≡ put l a w r → length l' ≡ length l → a + w ≤ length l → length r ≡ w
length-put l l' a w r e same fits =
    omega (
      arith,
      ap length e,
      length-append (take a l) (r ++ drop w (drop a l)),
      length-append r (drop w (drop a l)),
      length-take-le a l (omega arith),
      length-drop w (drop a l),
      length-drop a l,
    )

module _ (l : List ℕ) (a w : ℕ) (r : List ℕ) (len : length r ≡ w) (fits : a + w ≤ length l) where
  put-spliced : put l a w r ≡ spliced l a r
  unfolding spliced
  put-spliced =
      ap (λ (t : List ℕ). take a l ++ (r ++ t)) (drop-drop w a l ∙ ap (λ (k : ℕ). drop (a + k) l) (sym len))

  pub put_same : part (put l a w r) a w ≡ r
  put_same =
      ap (λ (x : List ℕ). part x a w) put-spliced
      ∙ ap (λ (k : ℕ). part (spliced l a r) a k) (sym len)
      ∙ part-spliced l a r (omega arith)

  pub put-past : (b : ℕ) → a + w ≤ b → drop b (put l a w r) ≡ drop b l
  put-past b h = ap (drop b) put-spliced ∙ drop-spliced l a r (omega arith) b (omega arith)

  pub put-before : (b m : ℕ) → b + m ≤ a → part (put l a w r) b m ≡ part l b m
  put-before b m h =
      ap (λ (x : List ℕ). part x b m) put-spliced
      ∙ part_from (spliced l a r) b m (omega (arith, length-spliced l a r (omega arith)))
      ∙ ap (drop b) (take-spliced l a r (omega arith) (b + m) h)
      ∙ sym (part_from l b m (omega arith))

-- a list written over within one part is that part, written over, put back
pub spliced-put : (l : List ℕ) (a w o : ℕ) (ys : List ℕ) → o + length ys ≤ w → a + w ≤ length l → spliced l (a + o) ys ≡ put l a w (spliced (part l a w) o ys)
unfolding spliced
spliced-put l a w o ys h fits =
    let d : List ℕ = drop a l in
    let end : a + (o + length ys) ≡ a + o + length ys = omega arith in
    let front : take a l ++ take o (part l a w) ≡ take (a + o) l =
    ap (λ (x : List ℕ). take a l ++ x) (take-take o w d (omega arith)) ∙ sym (take-add a o l) in
    let back : drop (o + length ys) (part l a w) ++ drop w d ≡ drop (a + o + length ys) l =
    sym (drop-append-le (o + length ys) (part l a w) (drop w d) (omega (arith, length_part l a w fits)))
    ∙ ap (drop (o + length ys)) (take-append-drop w d)
    ∙ drop-drop (o + length ys) a l
    ∙ ap (λ (k : ℕ). drop k l) end in
    rw (← front, ← back) (simp append_assoc)
