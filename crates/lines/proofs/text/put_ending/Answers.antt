-- A space, the bar, the bytes shown and a newline stand one behind the other.
use Rattle.std.proofs.Common.{◌≡◌, ◌+◌, ◌-◌, ◌≤◌, ℕ, List, [], ◌∷◌, ◌++◌, length, take, set, length-set, length-take-le, arith, ap, ◌∙◌}
use borrow.Rule.Slice.PartMut.{put_mid}
use Rattle.numbers.specs.Spliced.{spliced}
use Rattle.numbers.proofs.Spliced.{put_mid-spliced}
use Rattle.lines.specs.Line.{trimmed, ending}
use Rattle.lines.proofs.Front.{Front, front_nil, front_byte, front_more}
use Rattle.lines.proofs.LineLaws.{length-ending}
use Rattle.lines.proofs.text.put_ending.Goals as goal

-- the buffer has place for the bytes shown and three more
enough : (free wording : List ℕ) (n : ℕ) → (take n wording ≡ trimmed wording) × ((n ≤ length wording) × (length (ending wording) ≤ length free)) → n + 3 ≤ length free
enough free w n q = omega (arith, q.1.1, length-ending w, ap length q.0, length-take-le n w q.1.0)

begun : (free : List ℕ) → 2 ≤ length free → Front free (32 ∷ 124 ∷ []) (set (set free 0 32) 1 124) 2
begun free h = front_byte (front_byte (front_nil free) 32 (omega arith)) 124 (omega arith)

pub bounds-free-0 : goal.bounds-free-0
bounds-free-0 c = omega (arith, enough c.args.free.now c.args.wording.now c.args.n c.requires)

pub bounds-free-1 : goal.bounds-free-1
bounds-free-1 c = simp length-set (omega (arith, enough c.args.free.now c.args.wording.now c.args.n c.requires))

pub slice_bounds-copy_from_slice-end : goal.slice_bounds-copy_from_slice-end
slice_bounds-copy_from_slice-end c = simp length-set (omega (arith, enough c.args.free.now c.args.wording.now c.args.n c.requires))

-- the bytes shown behind the first two
shown : (free wording : List ℕ) (n k : ℕ) (q : (take n wording ≡ trimmed wording) × ((n ≤ length wording) × (length (ending wording) ≤ length free))) {bytes : List ℕ}
    → k ≡ n → bytes ≡ take n wording → Front free ((32 ∷ 124 ∷ []) ++ trimmed wording) (put_mid 2 k (set (set free 0 32) 1 124) bytes) (2 + n)
shown free w n k q e b =
    let h = enough free w n q in
    let m : length (trimmed w) ≡ n = omega (arith, ap length q.0, length-take-le n w q.1.0) in
    let t = b ∙ q.0 in
    front_more (begun free (omega arith)) (trimmed w) {n = n} (omega arith) (omega arith)
    (put_mid-spliced 2 k _ _ (omega (arith, ap length t)) ∙ ap (spliced (set (set free 0 32) 1 124) 2) t)

pub bounds-free-n : goal.bounds-free-n
bounds-free-n c =
    let a = c.args in
    omega (arith, enough a.free.now a.wording.now a.n c.requires, (shown a.free.now a.wording.now a.n (2 + a.n - 2) c.requires (omega arith) c.copy_from_slice.ensures.after).long)

pub returns : goal.returns
unfolding ending
returns c =
    let a = c.args in
    let h = enough a.free.now a.wording.now a.n c.requires in
    (front_byte (shown a.free.now a.wording.now a.n (2 + a.n - 2) c.requires (omega arith) c.copy_from_slice.ensures.after) 10 (omega arith)).bytes
