-- The slots of a list noted one by one, each at its own place: no slot stands twice exactly if none is noted already when it comes. Assumes nothing.
use Prim.Native.Nat.{ℕ, ◌+◌, ◌≤◌, ◌<◌}
use mathlib.Core.Path.{◌≡◌, refl, sym, ap, ◌∙◌}
use mathlib.Core.Bool.{Bool, true, false, cond}
use mathlib.Core.List.{List, [], ◌∷◌, ◌++◌}
use native.Mathlib.Numerals.{add-one}
use native.Mathlib.Omega.{arith}
use borrow.Author.Tests.{ltb-true, ltb-false, lt-ltb, eqb-true, eqb-false, eq-eqb}
use lib.Dec.{eqb, ltb}
use lib.ListN.{length, take, drop, get_or, set, replicate, length-set, length-replicate, get_or-replicate, take-append-drop}
use lib.Seq.{get_or-set_same, get_or-set_other, take-suc}
use Rattle.room.specs.Held.{times, Once}
use Rattle.room.proofs.Order.{times-append}

-- the slots of l, none of which stands there twice, are those noted
pub record Noted (seen : List Bool) (l : List ℕ) : Type 0 where
  pub long : length seen ≡ 256
  pub once : Once l
  pub marks : (s : ℕ) → s < 256 → get_or seen s false ≡ ltb 0 (times s l)

pub noted-none : Noted (replicate 256 false) []
unfolding times
noted-none = record { long = length-replicate 256 false; once = λ s. omega arith; marks = λ s h. get_or-replicate 256 s false false h }

-- one slot more
times-last : (s : ℕ) (l : List ℕ) (x : ℕ) → times s (l ++ x ∷ []) ≡ times s l + cond (eqb s x) 1 0
unfolding times
times-last s l x = omega (arith, times-append s l (x ∷ []))

module _ (order : List ℕ) (i : ℕ) (h : i < length order) where
  times-next : (s : ℕ) → times s (take (i + 1) order) ≡ times s (take i order) + cond (eqb s (get_or order i 0)) 1 0
  times-next s = rw (add-one, take-suc order i 0) (times-last s (take i order) (get_or order i 0))

  module _ (seen : List Bool) (n : Noted seen (take i order)) (small : get_or order i 0 < 256) where
    -- a slot noted before stands twice
    pub noted_twice : get_or seen (get_or order i 0) false ≡ true → Once order → ⊥
    noted_twice e once =
        let s = get_or order i 0 in
        let before : 0 < times s (take i order) = ltb-true _ _ (sym (n.marks s small) ∙ e) in
        let now : times s (take (i + 1) order) ≡ times s (take i order) + 1 = times-next s ∙ ap (λ (b : Bool). times s (take i order) + cond b 1 0) (eq-eqb s s refl) in
        let whole : times s (take (i + 1) order) + times s (drop (i + 1) order) ≡ times s order =
        sym (times-append s (take (i + 1) order) (drop (i + 1) order)) ∙ ap (times s) (take-append-drop (i + 1) order) in
        omega (arith, once s)

    pub noted_more : get_or seen (get_or order i 0) false ≡ false → Noted (set seen (get_or order i 0) true) (take (i + 1) order)
    noted_more e =
        let x = get_or order i 0 in
        record {
          long = length-set seen x true ∙ n.long;
          once = λ s. once-at s (eqb s x) refl;
          marks = λ s l. mark-at s l (eqb s x) refl;
        }
      where
        next : (s : ℕ) (b : Bool) → eqb s (get_or order i 0) ≡ b → times s (take (i + 1) order) ≡ times s (take i order) + cond b 1 0
        next s b q = times-next s ∙ ap (λ (c : Bool). times s (take i order) + cond c 1 0) q

        once-at : (s : ℕ) (b : Bool) → eqb s (get_or order i 0) ≡ b → times s (take (i + 1) order) ≤ 1
        once-at s true q =
            let none : times (get_or order i 0) (take i order) ≤ 0 = ltb-false _ _ (sym (n.marks (get_or order i 0) small) ∙ e) in
            omega (arith, next s true q, ap (λ (t : ℕ). times t (take i order)) (eqb-true s (get_or order i 0) q))
        once-at s false q = omega (arith, next s false q, n.once s)

        mark-at : (s : ℕ) → s < 256 → (b : Bool) → eqb s (get_or order i 0) ≡ b → get_or (set seen (get_or order i 0) true) s false ≡ ltb 0 (times s (take (i + 1) order))
        mark-at s l true q =
            ap (λ (t : ℕ). get_or (set seen (get_or order i 0) true) t false) (eqb-true s (get_or order i 0) q)
            ∙ get_or-set_same seen (get_or order i 0) true false (omega (arith, n.long))
            ∙ sym (lt-ltb 0 (times s (take (i + 1) order)) (omega (arith, next s true q)))
        mark-at s l false q =
            let same : times s (take i order) ≡ times s (take (i + 1) order) = omega (arith, next s false q) in
            get_or-set_other seen (get_or order i 0) s true false (eqb-false s (get_or order i 0) q)
            ∙ n.marks s l
            ∙ ap (ltb 0) same
