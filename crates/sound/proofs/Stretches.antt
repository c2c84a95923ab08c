-- The stored tokens of all rules stand in stretches, one for each rule, each up to the index after its last token. Assumes nothing.
use Prim.Native.Nat.{ℕ, zero, suc, ◌+◌, ◌≤◌, ◌<◌}
use mathlib.Core.Path.{◌≡◌, refl, ap}
use mathlib.Core.Bool.{Bool}
use mathlib.Core.Logic.{⊎_elim}
use mathlib.Core.List.{List, [], ◌∷◌}
use mathlib.Core.List.Memᴰ
use mathlib.Core.List.{Memᴰ}
use native.Mathlib.Omega.{arith}
use lib.ListN.{length, take, get_or}
use Rattle.reading.specs.declared.Reading.{Reading}
use Rattle.room.specs.Held.{Stored, stored}
use Rattle.weave.specs.Built.{token, built}
use Rattle.weave.specs.Weave.{olds_from}
use Rattle.rete.specs.Rules.{rules_built, ends_built, Stretches}
use Rattle.weave.proofs.OldLaws.{olds_past, olds_begin}
use Rattle.sound.proofs.Stored.{Used}

-- ---- stored tokens: the slots in them

pub stored-used : (os : List ℕ) (n : ℕ) (ns ls : List ℕ) → ((k : ℕ) → k < n → Memᴰ (get_or ls k 0) os) → Used os (stored (take n ns) (take n ls))
unfolding stored
stored-used os zero ns ls h t m = absurd (Memᴰ.not-nil m)
stored-used os (suc n) [] ls h t m = absurd (Memᴰ.not-nil m)
stored-used os (suc n) (x ∷ ns) [] h t m = absurd (Memᴰ.not-nil m)
stored-used os (suc n) (x ∷ ns) (y ∷ ls) h t m =
    ⊎_elim (λ e. Memᴰ.cast (ap (λ (z : Stored). z.last) e) (h 0 (omega arith))) (stored-used os n ns ls (λ k b. h (suc k) (omega arith)) t) (Memᴰ.cases_cons m)

pub used-stored : (os : List ℕ) (n : ℕ) (ns ls : List ℕ) → n ≤ length ns → n ≤ length ls → Used os (stored (take n ns) (take n ls))
    → (k : ℕ) → k < n → Memᴰ (get_or ls k 0) os
unfolding stored
used-stored os zero ns ls h i u k l = absurd (omega arith)
used-stored os (suc n) [] ls h i u k l = absurd (omega arith)
used-stored os (suc n) (x ∷ ns) [] h i u k l = absurd (omega arith)
used-stored os (suc n) (x ∷ ns) (y ∷ ls) h i u zero l = u (token x y) (Memᴰ.head refl)
used-stored os (suc n) (x ∷ ns) (y ∷ ls) h i u (suc k) l = used-stored os n ns ls (omega arith) (omega arith) (λ t m. u t (Memᴰ.tail m)) k (omega arith)

-- ---- rule after rule

module _ (ns ls os : List ℕ) (read : ℕ → Reading) (pass : ℕ → List Reading → ℕ → Bool) (n : ℕ) (nodes_long : n ≤ length ns) (lasts_long : n ≤ length ls) where
  pub stretches_built : (i c : ℕ) (ks : List ℕ) → i ≤ n → olds_from ns ls i n ≡ rules_built os read pass c ks → Stretches ns ls os read pass i c (ends_built os read pass i c ks) ks
  unfolding rules_built ends_built
  stretches_built i c [] h e = tt
  stretches_built i c (k ∷ ks) h e =
      let xs : List Stored = built os read pass k c [] in
      let ys : List Stored = rules_built os read pass (c + k) ks in
      let B = olds_begin ns ls n nodes_long lasts_long i xs ys h e in (
        omega arith,
        B.first,
        stretches_built (i + length xs) (c + k) ks B.within (olds_past ns ls i n xs ys e),
      )
