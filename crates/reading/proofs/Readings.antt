-- Laws of `is_less` and `is_same`: of two readings the first number in which they differ decides, and the derived comparisons are these. Assumes nothing.
use mathlib.Core.Path.{◌≡◌, refl, ap, ◌∙◌}
use mathlib.Core.Bool.{Bool, true, false, not, cond, ◌&&◌, ◌||◌}
use Prim.Native.Nat.{ℕ, ◌<◌}
use native.Mathlib.Omega.{arith}
use borrow.Author.Tests.{lt-ltb, le-ltb, eq-eqb}
use lib.Dec.{ltb, eqb}
use Rattle.std.proofs.Common.{Some, nat_cmp}
use Rattle.std.specs.declared.cmp.Ordering.{Ordering}
use Rattle.std.specs.declared.cmp.Ordering.TheVariants.{Less, Equal, Greater}
use Rattle.std.specs.Ordering.{is_lt, is_ge, is_some_and, ordering_then, partial_ordering_then, partial_lt, partial_ge}
use Rattle.reading.specs.declared.Reading.{Reading}
use Rattle.reading.specs.contracts.ReadingPartialEq.TheImpl.{eq-value}
use Rattle.reading.specs.contracts.ReadingPartialOrd.TheImpl.{partial_cmp-value}
use Rattle.reading.specs.contracts.ReadingOrd.TheImpl.{cmp-value}
use Rattle.reading.specs.Reading.{is_less, is_same}

-- ---- one number, and then the rest

module _ (x y : ℕ) (rest : Bool) where
  less-first : x < y → (ltb x y || (eqb x y && rest)) ≡ true
  less-first h = simp (lt-ltb x y h)

  less_rest : x ≡ y → (ltb x y || (eqb x y && rest)) ≡ rest
  less_rest e = simp (le-ltb x y (omega arith), eq-eqb x y e)

module _ (a b : Reading) where
  -- ---- is_less

  pub is_less-line : a.line < b.line → is_less a b ≡ true
  unfolding is_less
  is_less-line h = less-first _ _ _ h

  pub is_less_value : a.line ≡ b.line → a.column ≡ b.column → is_less a b ≡ ltb a.value b.value
  unfolding is_less
  is_less_value e f = less_rest _ _ _ e ∙ less_rest _ _ _ f

-- ---- the derived comparisons: `<`, `>=`, `cmp` and `==` on readings are these definitions

-- one number compared, and where it is the same the rest
lt_first : (p q : Bool) (o : Ordering) → is_lt (ordering_then (cond p Less (cond q Equal Greater)) o) ≡ (p || (q && is_lt o))
lt_first true q o = refl
lt_first false true o = refl
lt_first false false o = refl

lt-last : (p q : Bool) → is_lt (cond p Less (cond q Equal Greater)) ≡ p
lt-last true q = refl
lt-last false true = refl
lt-last false false = refl

ge_lt : (o : Ordering) → is_ge o ≡ not (is_lt o)
ge_lt Less = refl
ge_lt Equal = refl
ge_lt Greater = refl

some_then : (o p : Ordering) → partial_ordering_then (Some o) (Some p) ≡ Some (ordering_then o p)
some_then Less p = refl
some_then Equal p = refl
some_then Greater p = refl

module _ (a b : Reading) where
  pub cmp_is_less : is_lt (cmp-value.it a b) ≡ is_less a b
  unfolding is_less
  cmp_is_less =
      lt_first _ _ _
      ∙ ap (λ (rest : Bool). ltb a.line b.line || (eqb a.line b.line && rest)) (lt_first _ _ _ ∙ ap (λ (rest : Bool). ltb a.column b.column || (eqb a.column b.column && rest)) (lt-last _ _))

  some_cmp : partial_cmp-value.it a b ≡ Some (cmp-value.it a b)
  some_cmp =
      let rest : Ordering = ordering_then (nat_cmp a.column b.column) (nat_cmp a.value b.value) in
      ap (partial_ordering_then (Some (nat_cmp a.line b.line))) (some_then (nat_cmp a.column b.column) (nat_cmp a.value b.value)) ∙ some_then (nat_cmp a.line b.line) rest

  pub lt_is_less : partial_lt partial_cmp-value.it a b ≡ is_less a b
  lt_is_less = ap (is_some_and is_lt) some_cmp ∙ cmp_is_less

  pub ge_is_less : partial_ge partial_cmp-value.it a b ≡ not (is_less a b)
  ge_is_less = ap (is_some_and is_ge) some_cmp ∙ ge_lt _ ∙ ap not cmp_is_less

  pub eq_is_same : eq-value.it a b ≡ is_same a b
  unfolding is_same
  eq_is_same = refl
