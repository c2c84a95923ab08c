-- What is known of a record that is taken: none of refusals 4, 7, 5 and 6 is given.
-- Assumes nothing.
use Prim.Native.Nat.{ℕ, ◌-◌, ◌<◌}
use mathlib.Core.Path.{◌≡◌, refl}
use mathlib.Core.List.{List, [], ◌∷◌}
use mathlib.Core.Bool.{Bool, true, false, cond, true≢false}
use native.Mathlib.Omega.{arith}
use borrow.Author.Tests.{leb-false, eqb-false, ne_eqb}
use lib.Dec.{leb, eqb}
use Rattle.std.specs.Prelude.{Err}
use Rattle.book.specs.declared.judgement.Standing.{Standing}
use Rattle.book.specs.declared.record.Test.{Test}
use Rattle.book.specs.declared.refusal.Cause.{Cause}
use Rattle.book.specs.Judgement.{Judged, taken, printable, wording_of, test_fits, unfinished, rule_judged, condition_judged, test_judged, end_judged}
use Rattle.book.specs.Rules.{Rule, no_rule, last_or, standing}

-- a refusal that is not given, and the ones tried after it
not_given : (b : Bool) (cause : Cause) (rest : Judged) → cond b (Err cause) rest ≡ taken → (b ≡ false) × (rest ≡ taken)
not_given true cause rest e = cc
not_given false cause rest e = (refl, e)

-- the last one tried
passed : (b : Bool) (cause : Cause) → cond b taken (Err cause) ≡ taken → b ≡ true
passed true cause e = refl
passed false cause e = cc

pub record RuleTaken (s : Standing) (number : ℕ) (body : List ℕ) : Type 0 where
  pub finished : unfinished s ≡ false
  pub room : s.rules < 32
  pub above : s.last < number
  pub printed : printable (wording_of body) ≡ true

pub rule-taken : (s : Standing) (number : ℕ) (body : List ℕ) → rule_judged s number body ≡ taken → RuleTaken s number body
unfolding rule_judged
rule-taken s number body e =
    let four = not_given (unfinished s) _ _ e in
    let seven = not_given (leb 32 s.rules) _ _ four.1 in
    let five = not_given (leb number s.last) _ _ seven.1 in
    record { finished = four.0; room = leb-false 32 s.rules seven.0; above = leb-false number s.last five.0; printed = passed (printable (wording_of body)) _ five.1 }

pub record ConditionTaken (s : Standing) : Type 0 where
  pub under : 0 < s.rules
  pub room : s.conditions < 6

pub condition_taken : (s : Standing) → condition_judged s ≡ taken → ConditionTaken s
unfolding condition_judged
condition_taken s e =
    let four = not_given (eqb s.rules 0) _ _ e in
    let seven = not_given (leb 6 s.conditions) _ _ four.1 in
    record { under = omega (arith, eqb-false s.rules 0 four.0); room = leb-false 6 s.conditions seven.0 }

pub record TestTaken (s : Standing) (t : Test) : Type 0 where
  pub under : 0 < s.conditions
  pub room : s.tests < 8
  pub fits : test_fits t (s.conditions - 1) ≡ true

pub test_taken : (s : Standing) (t : Test) → test_judged s t ≡ taken → TestTaken s t
unfolding test_judged
test_taken s t e =
    let four = not_given (eqb s.conditions 0) _ _ e in
    let seven = not_given (leb 8 s.tests) _ _ four.1 in
    record { under = omega (arith, eqb-false s.conditions 0 four.0); room = leb-false 8 s.tests seven.0; fits = passed (test_fits t (s.conditions - 1)) _ seven.1 }

pub end-taken : (s : Standing) → end_judged s ≡ taken → unfinished s ≡ false
unfolding end_judged
end-taken s e = (not_given (unfinished s) _ _ e).0

pub finished_some : (s : Standing) → unfinished s ≡ false → 0 < s.rules → 0 < s.conditions
unfolding unfinished
finished_some s e h = by (eqb s.conditions 0) refl where
  by : (b : Bool) → eqb s.conditions 0 ≡ b → 0 < s.conditions
  by true t =
      let n : eqb s.rules 0 ≡ false = ne_eqb s.rules 0 (λ z. omega arith) in
      absurd (true≢false (rw (t, n) at e))
  by false t = omega (arith, eqb-false s.conditions 0 t)

-- where the rule in hand has a condition there is a rule in hand
pub standing-some : (rules : List Rule) → 0 < (standing rules).conditions → 0 < (standing rules).rules
unfolding standing last_or no_rule
standing-some [] h = h
standing-some (rule ∷ rules) h = omega arith
