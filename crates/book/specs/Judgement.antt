-- Refusals 4, 7, 5 and 6 of a record that was taken apart, by what the records before it have left. Assumes nothing: these are definitions.
use Rattle.std.specs.Prelude.{ℕ, ◌+◌, ◌-◌, ◌≤◌, List, [], ◌∷◌, Bool, true, cond, not, ◌&&◌, leb, eqb, length, take, drop, Result, Ok, Err}
use Rattle.std.specs.Int.Signed.{le_z}
use Rattle.book.specs.declared.judgement.Standing.{Standing}
use Rattle.book.specs.declared.record.Record.{Record}
use Rattle.book.specs.declared.record.Record.TheVariants.{Rule, Condition, Test, End}
use Rattle.book.specs.declared.record.Test as t
use Rattle.book.specs.declared.refusal.Cause.{Cause}
use Rattle.book.specs.declared.refusal.Cause.TheVariants.{Misplaced, TooMany, NumberNotAbove, BadBody}
use Rattle.book.specs.declared.record.Test.TheVariants.{Constant, Position, Gap}

-- "wording (24 bytes, each 32 to 126, ..)"
unfoldable pub printable : List ℕ → Bool
printable [] = true
printable (b ∷ bs) = leb 32 b && leb b 126 && printable bs

-- the wording in a rule's body: the 24 bytes after the number; no bytes where they are not all there
unfoldable pub wording_of : List ℕ → List ℕ
wording_of body = cond (leb 26 (length body)) (take 24 (drop 2 body)) []

-- a test's numbers are in range in condition `own`: no "place over 2, relation over 5, condition after its own, low above high"
unfoldable pub test_fits : t.Test → ℕ → Bool
test_fits (Constant place relation number) own = leb place 2 && leb relation 5
test_fits (Position place relation condition other) own = leb place 2 && leb relation 5 && leb condition own && leb other 2
test_fits (Gap place condition other low high) own = leb place 2 && leb condition own && leb other 2 && le_z low high

-- "the rule before has no condition"
unfoldable pub unfinished : Standing → Bool
unfinished s = not (eqb s.rules 0) && eqb s.conditions 0

-- taken, or refused for a cause
abbrev pub Judged : Type 0
Judged = Result (Unit {0}) Cause

abbrev pub taken : Judged
taken = Ok tt

-- the first that holds, in the order 4, 7, 5, 6; taken where none does
-- 4: "next rule .. when the rule before has no condition"; 7: "33rd rule"; 5: "rule number not above the one before (the first not above 0)"; 6: "wording byte"
unfoldable pub rule_judged : Standing → ℕ → List ℕ → Judged
rule_judged s number body =
    cond (unfinished s) (Err Misplaced) (cond (leb 32 s.rules) (Err TooMany) (cond (leb number s.last) (Err NumberNotAbove) (cond (printable (wording_of body)) taken (Err BadBody))))

-- 4: "condition .. before any rule"; 7: "7th condition"
unfoldable pub condition_judged : Standing → Judged
condition_judged s = cond (eqb s.rules 0) (Err Misplaced) (cond (leb 6 s.conditions) (Err TooMany) taken)

-- 4: "test before any rule; test before any condition of its rule"; 7: "9th test"; 6: "place over 2, .."
unfoldable pub test_judged : Standing → t.Test → Judged
test_judged s t = cond (eqb s.conditions 0) (Err Misplaced) (cond (leb 8 s.tests) (Err TooMany) (cond (test_fits t (s.conditions - 1)) taken (Err BadBody)))

-- 4: "end when the rule before has no condition"
unfoldable pub end_judged : Standing → Judged
end_judged s = cond (unfinished s) (Err Misplaced) taken

unfoldable pub judged : Standing → Record → List ℕ → Judged
judged s (Rule number) body = rule_judged s number body
judged s Condition body = condition_judged s
judged s (Test t) body = test_judged s t
judged s End body = end_judged s

-- what a record that is taken leaves to the next
unfoldable pub after : Standing → Record → Standing
after s (Rule number) = record { rules = s.rules + 1; last = number; conditions = 0; tests = 0; total = s.total }
after s Condition = record { rules = s.rules; last = s.last; conditions = s.conditions + 1; tests = 0; total = s.total + 1 }
after s (Test t) = record { rules = s.rules; last = s.last; conditions = s.conditions; tests = s.tests + 1; total = s.total }
after s End = s

-- "Limits: 8,192 bytes, 32 rules, 6 conditions a rule, 8 tests a condition."
pub record Within (s : Standing) : Type 0 where
  pub rules : s.rules ≤ 32
  pub conditions : s.conditions ≤ 6
  pub tests : s.tests ≤ 8
  pub total : s.total ≤ 192
