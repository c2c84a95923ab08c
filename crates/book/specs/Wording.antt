-- The wording by rule number: "the book, then 17". Assumes nothing: these are definitions.
use Rattle.std.specs.Prelude.{ℕ, ◌+◌, List, [], ◌∷◌, cond, eqb, Option, Some, None, Result, Ok, Err}
use Rattle.numbers.specs.BigEndian.{uint}
use Rattle.book.specs.declared.refusal.Cause.TheVariants.{NoSuchRule}
use Rattle.book.specs.declared.refusal.Refusal.{Refusal}
use Rattle.book.specs.Refusals.{refusal}
use Rattle.book.specs.Rules.{Rule, conditions_size}
use Rattle.book.specs.Read.{BookRead, accepted, refused}

-- the wording of the rule of that number; no bytes where there is none
unfoldable pub wording_in : List Rule → ℕ → List ℕ
wording_in [] n = []
wording_in (r ∷ rules) n = cond (eqb r.number n) r.wording (wording_in rules n)

-- "The wording comes back as that part of the lent book, all 24 bytes; on a refusal the part is empty"
unfoldable pub rule_wording : BookRead → ℕ → List ℕ
rule_wording (accepted rules) n = wording_in rules n
rule_wording (refused e) n = []

-- where it stands: three bytes into the rule's record; "no rule of that number in the book" is 17
unfoldable pub wording_place_in : ℕ → List Rule → ℕ → Result ℕ Refusal
wording_place_in at [] n = Err (refusal NoSuchRule 0)
wording_place_in at (r ∷ rules) n =
    cond (eqb r.number n) (Ok (at + 3)) (wording_place_in (at + (27 + conditions_size r.conditions)) rules n)

unfoldable pub wording_place : BookRead → ℕ → Result ℕ Refusal
wording_place (accepted rules) n = wording_place_in 0 rules n
wording_place (refused e) n = Err e

-- the same, sought among the places of rule records: what the code's loop answers
unfoldable pub sought : List ℕ → List ℕ → ℕ → Result ℕ Refusal
sought book [] n = Err (refusal NoSuchRule 0)
sought book (p ∷ places) n = cond (eqb (uint 2 book (p + 1)) n) (Ok (p + 3)) (sought book places n)

-- "a call beside it gives number and place": none where there is a wording
unfoldable pub refusal_in : Result ℕ Refusal → Option Refusal
refusal_in (Ok offset) = None
refusal_in (Err e) = Some e
