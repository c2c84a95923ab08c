-- The three demands, each one theorem: over every call, and over every run of calls from an accepted opening. Assumes nothing.
use Prim.Native.Nat.{ℕ}
use mathlib.Core.Path.{◌≡◌}
use mathlib.Core.Bool.{false}
use mathlib.Core.List.{List, map}
use lib.ListN.{length, drop}
use Rattle.std.specs.Prelude.{Err}
use Rattle.book.specs.declared.refusal.Refusal.{Refusal}
use Rattle.book.specs.Rules.{Rule}
use Rattle.reading.specs.declared.Reading.{Reading}
use Rattle.room.specs.Layout.{formula}
use Rattle.room.specs.Held.{held}
use Rattle.malletfrond.specs.Answers.{CountsAnswer}
use Rattle.malletfrond.specs.Promise.{Opens}
use Rattle.malletfrond.specs.Runs.{Call, Reply, Allowed, Event, Run, replayed}
use Rattle.malletfrond.specs.Demand.{Untouched, Reached, Exact, Listed}
use Rattle.malletfrond.proofs.DemandLaws.{allowed_untouched, reached-sound, reached-holds, reached-present, reached-within, reached_reply}
use Rattle.malletfrond.proofs.DemandLaws.{reached_listed, reached-same, runs_same}

-- demand 1: a refusal changes no lent byte, and nothing past the formula, and nothing of a buffer behind the line, ever changes
pub demand_1 : ((room book : List ℕ) (E T : ℕ) (answer : CountsAnswer) (room' : List ℕ) → Opens room book E T answer room'
    → ((e : Refusal) → answer ≡ Err e → room' ≡ room) × (drop (formula E T) room' ≡ drop (formula E T) room) × (length room' ≡ length room))
    × ((room : List ℕ) (call : Call) (reply : Reply call) (room' : List ℕ) → Allowed room call reply room' → Untouched room call reply room')
demand_1 = (λ room book E T answer room' p. (p.untouched, p.past, p.long), allowed_untouched)

-- demand 2: what is held is exactly what conjunctive match defines for the readings present, and every next reply is that of the state on values
pub demand_2 : (book : List ℕ) (rules : List Rule) (E T : ℕ) (events : List Event) (last : List ℕ) → Reached book rules E T events last → Exact book rules E T events last
demand_2 book rules E T events last r =
    record {
      readings = (held last).readings;
      present = reached-present r;
      ascending = (reached-sound r).ascending;
      within = reached-within r;
      sound = reached-sound r;
      holds = reached-holds r;
      next = reached_reply r;
    }

-- demand 3: complaints are listed each once, in order; and the same readings present, whatever steps led there, answer the same calls the same
pub demand_3 : (book : List ℕ) (rules : List Rule) (E T : ℕ)
    → ((events : List Event) (last : List ℕ) → Reached book rules E T events last → Listed rules (held last).readings last)
    × ((events events' : List Event) (last last' : List ℕ) → Reached book rules E T events last → Reached book rules E T events' last'
    → ((r : Reading) → replayed (λ x. false) events r ≡ replayed (λ x. false) events' r)
    → (later later' : List Event) (end end' : List ℕ) → Run last later end → Run last' later' end' → map (λ (e : Event). e.0) later ≡ map (λ (e : Event). e.0) later' → later ≡ later')
demand_3 book rules E T = (
  λ events last r. reached_listed r,
  λ events events' last last' r r' same later later' end end' p q calls. runs_same (reached-sound r) (reached-sound r') (reached-same r r' same) p q calls,
)
