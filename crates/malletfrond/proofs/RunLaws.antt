-- What a call does to a sound room, and a run of calls: the reply is that of the room's state, the room stays sound, and its state is the next one. So two rooms that
-- hold the same answer the same, and the readings present are those that the accepted steps, replayed, leave. Assumes nothing.
use Prim.Native.Nat.{ℕ}
use mathlib.Core.Path.{◌≡◌, refl, sym, ap, ap₂, ◌∙◌}
use mathlib.Core.Bool.{Bool, true, false, not, ◌&&◌, ◌||◌, false≢true}
use mathlib.Core.Logic.Iff
use mathlib.Core.Logic.{◌↔◌, ◌⊎◌, inl, inr, ⊎_elim}
use mathlib.Core.List.{List, [], ◌∷◌, map, foldl, Memᴰ}
use Rattle.book.specs.Rules.{Rule}
use Rattle.book.specs.Read.{read_book, accepted}
use Rattle.book.specs.Limits.{Kept}
use Rattle.reading.specs.declared.Reading.{Reading}
use Rattle.reading.specs.Reading.{is_same}
use Rattle.matching.specs.Step.{State, Step, Answer, Settled, add, remove, stepped, opened, with_readings}
use Rattle.matching.specs.Step as v
use Rattle.matching.proofs.Laws.ReadingOrder.{is_same-exact}
use Rattle.matching.proofs.Laws.Steps.{stepped_keeps, stepped-refused, stepped_settled, added-accepted, removed-accepted}
use Rattle.room.specs.Held.{Held, held}
use Rattle.sound.specs.Sound.{Sound, held_of, state_of}
use Rattle.malletfrond.specs.Answers.{CountsAnswer, counted, step_answer}
use Rattle.malletfrond.specs.Promise.{Opens}
use Rattle.malletfrond.specs.Runs.{Call, step, counts, line, check, Reply, Allowed, Event, Run, ended, then, reply_in, state_after, is_accepted, after, replayed}
use Rattle.sound.proofs.SoundLaws.{sound-rules}

-- ---- the state of a sound room

-- it is known by what the room holds
pub sound_state : (room book : List ℕ) (rules : List Rule) (E T : ℕ) (R : List Reading) (s : Sound room) → read_book book ≡ accepted rules → held room ≡ held_of book rules E T R
    → state_of room s ≡ record { book = rules; E = E; T = T; readings = R }
unfolding held_of
sound_state room book rules E T R s reads holds =
    let same : accepted s.rules ≡ accepted rules = sym s.reads ∙ ap (λ (h : Held). read_book h.book) holds ∙ reads in
    let r : s.rules ≡ rules = cc in
    rw (r, holds)

-- two sound rooms that hold the same are in one state
pub state_same : (room other : List ℕ) (s : Sound room) (s' : Sound other) → held room ≡ held other → state_of room s ≡ state_of other s'
state_same room other s s' same =
    let rules : s.rules ≡ s'.rules = sound-rules room other s s' (ap (λ (h : Held). h.book) same) in
    rw (rules, same)

pub opens_state : (room book : List ℕ) (rules : List Rule) (E T : ℕ) (answer : CountsAnswer) (room' : List ℕ) → Opens room book E T answer room' → answer ≡ counted 0 0 0
    → read_book book ≡ accepted rules → (s : Sound room') → state_of room' s ≡ opened rules E T
opens_state room book rules E T answer room' p e reads s = sound_state room' book rules E T [] s reads (p.holds rules e reads)

-- ---- a call

-- book and limits stay
after_keeps : (s : State) (call : Call) → state_after s call ≡ with_readings s (state_after s call).readings
unfolding state_after
after_keeps s (step x) = stepped_keeps s x
after_keeps s counts = refl
after_keeps s (line k buffer) = refl
after_keeps s check = refl

module _ (room : List ℕ) where
  pub allowed_sound : (call : Call) (reply : Reply call) (room' : List ℕ) → Allowed room call reply room' → Sound room → Sound room'
  allowed_sound (step x) reply room' p s = p.sound s
  allowed_sound counts reply room' p s = rw p.1 s
  allowed_sound (line k buffer) reply room' p s = rw p.1 s
  allowed_sound check reply room' p s = rw p.1 s

  module _ (s : Sound room) where
    pub allowed_reply : (call : Call) (reply : Reply call) (room' : List ℕ) → Allowed room call reply room' → reply ≡ reply_in (state_of room s) call
    unfolding reply_in
    allowed_reply (step x) reply room' p = p.answered s
    allowed_reply counts reply room' p = p.0.defined s
    allowed_reply (line k buffer) reply room' p = λ i. (p.0.answered s i, p.0.wrote s i)
    allowed_reply check reply room' p = p.0.exact.1 s

    -- book and limits stay, and the readings are those of the next state
    pub allowed_holds : (call : Call) (reply : Reply call) (room' : List ℕ) → Allowed room call reply room'
        → held room' ≡ held_of (held room).book s.rules (held room).E (held room).T (state_after (state_of room s) call).readings
    unfolding state_after
    allowed_holds (step x) reply room' p = p.holds s
    allowed_holds counts reply room' p = rw p.1 s.holds
    allowed_holds (line k buffer) reply room' p = rw p.1 s.holds
    allowed_holds check reply room' p = rw p.1 s.holds

    pub allowed_state : (call : Call) (reply : Reply call) (room' : List ℕ) → Allowed room call reply room' → (s' : Sound room') → state_of room' s' ≡ state_after (state_of room s) call
    allowed_state call reply room' p s' =
        sound_state room' (held room).book s.rules (held room).E (held room).T (state_after (state_of room s) call).readings s' s.reads (allowed_holds call reply room' p)
        ∙ sym (after_keeps (state_of room s) call)

-- of two sound rooms that hold the same: the same reply, and they hold the same after it
pub allowed_same : (room other : List ℕ) (call : Call) (x y : Reply call) (room' other' : List ℕ) → Sound room → Sound other → held room ≡ held other → Allowed room call x room'
    → Allowed other call y other' → (x ≡ y) × (held room' ≡ held other')
allowed_same room other call x y room' other' s s' same p q =
    let state : state_of room s ≡ state_of other s' = state_same room other s s' same in (
      allowed_reply room s call x room' p ∙ ap (λ (t : State). reply_in t call) state ∙ sym (allowed_reply other s' call y other' q),
      allowed_holds room s call x room' p
          ∙ ap₂ (λ (h : Held) (t : State). held_of h.book t.book h.E h.T (state_after t call).readings) same state
          ∙ sym (allowed_holds other s' call y other' q),
    )

-- ---- a run

abbrev pub calls_of : List Event → List Call
calls_of events = map (λ (e : Event). e.0) events

-- the state after calls one after the other, and the calls with the replies to them
abbrev pub states_after : State → List Call → State
states_after = foldl state_after

abbrev pub events_in : State → List Call → List Event
events_in s [] = []
events_in s (call ∷ calls) = (call, reply_in s call) ∷ events_in (state_after s call) calls

pub run_sound : {room : List ℕ} {events : List Event} {last : List ℕ} → Run room events last → Sound room → Sound last
run_sound ended s = s
run_sound (then {room = room} {middle = middle} {event = event} p r) s = run_sound r (allowed_sound room event.0 event.1 middle p s)

pub run_state : {room : List ℕ} {events : List Event} {last : List ℕ} → Run room events last → (s : Sound room) (s' : Sound last)
    → state_of last s' ≡ states_after (state_of room s) (calls_of events)
run_state (ended {room = room}) s s' = state_same room room s' s refl
run_state (then {room = room} {middle = middle} {event = event} {rest = rest} p r) s s' =
    let m : Sound middle = allowed_sound room event.0 event.1 middle p s in
    run_state r m s' ∙ ap (λ (t : State). states_after t (calls_of rest)) (allowed_state room s event.0 event.1 middle p m)

pub run_replies : {room : List ℕ} {events : List Event} {last : List ℕ} → Run room events last → (s : Sound room) → events ≡ events_in (state_of room s) (calls_of events)
run_replies ended s = refl
run_replies (then {room = room} {middle = middle} {event = event} {rest = rest} p r) s =
    let m : Sound middle = allowed_sound room event.0 event.1 middle p s in
    let here : event.1 ≡ reply_in (state_of room s) event.0 = allowed_reply room s event.0 event.1 middle p in
    let on : rest ≡ events_in (state_after (state_of room s) event.0) (calls_of rest) =
    run_replies r m ∙ ap (λ (t : State). events_in t (calls_of rest)) (allowed_state room s event.0 event.1 middle p m) in
    λ i. (event.0, here i) ∷ on i

-- the book's bytes stay
pub run-book : {room : List ℕ} {events : List Event} {last : List ℕ} → Run room events last → Sound room → (held last).book ≡ (held room).book
unfolding held_of
run-book ended s = refl
run-book (then {room = room} {middle = middle} {event = event} p r) s =
    run-book r (allowed_sound room event.0 event.1 middle p s) ∙ ap (λ (h : Held). h.book) (allowed_holds room s event.0 event.1 middle p)

-- ---- on values: what every call keeps

pub states_keep : (s : State) (calls : List Call) → states_after s calls ≡ with_readings s (states_after s calls).readings
states_keep s [] = refl
states_keep s (call ∷ calls) =
    states_keep (state_after s call) calls ∙ ap (λ (x : State). with_readings x (states_after (state_after s call) calls).readings) (after_keeps s call)

after_settled : (s : State) → Settled s → (call : Call) → Settled (state_after s call)
unfolding state_after
after_settled s h (step x) = stepped_settled s h x
after_settled s h counts = h
after_settled s h (line k buffer) = h
after_settled s h check = h

pub states_settled : (s : State) → Settled s → (calls : List Call) → Settled (states_after s calls)
states_settled s h [] = h
states_settled s h (call ∷ calls) = states_settled (state_after s call) (after_settled s h call) calls

-- ---- the readings present are the accepted steps replayed

-- the set says yes of exactly the readings of the state
abbrev pub Present : State → (Reading → Bool) → Type 0
Present s set = (r : Reading) → Memᴰ r s.readings ↔ (set r ≡ true)

or_either : {A B : Type 0} (b c : Bool) → A ↔ (b ≡ true) → B ↔ (c ≡ true) → (A ⊎ B) ↔ ((b || c) ≡ true)
or_either true c p q = (λ h. refl, λ e. inl (p.1 refl))
or_either false c p q = (⊎_elim (λ x. absurd (false≢true (p.0 x))) q.0, λ e. inr (q.1 e))

and_not : {A B : Type 0} (b c : Bool) → A ↔ (b ≡ true) → B ↔ (c ≡ true) → (B × ¬ A) ↔ ((not b && c) ≡ true)
and_not true c p q = (λ h. absurd (h.1 (p.1 refl)), λ e. absurd (false≢true e))
and_not false c p q = (λ h. q.0 h.0, λ e. (q.1 e, λ x. false≢true (p.0 x)))

module _ (s : State) (k : Kept s.book) (h : Settled s) (set : Reading → Bool) (known : Present s set) where
  stepped-present : (x : Step) → Present (stepped s x).next (after set x (step_answer (stepped s x).answer))
  unfolding stepped after step_answer is_accepted
  stepped-present (add w) = by (stepped s (add w)).answer refl
    where
      by : (a : Answer) → (stepped s (add w)).answer ≡ a → Present (stepped s (add w)).next (after set (add w) (step_answer a))
      by (v.accepted n t c) e r =
          Iff.trans ((added-accepted s w k n t c e).members r) (or_either (is_same r w) (set r) (Iff.symm (is_same-exact r w)) (known r))
      by (v.refused n) e r = rw (stepped-refused s (add w) n e) (known r)
  stepped-present (remove w) = by (stepped s (remove w)).answer refl
    where
      by : (a : Answer) → (stepped s (remove w)).answer ≡ a → Present (stepped s (remove w)).next (after set (remove w) (step_answer a))
      by (v.accepted n t c) e r =
          let other : (w ≡ r) ↔ (is_same r w ≡ true) = (λ q. (is_same-exact r w).1 (sym q), λ q. sym ((is_same-exact r w).0 q)) in
          Iff.trans ((removed-accepted s w k n t c h.ascending e).members r) (and_not (is_same r w) (set r) other (known r))
      by (v.refused n) e r = rw (stepped-refused s (remove w) n e) (known r)

pub replayed-present : (s : State) → Kept s.book → Settled s → (set : Reading → Bool) → Present s set → (calls : List Call)
    → Present (states_after s calls) (replayed set (events_in s calls))
unfolding replayed state_after reply_in
replayed-present s k h set known [] = known
replayed-present s k h set known (step x ∷ calls) =
    replayed-present (stepped s x).next (rw (stepped_keeps s x) k) (stepped_settled s h x) (after set x (step_answer (stepped s x).answer))
    (stepped-present s k h set known x) calls
replayed-present s k h set known (counts ∷ calls) = replayed-present s k h set known calls
replayed-present s k h set known (line j buffer ∷ calls) = replayed-present s k h set known calls
replayed-present s k h set known (check ∷ calls) = replayed-present s k h set known calls
