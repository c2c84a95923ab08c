-- What the three demands rest on: no call changes what it may not, a room that a run has led to is in the state that the replies tell, and a line of its complaints fits
-- a buffer of 230 bytes. Assumes nothing.
use Prim.Native.Nat.{ℕ, ◌≤◌, ◌<◌}
use mathlib.Core.Path.{◌≡◌, refl, sym, ap, ap₂, ◌∙◌, subst}
use mathlib.Core.Bool.{Bool, true, false, not, ◌&&◌, ◌||◌, false≢true, and-eq-true_iff}
use mathlib.Core.Logic.{inl}
use mathlib.Core.List.Memᴰ
use mathlib.Core.List.{List, [], ◌∷◌, Memᴰ}
use native.Mathlib.Omega.{arith}
use lib.ListN.{length, drop}
use Rattle.std.specs.Prelude.{Result, Ok, Err}
use Rattle.book.specs.declared.refusal.Refusal.{Refusal}
use Rattle.book.specs.Rules.{Rule}
use Rattle.book.specs.Limits.{All, Kept}
use Rattle.book.proofs.Limits.{read_kept}
use Rattle.reading.specs.declared.Reading.{Reading}
use Rattle.reading.specs.Reading.{is_less, is_same}
use Rattle.matching.specs.Complaints.{Matched, book_count, complaints}
use Rattle.matching.specs.Step.{State, Step, Answer, Settled, add, remove, stepped, removed, opened, present, more, with_readings}
use Rattle.matching.specs.Step as v
use Rattle.matching.proofs.Laws.Complaints.{mem_complaints, complaints-ascending}
use Rattle.matching.proofs.Laws.Members.{mem_same}
use Rattle.matching.proofs.Laws.Orders.{mem_inserted, without-inserted}
use Rattle.matching.proofs.Laws.ReadingOrder.{is_same-exact}
use Rattle.matching.proofs.Laws.Steps.{opened_settled, readings_unique, added-accepted}
use Rattle.room.specs.Held.{Held, held}
use Rattle.row.proofs.OrderLaws.{mem_at}
use Rattle.sound.specs.Sound.{Sound, held_of, state_of}
use Rattle.malletfrond.specs.Answers.{StepAnswer, LineAnswer, changed_to, step_answer, complaint_line, complaint_at}
use Rattle.malletfrond.specs.Promise.{Steps, Lines}
use Rattle.malletfrond.specs.Runs.{Call, step, counts, line, check, Reply, Allowed, Event, Run, ended, then, reply_in, state_after, is_accepted, after, replayed}
use Rattle.malletfrond.specs.Demand.{has_refused, is_refused, buffer_of, buffer_left, line_length, written, Untouched, Narrow, NarrowCall, Reached, Listed}
use Rattle.malletfrond.proofs.RunLaws.{opens_state, allowed_reply, calls_of, states_after, events_in, run_sound, run_state, run_replies, run-book}
use Rattle.malletfrond.proofs.RunLaws.{states_keep, states_settled, Present, replayed-present}
use Rattle.malletfrond.proofs.LineLengths.{line-written, line-none, length-line}
use Rattle.sound.proofs.SoundLaws.{sound-same}
use Rattle.sound.proofs.SoundRoom.{sound_kept}
use Rattle.malletfrond.proofs.StepLaws.{changed_same}

-- ---- what no call changes

refused-answer : {A : Type 0} (answer : Result A Refusal) → has_refused answer ≡ true → (r : Refusal) × (answer ≡ Err r)
unfolding has_refused
refused-answer (Ok x) e = absurd (false≢true e)
refused-answer (Err r) e = (r, refl)

-- what a line leaves of the buffer, by its answer
record Left (answer : LineAnswer) (buffer buffer' : List ℕ) : Type 0 where
  pub refused : has_refused answer ≡ true → buffer' ≡ buffer
  pub behind : drop (line_length answer) buffer' ≡ drop (line_length answer) buffer
  pub short : line_length answer ≤ 230

line_left : (room : List ℕ) (k : ℕ) (buffer : List ℕ) (answer : LineAnswer) (buffer' : List ℕ) → Lines room k buffer answer buffer' → Left answer buffer buffer'
unfolding has_refused line_length
line_left room k buffer (Ok n) buffer' p = record { refused = λ e. absurd (false≢true e); behind = p.after n refl; short = (p.most n refl).0 }
line_left room k buffer (Err r) buffer' p =
    let same : buffer' ≡ buffer = p.untouched r refl in
    record { refused = λ e. same; behind = same; short = omega arith }

pub allowed_untouched : (room : List ℕ) (call : Call) (reply : Reply call) (room' : List ℕ) → Allowed room call reply room' → Untouched room call reply room'
unfolding is_refused buffer_of buffer_left written
allowed_untouched room (step x) reply room' p =
    record {
      refused = λ e. let r = refused-answer reply e in (p.untouched r.0 r.1, refl);
      past = p.past;
      behind = refl;
      short = omega arith;
      long = (p.long, refl);
    }
allowed_untouched room counts reply room' p = record { refused = λ e. (p.1, refl); past = rw p.1; behind = refl; short = omega arith; long = (ap length p.1, refl) }
allowed_untouched room (line k buffer) reply room' p =
    let left = line_left room k buffer reply.0 reply.1 p.0 in
    record {
      refused = λ e. (p.1, left.refused e);
      past = rw p.1;
      behind = left.behind;
      short = left.short;
      long = (ap length p.1, p.0.long);
    }
allowed_untouched room check reply room' p = record { refused = λ e. (p.1, refl); past = rw p.1; behind = refl; short = omega arith; long = (ap length p.1, refl) }

-- ---- what steps about readings of 32 bits replay to has numbers of 32 bits

after_narrow : (set : Reading → Bool) → ((r : Reading) → set r ≡ true → Narrow r) → (x : Step) (answer : StepAnswer) → NarrowCall (step x) → (r : Reading)
    → after set x answer r ≡ true → Narrow r
unfolding after
after_narrow set known (add w) answer n r e = by (is_accepted answer) (is_same r w) refl e
  where
    by : (b c : Bool) → is_same r w ≡ c → ((b && c) || set r) ≡ true → Narrow r
    by true true q e = rw ((is_same-exact r w).0 q) n
    by true false q e = known r e
    by false c q e = known r e
after_narrow set known (remove w) answer n r e = known r ((and-eq-true_iff (not (is_accepted answer && is_same r w)) (set r)).0 e).1

replayed_narrow : (set : Reading → Bool) → ((r : Reading) → set r ≡ true → Narrow r) → (events : List Event) → All (λ (e : Event). NarrowCall e.0) events → (r : Reading)
    → replayed set events r ≡ true → Narrow r
unfolding replayed
replayed_narrow set known [] n = known
replayed_narrow set known ((step x, answer) ∷ events) n = replayed_narrow (after set x answer) (after_narrow set known x answer n.0) events n.1
replayed_narrow set known ((counts, answer) ∷ events) n = replayed_narrow set known events n.1
replayed_narrow set known ((line k buffer, answer) ∷ events) n = replayed_narrow set known events n.1
replayed_narrow set known ((check, answer) ∷ events) n = replayed_narrow set known events n.1

-- ---- a room that a run has led to

module _ {book : List ℕ} {rules : List Rule} {E T : ℕ} {events : List Event} {last : List ℕ} (r : Reached book rules E T events last) where
  first-sound : Sound r.start
  first-sound = r.opens.sound refl

  first_state : state_of r.start first-sound ≡ opened rules E T
  first_state = opens_state r.lent book rules E T _ r.start r.opens refl r.reads first-sound

  pub reached-sound : Sound last
  reached-sound = run_sound r.run first-sound

  ended_state : state_of last reached-sound ≡ states_after (opened rules E T) (calls_of events)
  ended_state = run_state r.run first-sound reached-sound ∙ ap (λ (s : State). states_after s (calls_of events)) first_state

  ended-readings : (held last).readings ≡ (states_after (opened rules E T) (calls_of events)).readings
  ended-readings = ap (λ (s : State). s.readings) ended_state

  -- the book, the limits, and the readings that it holds
  pub reached_state : state_of last reached-sound ≡ with_readings (opened rules E T) (held last).readings
  reached_state = ended_state ∙ states_keep (opened rules E T) (calls_of events) ∙ ap (with_readings (opened rules E T)) (sym ended-readings)

  pub reached-holds : held last ≡ held_of book rules E T (held last).readings
  unfolding held_of
  reached-holds =
      let own : (held last).book ≡ book = run-book r.run first-sound ∙ ap (λ (h : Held). h.book) (r.opens.holds rules refl r.reads) in
      reached-sound.holds ∙ ap₂ (λ (b : List ℕ) (s : State). held_of b s.book s.E s.T s.readings) own reached_state

  pub reached_kept : Kept rules
  reached_kept = read_kept book rules r.reads

  pub reached-present : Present (with_readings (opened rules E T) (held last).readings) (replayed (λ x. false) events)
  reached-present x =
      let told : events ≡ events_in (opened rules E T) (calls_of events) = run_replies r.run first-sound ∙ ap (λ (s : State). events_in s (calls_of events)) first_state in
      let none : Present (opened rules E T) (λ x. false) = λ y. (λ m. absurd (Memᴰ.not-nil m), λ e. absurd (false≢true e)) in
      rw (← told, ← ended-readings) at (replayed-present (opened rules E T) reached_kept (opened_settled rules E T) (λ x. false) none (calls_of events) x)

  pub reached-within : (length (held last).readings ≤ E) × (book_count rules (held last).readings ≤ T)
  reached-within =
      let h = subst Settled (sym ended_state ∙ reached_state) (states_settled (opened rules E T) (opened_settled rules E T) (calls_of events)) in
      (h.readings, h.tokens)

  -- every next reply is that of the state
  pub reached_reply : (call : Call) (reply : Reply call) (room : List ℕ) → Allowed last call reply room → reply ≡ reply_in (with_readings (opened rules E T) (held last).readings) call
  reached_reply call reply room p = allowed_reply last reached-sound call reply room p ∙ ap (λ (s : State). reply_in s call) reached_state

  -- ---- what it lists

  reached_narrow : (x : Reading) → Memᴰ x (held last).readings → Narrow x
  reached_narrow x m = replayed_narrow (λ y. false) (λ y e. absurd (false≢true e)) events r.numbers x ((reached-present x).0 m)

  reached-short : (k : ℕ) → k < length (complaints rules (held last).readings) → length (complaint_line (complaint_at (complaints rules (held last).readings) k)) ≤ 230
  reached-short k h =
      let list : List Matched = complaints rules (held last).readings in
      length-line book rules (held last).readings r.reads r.bytes reached_narrow (complaint_at list k) (mem_at list k _ h)

  pub reached_listed : Listed rules (held last).readings last
  reached_listed =
      let list : List Matched = complaints rules (held last).readings in
      let state : State = with_readings (opened rules E T) (held last).readings in
      record {
        list = list;
        matches = λ d m. mem_complaints d (held last).readings rules m;
        ascending = complaints-ascending rules reached_kept (held last).readings reached-sound.ascending;
        asked = λ k buffer reply room long h p. reached_reply (line k buffer) reply room p ∙ line-written state list refl k buffer h (omega (arith, reached-short k h));
        no_more = λ k buffer reply room h p. reached_reply (line k buffer) reply room p ∙ line-none state list refl k buffer h;
      }

-- ---- two rooms that runs have led to

-- the same readings present are the same state, whatever runs led there
pub reached-same : {book : List ℕ} {rules : List Rule} {E T : ℕ} {events events' : List Event} {last last' : List ℕ} (r : Reached book rules E T events last)
    (r' : Reached book rules E T events' last') → ((x : Reading) → replayed (λ y. false) events x ≡ replayed (λ y. false) events' x)
    → state_of last (reached-sound r) ≡ state_of last' (reached-sound r')
reached-same {rules = rules} {E = E} {T = T} {last = last} {last' = last'} r r' same =
    let readings : (held last).readings ≡ (held last').readings =
    readings_unique (reached-sound r).ascending (reached-sound r').ascending (λ x.
    let one = reached-present r x in
    let other = reached-present r' x in
    (λ m. other.1 (sym (same x) ∙ one.0 m), λ m. one.1 (same x ∙ other.0 m))) in
    reached_state r ∙ ap (with_readings (opened rules E T)) readings ∙ sym (reached_state r')

-- and the same calls from there are answered the same
pub runs_same : {room room' : List ℕ} (s : Sound room) (s' : Sound room') → state_of room s ≡ state_of room' s' → {later later' : List Event} {end end' : List ℕ} → Run room later end
    → Run room' later' end' → calls_of later ≡ calls_of later' → later ≡ later'
runs_same s s' same p q calls = run_replies p s ∙ ap₂ events_in same calls ∙ sym (run_replies q s')

-- ---- added and removed again

accepted-is : (x : Answer) (n t c : ℕ) → changed_to n t c ≡ step_answer x → x ≡ v.accepted n t c
unfolding step_answer
accepted-is (v.accepted n' t' c') n t c e = let same = changed_same e in let a : n ≡ n' = same.0 in let b : t ≡ t' = same.1.0 in let d : c ≡ c' = same.1.1 in cc
accepted-is (v.refused cause) n t c e = cc

-- on values
stepped_again : (s : State) (w : Reading) (n t c : ℕ) → Kept s.book → (stepped s (add w)).answer ≡ v.accepted n t c → (stepped (stepped s (add w)).next (remove w)).next ≡ s
unfolding stepped removed
stepped_again s w n t c k e =
    let g = added-accepted s w k n t c e in
    let there : present (with_readings s (more s w)) w ≡ true = (mem_same is_same-exact w (more s w)).1 ((mem_inserted is_less w w s.readings).1 (inl refl)) in
    rw (g.only, there, without-inserted is_same-exact w is_less s.readings g.new)

-- a reading that is added and removed again leaves a room that holds what it held before
pub room_again : {book : List ℕ} {rules : List Rule} {E T : ℕ} {events : List Event} {last : List ℕ} → Reached book rules E T events last → (w : Reading) (n t c : ℕ) (room : List ℕ)
    → Steps last (add w) (changed_to n t c) room → (answer : StepAnswer) (room' : List ℕ) → Steps room (remove w) answer room' → held room' ≡ held last
unfolding state_after
room_again {last = last} r w n t c room p answer room' q =
    let s : Sound last = reached-sound r in
    let run : Run last ((step (add w), changed_to n t c) ∷ ((step (remove w), answer) ∷ [])) room' = then p (then q ended) in
    let s' : Sound room' = run_sound run s in
    let state : state_of room' s' ≡ state_of last s =
    run_state run s s' ∙ stepped_again (state_of last s) w n t c (sound_kept last s) (accepted-is (stepped (state_of last s) (add w)).answer n t c (p.answered s)) in
    sound-same room' last s' s (run-book run s) (ap (λ (x : State). x.E) state) (ap (λ (x : State). x.T) state) (ap (λ (x : State). x.readings) state)
