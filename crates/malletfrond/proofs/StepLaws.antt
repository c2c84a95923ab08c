-- The promise of a step, put together: of a room that is broken, of a step that is refused, and of one that is accepted and written. Two results that it allows
-- of a broken room are the same, and a sound room is never refused as broken. Assumes nothing.
use Prim.Native.Nat.{ℕ, ◌+◌, ◌*◌}
use mathlib.Core.Path.{◌≡◌, refl, sym, ap, ◌∙◌}
use mathlib.Core.Bool.{true, false, false≢true}
use mathlib.Core.Logic.{⊎_elim}
use mathlib.Core.List.Memᴰ
use mathlib.Core.List.{List, Memᴰ}
use native.Mathlib.Omega.{arith}
use lib.ListN.{length, drop}
use Rattle.std.specs.Prelude.{Err}
use Rattle.book.specs.declared.refusal.Cause.{Cause}
use Rattle.book.specs.declared.refusal.Cause.TheVariants.{RoomBroken, AlreadyPresent, NotPresent, TooManyReadings, TooManyTokens}
use Rattle.book.specs.declared.refusal.Refusal.{Refusal}
use Rattle.book.specs.Refusals.{refusal, number_of}
use Rattle.matching.specs.Step.{Step, add, remove, accepted, refuse, stepped}
use Rattle.matching.specs.Step as v
use Rattle.room.specs.Parts.{cut}
use Rattle.room.specs.Layout.{widths, head_number, limit, formula, parts, rest_part}
use Rattle.room.specs.Broken.{broken}
use Rattle.room.specs.Held.{held}
use Rattle.room.specs.Written.{Aside}
use Rattle.room.specs.Written as written
use Rattle.sound.specs.Sound.{Sound, held_of, state_of}
use Rattle.malletfrond.specs.declared.Stepped.{Stepped}
use Rattle.malletfrond.specs.Answers.{StepAnswer, changed_to, step_answer, refusals}
use Rattle.malletfrond.specs.Promise.{Steps}
use Rattle.sound.proofs.Next.{Next}
use Rattle.sound.proofs.Resumed.{next-holds, next-sound}

-- ---- a refusal

module _ (room : List ℕ) (step : Step) where
  pub steps-broken : broken room ≡ true → Steps room step (Err (refusal RoomBroken 0)) room
  steps-broken h =
      let never : broken room ≡ false → ⊥ = λ f. false≢true (sym f ∙ h) in
      record {
        refused_10 = λ t. refl;
        numbered = λ r f e. absurd (never f);
        untouched = λ r e. refl;
        answered = λ s. absurd (never s.whole);
        sound = λ s. s;
        holds = λ s. absurd (never s.whole);
        past = refl;
        long = refl;
      }

  pub steps-refused : (cause : Cause) → broken room ≡ false → Memᴰ (refusal cause 0) (refusals step)
      → ((s : Sound room) → stepped (state_of room s) step ≡ refuse (state_of room s) cause) → Steps room step (Err (refusal cause 0)) room
  unfolding step_answer
  steps-refused cause whole one same =
      record {
        refused_10 = λ t. absurd (false≢true (sym whole ∙ t));
        numbered = λ r f e. let is : r ≡ refusal cause 0 = cc in Memᴰ.cast is one;
        untouched = λ r e. refl;
        answered = λ s. sym (ap (λ (p : v.Stepped). step_answer p.answer) (same s));
        sound = λ s. s;
        holds = λ s. s.holds ∙ sym (ap (λ (p : v.Stepped). held_of (held room).book s.rules (held room).E (held room).T p.next.readings) (same s));
        past = refl;
        long = refl;
      }

-- ---- an accepted step

-- what stands past the formula is the last of the parts, which is not written
past-written : (room room' : List ℕ) (aside : Aside) (slots rows : List ℕ) → cut 0 (widths (limit room)) room' ≡ written.stepped aside slots rows (parts room)
    → drop (formula (head_number room 0) (limit room)) room' ≡ drop (formula (head_number room 0) (limit room)) room
unfolding written.stepped
past-written room room' aside slots rows e =
    let T : ℕ = limit room in
    let end : 18288 + T + T ≡ 18288 + T * 2 = omega arith in
    rw end at (ap (λ (ps : List (List ℕ)). rest_part ps) e)

-- two that are the same have the same numbers
pub changed_same : {n t c n' t' c' : ℕ} → changed_to n t c ≡ changed_to n' t' c' → (n ≡ n') × ((t ≡ t') × (c ≡ c'))
changed_same {n} {t} {c} {n'} {t'} {c'} e =
    let same : ◌≡◌ {A = Stepped} (record { readings = n; tokens = t; changed = c }) (record { readings = n'; tokens = t'; changed = c' }) = cc in
    (ap (λ (x : Stepped). x.readings) same, (ap (λ (x : Stepped). x.tokens) same, ap (λ (x : Stepped). x.changed) same))

-- whatever number of complete matches was counted aside
pub steps-accepted : (room room' : List ℕ) (step : Step) (readings tokens changed : ℕ) (aside : Aside) (slots rows : List ℕ) (complete : ℕ) → broken room ≡ false
    → cut 0 (widths (limit room)) room' ≡ written.stepped aside slots rows (parts room) → length room' ≡ length room
    → ((s : Sound room) → ((stepped (state_of room s) step).answer ≡ accepted readings tokens changed)
    × Next room s aside slots rows (stepped (state_of room s) step).next.readings complete)
    → Steps room step (changed_to readings tokens changed) room'
unfolding step_answer
steps-accepted room room' step readings tokens changed aside slots rows complete whole e long does =
    record {
      refused_10 = λ t. absurd (false≢true (sym whole ∙ t));
      numbered = λ r f q. cc;
      untouched = λ r q. cc;
      answered = λ s. sym (ap step_answer (does s).0);
      sound = λ s. next-sound room room' s aside slots rows (stepped (state_of room s) step).next.readings complete (does s).1 e long;
      holds = λ s. next-holds room room' s aside slots rows (stepped (state_of room s) step).next.readings complete (does s).1 e long;
      past = past-written room room' aside slots rows e;
      long = long;
    }

-- ---- two results of a broken room are the same

-- the same answer, and no byte is changed
pub steps-once : (room : List ℕ) (step : Step) (x y : StepAnswer) (room' room'' : List ℕ) → broken room ≡ true → Steps room step x room' → Steps room step y room''
    → (x ≡ y) × (room' ≡ room) × (room'' ≡ room)
steps-once room step x y room' room'' h p q = (p.refused_10 h ∙ sym (q.refused_10 h), p.untouched _ (p.refused_10 h), q.untouched _ (q.refused_10 h))

-- ---- a sound room is never refused as broken

-- no refusal of a step has the number 10
not_10 : (step : Step) (e : Refusal) → Memᴰ e (refusals step) → ¬ (number_of e.cause ≡ 10)
unfolding refusals
not_10 (add w) e m ten = ⊎_elim (λ (x : e ≡ refusal AlreadyPresent 0). let z : 11 ≡ 10 = rw x at ten in absurd (omega arith))
    (λ n. ⊎_elim (λ (x : e ≡ refusal TooManyReadings 0). let z : 13 ≡ 10 = rw x at ten in absurd (omega arith))
    (λ k. ⊎_elim (λ (x : e ≡ refusal TooManyTokens 0). let z : 14 ≡ 10 = rw x at ten in absurd (omega arith)) Memᴰ.not-nil (Memᴰ.cases_cons k)) (Memᴰ.cases_cons n))
    (Memᴰ.cases_cons m)
not_10 (remove w) e m ten = ⊎_elim (λ (x : e ≡ refusal NotPresent 0). let z : 12 ≡ 10 = rw x at ten in absurd (omega arith)) Memᴰ.not-nil (Memᴰ.cases_cons m)

-- whatever its place
pub steps_never_10 : (room : List ℕ) (step : Step) (answer : StepAnswer) (room' : List ℕ) → Sound room → Steps room step answer room' → (e : Refusal) → answer ≡ Err e → ¬ (number_of e.cause ≡ 10)
steps_never_10 room step answer room' s p e is = not_10 step e (p.numbered e s.whole is)
