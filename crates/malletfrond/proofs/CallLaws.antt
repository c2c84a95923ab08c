-- Openings and counts: two results that a promise allows are the same, and the counts are those of the header. Assumes nothing.
use Prim.Native.Nat.{ℕ}
use mathlib.Core.Path.{◌≡◌, refl, sym, ap, ◌∙◌}
use mathlib.Core.Bool.{Bool, true, false, cond, false≢true}
use mathlib.Core.List.{List}
use native.Mathlib.Omega.{arith}
use lib.Dec.{ltb}
use lib.ListN.{length}
use Rattle.std.specs.Prelude.{Err}
use Rattle.book.specs.declared.refusal.Cause.TheVariants.{LimitsOutside, RoomTooShort, RoomBroken}
use Rattle.book.specs.Refusals.{refusal}
use Rattle.numbers.specs.BigEndian.{uint}
use Rattle.book.specs.Rules.{Rule}
use Rattle.book.specs.Read.{BookRead, read_book, accepted, refused}
use Rattle.room.specs.Layout.{head_number, formula}
use Rattle.room.specs.Broken.{broken}
use Rattle.room.specs.Held.{held}
use Rattle.room.proofs.BrokenLaws.{head_number-at, not_broken-whole}
use Rattle.malletfrond.specs.declared.Counted.{Counted}
use Rattle.malletfrond.specs.Answers.{CountsAnswer, counted, limits_fit, opened_by, open_answer, counts_answer}
use Rattle.room.specs.Held.{complete_of}
use Rattle.malletfrond.specs.Promise.{Opens, Counts}
use Rattle.sound.proofs.SoundLaws.{length-held-readings, sound-tokens, sound_complete}

-- ---- openings

-- only an accepted book opens a room
opened-reads : (fit short : Bool) (b : BookRead) → counted 0 0 0 ≡ cond fit (cond short (Err (refusal RoomTooShort 0)) (opened_by b)) (Err (refusal LimitsOutside 0)) → (rules : List Rule) × (b ≡ accepted rules)
unfolding opened_by
opened-reads true true b e = cc
opened-reads true false (accepted rules) e = (rules, refl)
opened-reads true false (refused r) e = cc
opened-reads false short b e = cc

pub opens-reads : (room book : List ℕ) (E T : ℕ) (answer : CountsAnswer) (room' : List ℕ) → Opens room book E T answer room' → answer ≡ counted 0 0 0
    → (rules : List Rule) × (read_book book ≡ accepted rules)
unfolding open_answer
opens-reads room book E T answer room' p e = opened-reads (limits_fit E T) (ltb (length room) (formula E T)) (read_book book) (sym e ∙ p.answered)

-- two rooms opened for one book with the same limits hold the same, whatever they held before and however long they are
pub opened-same : (room other book : List ℕ) (E T : ℕ) (a b : CountsAnswer) (room' other' : List ℕ) → Opens room book E T a room' → Opens other book E T b other'
    → a ≡ counted 0 0 0 → b ≡ counted 0 0 0 → held room' ≡ held other'
opened-same room other book E T a b room' other' p q e f =
    let r = opens-reads room book E T a room' p e in
    p.holds r.0 e r.1 ∙ sym (q.holds r.0 f r.1)

-- two results that an opening allows, in rooms as long as each other: the same answer, and if they were opened they hold the same
pub opens-same : (room other book : List ℕ) (E T : ℕ) (a b : CountsAnswer) (room' other' : List ℕ) → length room ≡ length other → Opens room book E T a room'
    → Opens other book E T b other' → (a ≡ b) × (a ≡ counted 0 0 0 → held room' ≡ held other')
opens-same room other book E T a b room' other' long p q =
    let same : a ≡ b = p.answered ∙ ap (λ (n : ℕ). open_answer n book E T) long ∙ sym q.answered in
    (same, λ e. opened-same room other book E T a b room' other' p q e (sym same ∙ e))

-- ---- counts

-- two counts that are the same have the same numbers
pub counted_same : {n t c n' t' c' : ℕ} → counted n t c ≡ counted n' t' c' → (n ≡ n') × ((t ≡ t') × (c ≡ c'))
counted_same {n} {t} {c} {n'} {t'} {c'} e =
    let same : ◌≡◌ {A = Counted} (record { readings = n; tokens = t; complete = c }) (record { readings = n'; tokens = t'; complete = c' }) = cc in
    (ap (λ (x : Counted). x.readings) same, (ap (λ (x : Counted). x.tokens) same, ap (λ (x : Counted). x.complete) same))

module _ (room : List ℕ) where
  pub counts-broken : broken room ≡ true → Counts room (Err (refusal RoomBroken 0))
  unfolding counts_answer
  counts-broken h = record { answered = simp h; defined = λ s. absurd (false≢true (sym s.whole ∙ h)) }

  -- the numbers of the header, as they are read
  pub counts_whole : broken room ≡ false → (readings tokens complete : ℕ) → readings ≡ uint 2 room 4 → tokens ≡ uint 2 room 6 → complete ≡ complete_of room
      → Counts room (counted readings tokens complete)
  unfolding counts_answer
  counts_whole h readings tokens complete r t m =
      let n : head_number room 2 ≡ readings = head_number-at room 2 (omega arith) ∙ sym r in
      let k : head_number room 3 ≡ tokens = head_number-at room 3 (omega arith) ∙ sym t in
      record {
        answered = simp (h, n, k, m);
        defined = λ s. rw (length-held-readings room (not_broken-whole room h) ∙ n, sym (sound-tokens room s) ∙ k, sym (sound_complete room s), m);
      }

-- two results that counting allows, of one room, whatever it holds
pub counts_same : (room : List ℕ) (a b : CountsAnswer) → Counts room a → Counts room b → a ≡ b
counts_same room a b p q = p.answered ∙ sym q.answered
