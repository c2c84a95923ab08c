-- The idle programs of document 01, caught by all promises together. A room is opened for book B, and a program adds a reading, counts, asks for a line, adds another,
-- counts, asks for two lines, removes the first and counts: every run of it has the replies of the definition, computed here, and so no idle ones. Assumes nothing.
use Prim.Native.Nat.{ℕ, ◌≤◌}
use mathlib.Core.Path.{◌≡◌, refl, sym, ap, ◌∙◌}
use mathlib.Core.Bool.{true, false≢true}
use mathlib.Core.List.{List, [], ◌∷◌, cons≢nil}
use native.Mathlib.Omega.{arith}
use lib.ListN.{length, get_or}
use Rattle.std.specs.Prelude.{Ok, Err}
use Rattle.book.specs.declared.refusal.Cause.TheVariants.{RoomBroken, NoSuchComplaint}
use Rattle.book.specs.Refusals.{refusal}
use Rattle.numbers.specs.Digits.{digits, digits_to}
use Rattle.numbers.specs.Spliced.{spliced}
use Rattle.book.specs.Books.{any_pair, book_b, rule_b}
use Rattle.book.specs.Limits.{All}
use Rattle.book.proofs.Witness.{read_book-book_b}
use Rattle.reading.specs.declared.Reading.{Reading}
use Rattle.reading.specs.Reading.{is_less, is_same}
use Rattle.matching.specs.Cases.{reading}
use Rattle.matching.specs.Passes.{all, passes_all}
use Rattle.matching.specs.Lists.{when, concat_map, keep}
use Rattle.matching.specs.Match.{extend, matches, token_count}
use Rattle.matching.specs.Order.{inserted, same_tuple}
use Rattle.matching.specs.Preorder.{has}
use Rattle.matching.specs.Complaints.{Matched, matched_by, pass_of, book_count, rule_complaints, complaints, same_matched}
use Rattle.matching.specs.Step.{State, add, remove, added, removed, stepped, opened, with_readings}
use Rattle.room.specs.Held.{Held, held}
use Rattle.lines.specs.Line.{entry, trimmed, ending, line_text}
use Rattle.sound.specs.Sound.{Sound, state_of}
use Rattle.malletfrond.specs.Answers.{CountsAnswer, StepAnswer, LineAnswer, counted, changed_to, step_answer, complaint_line}
use Rattle.malletfrond.specs.Promise.{Opens}
use Rattle.malletfrond.specs.Runs.{step, counts, line, check, Event, Run, reply_in, state_after}
use Rattle.malletfrond.specs.Demand.{has_refused, is_refused}
use Rattle.malletfrond.proofs.CallLaws.{counted_same}
use Rattle.malletfrond.proofs.LineLengths.{line-written, line-none}
use Rattle.malletfrond.proofs.RunLaws.{calls_of, events_in, opens_state, run_sound, run_state, run_replies}
use Rattle.malletfrond.proofs.StepLaws.{changed_same}

-- ---- the program and its replies

abbrev pub one : Reading
one = reading 1 1 1

abbrev pub two : Reading
two = reading 1 1 2

pub record Replies : Type 0 where
  pub added_one : StepAnswer
  pub counted_one : CountsAnswer
  pub line_one : LineAnswer × List ℕ
  pub added_two : StepAnswer
  pub counted_two : CountsAnswer
  pub line_two : LineAnswer × List ℕ
  pub no_line : LineAnswer × List ℕ
  pub removed_one : StepAnswer
  pub counted_back : CountsAnswer

abbrev pub program : List ℕ → Replies → List Event
program buffer r =
    (step (add one), r.added_one)
    ∷ (counts, r.counted_one)
    ∷ (line 0 buffer, r.line_one)
    ∷ (step (add two), r.added_two)
    ∷ (counts, r.counted_two)
    ∷ (line 1 buffer, r.line_two)
    ∷ (line 4 buffer, r.no_line)
    ∷ (step (remove one), r.removed_one)
    ∷ (counts, r.counted_back)
    ∷ []

-- a complaint of book B's rule; of one and one its line is "1 1/1/1 1/1/1 |any pair" and a newline
abbrev pub pair : Reading → Reading → Matched
pair x y = matched_by rule_b (x ∷ y ∷ [])

abbrev pub answered : List ℕ → Replies
answered buffer =
    record {
      added_one = changed_to 1 2 1;
      counted_one = counted 1 2 1;
      line_one = (Ok 24, spliced buffer 0 (complaint_line (pair one one)));
      added_two = changed_to 2 6 3;
      counted_two = counted 2 6 4;
      line_two = (Ok 24, spliced buffer 0 (complaint_line (pair one two)));
      no_line = (Err (refusal NoSuchComplaint 0), buffer);
      removed_one = changed_to 1 2 3;
      counted_back = counted 1 2 1;
    }

-- book B opened with E = 256 and T = 2,048
abbrev pub start : State
start = opened (rule_b ∷ []) 256 2048

-- what the steps leave, what they and the counts answer, and which complaints there are
record Computed : Type 0 where
  pub next_one : (stepped start (add one)).next ≡ with_readings start (one ∷ [])
  pub next_two : (stepped (with_readings start (one ∷ [])) (add two)).next ≡ with_readings start (one ∷ two ∷ [])
  pub next_back : (stepped (with_readings start (one ∷ two ∷ [])) (remove one)).next ≡ with_readings start (two ∷ [])
  pub added_one : reply_in start (step (add one)) ≡ changed_to 1 2 1
  pub counted_one : reply_in (with_readings start (one ∷ [])) counts ≡ counted 1 2 1
  pub added_two : reply_in (with_readings start (one ∷ [])) (step (add two)) ≡ changed_to 2 6 3
  pub counted_two : reply_in (with_readings start (one ∷ two ∷ [])) counts ≡ counted 2 6 4
  pub removed_one : reply_in (with_readings start (one ∷ two ∷ [])) (step (remove one)) ≡ changed_to 1 2 3
  pub counted_back : reply_in (with_readings start (two ∷ [])) counts ≡ counted 1 2 1
  pub listed_one : complaints (rule_b ∷ []) (one ∷ []) ≡ pair one one ∷ []
  pub listed_two : complaints (rule_b ∷ []) (one ∷ two ∷ []) ≡ pair one one ∷ pair one two ∷ pair two one ∷ pair two two ∷ []

computed : Computed
unfolding reply_in step_answer stepped removed added complaints rule_complaints book_count token_count matches extend pass_of passes_all all keep
    concat_map when has inserted same_tuple same_matched is_less is_same rule_b
computed =
    record {
      next_one = refl;
      next_two = refl;
      next_back = refl;
      added_one = refl;
      counted_one = refl;
      added_two = refl;
      counted_two = refl;
      removed_one = refl;
      counted_back = refl;
      listed_one = refl;
      listed_two = refl;
    }

-- both lines have 24 bytes
lines_long : (length (complaint_line (pair one one)) ≡ 24) × (length (complaint_line (pair one two)) ≡ 24)
unfolding complaint_line line_text entry trimmed ending digits digits_to concat_map rule_b any_pair
lines_long = (refl, refl)

-- and differ in the last number of the second reading
lines-apart : (buffer : List ℕ) → (get_or (spliced buffer 0 (complaint_line (pair one one))) 12 0 ≡ 49) × (get_or (spliced buffer 0 (complaint_line (pair one two))) 12 0 ≡ 50)
unfolding spliced complaint_line line_text entry trimmed ending digits digits_to concat_map rule_b any_pair
lines-apart buffer = (refl, refl)

module _ (buffer : List ℕ) (long : 230 ≤ length buffer) where
  line_one : reply_in (with_readings start (one ∷ [])) (line 0 buffer) ≡ (answered buffer).line_one
  line_one = line-written _ _ computed.listed_one 0 buffer (omega arith) (omega (arith, lines_long.0)) ∙ rw lines_long.0

  line_two : reply_in (with_readings start (one ∷ two ∷ [])) (line 1 buffer) ≡ (answered buffer).line_two
  line_two = line-written _ _ computed.listed_two 1 buffer (omega arith) (omega (arith, lines_long.1)) ∙ rw lines_long.1

  no_line : reply_in (with_readings start (one ∷ two ∷ [])) (line 4 buffer) ≡ (answered buffer).no_line
  no_line = line-none _ _ computed.listed_two 4 buffer (omega arith)

  told : (r : Replies) → events_in start (calls_of (program buffer r)) ≡ program buffer (answered buffer)
  unfolding state_after
  told r =
      let k = computed in
      rw (k.next_one, k.next_two, k.next_back, k.added_one, k.counted_one, k.added_two, k.counted_two, k.removed_one, k.counted_back, line_one, line_two, no_line)

-- ---- the replies of a run

-- the replies read off the events
step_reply : Event → StepAnswer
step_reply (step x, reply) = reply
step_reply (counts, reply) = Err (refusal RoomBroken 0)
step_reply (line k buffer, reply) = Err (refusal RoomBroken 0)
step_reply (check, reply) = Err (refusal RoomBroken 0)

counts_reply : Event → CountsAnswer
counts_reply (step x, reply) = Err (refusal RoomBroken 0)
counts_reply (counts, reply) = reply
counts_reply (line k buffer, reply) = Err (refusal RoomBroken 0)
counts_reply (check, reply) = Err (refusal RoomBroken 0)

line_reply : Event → LineAnswer × List ℕ
line_reply (step x, reply) = (Err (refusal RoomBroken 0), [])
line_reply (counts, reply) = (Err (refusal RoomBroken 0), [])
line_reply (line k buffer, reply) = reply
line_reply (check, reply) = (Err (refusal RoomBroken 0), [])

replies_of : List Event → Replies
replies_of events =
    let at : ℕ → Event = λ k. get_or events k (check, true) in
    record {
      added_one = step_reply (at 0);
      counted_one = counts_reply (at 1);
      line_one = line_reply (at 2);
      added_two = step_reply (at 3);
      counted_two = counts_reply (at 4);
      line_two = line_reply (at 5);
      no_line = line_reply (at 6);
      removed_one = step_reply (at 7);
      counted_back = counts_reply (at 8);
    }

module _ (lent room : List ℕ) (opens : Opens lent book_b 256 2048 (counted 0 0 0) room) (buffer : List ℕ) (long : 230 ≤ length buffer) (r : Replies) (last : List ℕ)
    (run : Run room (program buffer r) last) where
  sound : Sound room
  sound = opens.sound refl

  state : state_of room sound ≡ start
  state = opens_state lent book_b (rule_b ∷ []) 256 2048 _ room opens refl read_book-book_b sound

  -- whoever runs the program, in whatever room, has these replies
  pub replies : r ≡ answered buffer
  unfolding replies_of step_reply counts_reply line_reply
  replies = ap replies_of (run_replies run sound ∙ ap (λ (s : State). events_in s (calls_of (program buffer r))) state ∙ told buffer long r)

  -- one that refuses everything
  pub refuses_everything : ¬ All (λ (e : Event). is_refused e.0 e.1 ≡ true) (program buffer r)
  unfolding is_refused has_refused
  refuses_everything all = false≢true (rw replies at all.0)

  -- one whose steps, counts or lines have a constant reply
  pub constant_reply : ¬ (r.added_one ≡ r.added_two) × ¬ (r.counted_one ≡ r.counted_two) × ¬ (r.line_two.0 ≡ r.no_line.0)
  constant_reply = rw replies (
    λ (e : changed_to 1 2 1 ≡ changed_to 2 6 3). let z : ◌≡◌ {A = ℕ} 1 2 = (changed_same e).0 in omega arith,
    λ (e : counted 1 2 1 ≡ counted 2 6 4). let z : ◌≡◌ {A = ℕ} 1 2 = (counted_same e).0 in omega arith,
    λ e. cc,
  )

  -- one that does no work: it leaves what it found, or counts nothing
  pub does_no_work : ¬ (held last ≡ held room) × ¬ (r.counted_one ≡ counted 0 0 0)
  unfolding state_after
  does_no_work = (
    λ same.
        let k = computed in
        let s' : Sound last = run_sound run sound in
        let end : state_of last s' ≡ with_readings start (two ∷ []) = run_state run sound s' ∙ rw (state, k.next_one, k.next_two, k.next_back) in
        cons≢nil (sym (ap (λ (s : State). s.readings) end) ∙ ap (λ (h : Held). h.readings) same ∙ ap (λ (s : State). s.readings) state),
    rw replies (λ (e : counted 1 2 1 ≡ counted 0 0 0). let z : ◌≡◌ {A = ℕ} 1 0 = (counted_same e).0 in omega arith),
  )

  -- one that matches at the first step and afterwards repeats it: the first line again, or the first answer at the last step
  pub repeats_the_first : ¬ (r.line_two ≡ r.line_one) × ¬ (r.removed_one ≡ r.added_one)
  repeats_the_first = rw replies (
    λ e.
        let same = ap (λ (x : LineAnswer × List ℕ). get_or x.1 12 0) e in
        let z : ◌≡◌ {A = ℕ} 50 49 = sym (lines-apart buffer).1 ∙ same ∙ (lines-apart buffer).0 in
        omega arith,
    λ (e : changed_to 1 2 3 ≡ changed_to 1 2 1). let z : ◌≡◌ {A = ℕ} 3 1 = (changed_same e).1.1 in omega arith,
  )

  -- one that invents its token count
  pub invents_a_token : ((readings tokens changed : ℕ) → r.added_two ≡ changed_to readings tokens changed → tokens ≡ 6)
      × ((readings tokens complete : ℕ) → r.counted_two ≡ counted readings tokens complete → tokens ≡ 6)
  invents_a_token = rw replies (λ readings tokens changed e. sym (changed_same e).1.0, λ readings tokens complete e. sym (counted_same e).1.0)
