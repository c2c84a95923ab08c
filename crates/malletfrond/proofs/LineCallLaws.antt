-- The promise of a line, put together: of a room that is broken, of a complaint that there is not, of a buffer that is too short, and of a line written. Two results
-- that it allows are the same. Assumes nothing.
use Prim.Native.Nat.{ℕ, ◌+◌, ◌-◌, ◌*◌, ◌≤◌, ◌<◌}
use mathlib.Core.Path.{◌≡◌, refl, sym, ap, ap₂, ◌∙◌}
use mathlib.Core.Bool.{true, false, false≢true}
use mathlib.Core.Logic.{⊎_elim}
use mathlib.Core.List.Memᴰ
use mathlib.Core.List.{List, [], ◌∷◌, Memᴰ}
use native.Mathlib.Omega.{arith}
use borrow.Author.Tests.{lt-ltb, le-ltb}
use lib.Dec.{lit≤}
use lib.ListN.{length, take, drop, length-take}
use Rattle.std.specs.Prelude.{Option, Some, None, Ok, Err, ok_or}
use Rattle.book.specs.declared.refusal.Cause.TheVariants.{RoomBroken, BufferTooShort, NoSuchComplaint}
use Rattle.book.specs.declared.refusal.Refusal.{Refusal}
use Rattle.book.specs.Refusals.{refusal}
use Rattle.numbers.specs.BigEndian.{uint}
use Rattle.numbers.specs.Spliced.{spliced}
use Rattle.numbers.proofs.Spliced.{drop-spliced, length-spliced}
use Rattle.reading.specs.declared.Reading.{Reading}
use Rattle.matching.specs.Complaints.{Matched}
use Rattle.room.specs.Broken.{broken}
use Rattle.room.specs.Held.{Held, held, complete_of}
use Rattle.room.specs.Layout.{parts, rule_places_part}
use Rattle.room.specs.Parts.{part}
use Rattle.room.proofs.BrokenLaws.{Whole, not_broken-whole}
use Rattle.room.proofs.Large.{large-part}
use Rattle.step.proofs.Lending.{in_room}
use Rattle.weave.proofs.Grown.{le_or_lt}
use Rattle.lines.specs.Found.{ComplaintAt}
use Rattle.lines.specs.Line.{line_text, length_in, text_in}
use Rattle.sound.specs.Sound.{Sound}
use Rattle.malletfrond.specs.Answers.{LineAnswer, complaint_line, complaint_at, line_answer, line_buffer}
use Rattle.malletfrond.specs.Promise.{Lines}
use Rattle.malletfrond.proofs.Finding.{complaints_in, found_complaint, found_text}
use Rattle.sound.proofs.SoundLaws.{sound-rules, sound_complete}

-- ---- a refusal

module _ (room : List ℕ) (k : ℕ) (buffer : List ℕ) where
  pub lines-broken : broken room ≡ true → Lines room k buffer (Err (refusal RoomBroken 0)) buffer
  lines-broken h =
      let never : broken room ≡ false → ⊥ = λ f. false≢true (sym f ∙ h) in
      record {
        refused_10 = λ t. refl;
        numbered = λ r f e. absurd (never f);
        untouched = λ r e. refl;
        answered = λ s. absurd (never s.whole);
        wrote = λ s. absurd (never s.whole);
        most = λ n e. cc;
        after = λ n e. refl;
        long = refl;
      }

  lines-refused : (e : Refusal) → broken room ≡ false → Memᴰ e (refusal NoSuchComplaint 0 ∷ refusal BufferTooShort 0 ∷ [])
      → ((s : Sound room) → (line_answer (complaints_in room s) k buffer ≡ Err e) × (line_buffer (complaints_in room s) k buffer ≡ buffer))
      → Lines room k buffer (Err e) buffer
  lines-refused e whole one same =
      record {
        refused_10 = λ t. absurd (false≢true (sym whole ∙ t));
        numbered = λ r f q. let is : r ≡ e = cc in Memᴰ.cast is one;
        untouched = λ r q. refl;
        answered = λ s. sym (same s).0;
        wrote = λ s. sym (same s).1;
        most = λ n q. cc;
        after = λ n q. refl;
        long = refl;
      }

  -- no complaint k
  pub lines_none : broken room ≡ false → complete_of room ≤ k → Lines room k buffer (Err (refusal NoSuchComplaint 0)) buffer
  unfolding line_answer line_buffer
  lines_none whole h = lines-refused (refusal NoSuchComplaint 0) whole (Memᴰ.head refl) (λ s.
      let past = le-ltb k (length (complaints_in room s)) (omega (arith, sound_complete room s)) in
      (simp past, simp past))

  -- a room that counts a complaint k where none is found is not sound
  pub lines_lost : {rule count : ℕ} {readings : List Reading} → broken room ≡ false → k < complete_of room → ComplaintAt room k false rule count readings
      → Lines room k buffer (Err (refusal NoSuchComplaint 0)) buffer
  lines_lost {rule} {count} {readings} whole h c = lines-refused (refusal NoSuchComplaint 0) whole (Memᴰ.head refl)
      (λ s. absurd (false≢true (found_complaint room s k false rule count readings c (omega (arith, sound_complete room s))).0))

  -- nor is one where the record of the complaint's rule goes past the book's part
  pub lines-beyond : {rule count : ℕ} {readings : List Reading} → broken room ≡ false → ComplaintAt room k true rule count readings
      → 8208 < 16 + uint 2 (rule_places_part (parts room)) (rule * 2) + 27 → Lines room k buffer (Err (refusal NoSuchComplaint 0)) buffer
  lines-beyond {rule} whole c h = lines-refused (refusal NoSuchComplaint 0) whole (Memᴰ.head refl)
      (λ s. absurd (let t = found_text room s rule (uint 2 (rule_places_part (parts room)) (rule * 2)) (c.rule_in refl) refl in omega arith))

-- ---- what is lent of a room that is not broken, to read the record of the complaint's rule

-- there are 32 rules at most, and a place for each
module _ {room : List ℕ} {k : ℕ} {rule count : ℕ} {readings : List Reading} (whole : broken room ≡ false) (c : ComplaintAt room k true rule count readings) where
  pub rule-low : rule < 32
  rule-low = let w : Whole room = not_broken-whole room whole in omega (arith, c.rule_in refl)

  pub rule_placed : rule * 2 + 2 ≤ length (part room 8592 64)
  rule_placed = omega (arith, rule-low, large-part room 8592 64 (lit≤ tt) (in_room room whole (lit≤ tt)))

-- a record that ends in the book's part ends in the room, and so does its number
pub record_lent : (room : List ℕ) (place : ℕ) → broken room ≡ false → 16 + place + 27 ≤ 8208 → (16 + place + 1 + 2 ≤ length room) × (16 + place + 27 ≤ length room)
record_lent room place whole h = let l : 8208 ≤ length room = in_room room whole (lit≤ tt) in (omega arith, omega arith)

-- the wording as it is lent has 24 bytes at most
pub wording-short : (room : List ℕ) (place : ℕ) → length (part room (16 + place + 3) (16 + place + 27 - (16 + place + 3))) ≤ 24
wording-short room place = simp length-take (omega arith)

-- ---- a line put in a buffer

-- complaint k of a list is there, and this is its line
abbrev Says : List Matched → ℕ → List ℕ → Type 0
Says list k text = (k < length list) × (complaint_line (complaint_at list k) ≡ text)

module _ (list : List Matched) (k : ℕ) (buffer text : List ℕ) (is : Says list k text) where
  line-short : length buffer < length text → (line_answer list k buffer ≡ Err (refusal BufferTooShort 0)) × (line_buffer list k buffer ≡ buffer)
  unfolding line_answer line_buffer text_in
  line-short short =
      let there = lt-ltb k (length list) is.0 in
      let over = lt-ltb (length buffer) (length text) short in
      (simp (there, is.1, over), simp (there, is.1, over))

  line-fits : length text ≤ length buffer → (line_answer list k buffer ≡ Ok (length text)) × (line_buffer list k buffer ≡ spliced buffer 0 text)
  unfolding line_answer line_buffer text_in
  line-fits fits =
      let there = lt-ltb k (length list) is.0 in
      let under = le-ltb (length buffer) (length text) fits in
      (simp (there, is.1, under), simp (there, is.1, under))

-- complaint k as it is found, its rule's number and wording as they stand in the stored book, in a buffer that has place for the line or not
module _ {room : List ℕ} {k : ℕ} {rule count : ℕ} {readings : List Reading} (whole : broken room ≡ false) (h : k < complete_of room) (c : ComplaintAt room k true rule count readings)
    (place number : ℕ) (wording text : List ℕ) (placed : place ≡ uint 2 (rule_places_part (parts room)) (rule * 2)) (numbered : number ≡ uint 2 room (16 + place + 1))
    (worded : wording ≡ take (16 + place + 27 - (16 + place + 3)) (drop (16 + place + 3) room)) (says : text ≡ line_text number (take count readings) wording) where
  -- of a sound room that is the line of the definition's complaint k
  sound_says : (s : Sound room) → Says (complaints_in room s) k text
  unfolding complaint_line
  sound_says s =
      let here : k < length (complaints_in room s) = omega (arith, sound_complete room s) in
      let there = found_text room s rule place (c.rule_in refl) placed in
      let wide : 16 + place + 27 - (16 + place + 3) ≡ 24 = omega arith in
      let bytes : wording ≡ take 24 (drop (16 + place + 3) room) = rw wide at worded in (
        here,
        ap complaint_line (found_complaint room s k true rule count readings c here).1
            ∙ ap₂ (λ (n : ℕ) (w : List ℕ). line_text n (take count readings) w) (sym (numbered ∙ there.1)) (sym (bytes ∙ there.2))
            ∙ sym says,
      )

  pub lines-put : (buffer : List ℕ) (n : Option ℕ) (buffer' : List ℕ) → length text ≤ 230 → n ≡ length_in buffer text → buffer' ≡ text_in buffer text
      → Lines room k buffer (ok_or n (refusal BufferTooShort 0)) buffer'
  unfolding length_in text_in
  lines-put buffer n buffer' most count_is put = ⊎_elim
      (λ (fits : length text ≤ length buffer).
      let under = le-ltb (length buffer) (length text) fits in
      let all : n ≡ Some (length text) = count_is ∙ simp under in
      let written : buffer' ≡ spliced buffer 0 text = put ∙ simp under in
      rw (all, written) (record {
        refused_10 = λ t. absurd (false≢true (sym whole ∙ t));
        numbered = λ r f e. cc;
        untouched = λ r e. cc;
        answered = λ s. sym (line-fits (complaints_in room s) k buffer text (sound_says s) fits).0;
        wrote = λ s. sym (line-fits (complaints_in room s) k buffer text (sound_says s) fits).1;
        most = λ m e. let is : length text ≡ m = cc in (omega arith, omega arith);
        after = λ m e. let is : length text ≡ m = cc in drop-spliced buffer 0 text (omega arith) m (omega arith);
        long = length-spliced buffer 0 text (omega arith);
      }))
      (λ (short : length buffer < length text).
      let over = lt-ltb (length buffer) (length text) short in
      let none : n ≡ None = count_is ∙ simp over in
      let kept : buffer' ≡ buffer = put ∙ simp over in
      rw (none, kept) (lines-refused room k buffer (refusal BufferTooShort 0) whole (Memᴰ.tail (Memᴰ.head refl))
      (λ s. line-short (complaints_in room s) k buffer text (sound_says s) short)))
      (le_or_lt (length text) (length buffer))

-- ---- two results are the same

-- of two sound rooms that hold the same: the same answer, and the same bytes left in the buffer
pub lines_same : (room other : List ℕ) (k : ℕ) (buffer : List ℕ) (x y : LineAnswer) (buffer' buffer'' : List ℕ) → Sound room → Sound other → held room ≡ held other
    → Lines room k buffer x buffer' → Lines other k buffer y buffer'' → (x ≡ y) × (buffer' ≡ buffer'')
lines_same room other k buffer x y buffer' buffer'' s s' same p q =
    let rules : s.rules ≡ s'.rules = sound-rules room other s s' (ap (λ (h : Held). h.book) same) in
    let list : complaints_in room s ≡ complaints_in other s' = rw (rules, same) in (
      p.answered s ∙ ap (λ (m : List Matched). line_answer m k buffer) list ∙ sym (q.answered s'),
      p.wrote s ∙ ap (λ (m : List Matched). line_buffer m k buffer) list ∙ sym (q.wrote s'),
    )

-- of a broken room: the same answer, and no byte is changed
pub lines-once : (room : List ℕ) (k : ℕ) (buffer : List ℕ) (x y : LineAnswer) (buffer' buffer'' : List ℕ) → broken room ≡ true
    → Lines room k buffer x buffer' → Lines room k buffer y buffer'' → (x ≡ y) × (buffer' ≡ buffer) × (buffer'' ≡ buffer)
lines-once room k buffer x y buffer' buffer'' h p q = (p.refused_10 h ∙ sym (q.refused_10 h), p.untouched _ (p.refused_10 h), q.untouched _ (q.refused_10 h))
