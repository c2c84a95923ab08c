-- What the writer answers by the reader's verdict. Assumes nothing.
use Prim.Native.Nat.{ℕ, ◌≤◌, ◌<◌}
use mathlib.Core.Path.{◌≡◌, refl, sym, ap, ◌∙◌}
use mathlib.Core.Bool.{Bool, true, false, cond}
use mathlib.Core.List.{List, ◌++◌, append-nil}
use native.Mathlib.Decide.{dec_le}
use native.Mathlib.Nat.{lt_of_not-le}
use native.Mathlib.Omega.{arith}
use borrow.Author.Tests.{le-leb, lt-leb, lt-ltb}
use lib.Dec.{eqb}
use lib.ListN.{length, drop_of_length-le}
use lib.IntN.{ℤ}
use denote.Enum.Bare.{sameb}
use Rattle.std.specs.Prelude.{Ok, Err}
use Rattle.numbers.specs.Spliced.{spliced}
use Rattle.numbers.proofs.Spliced.{spliced_front}
use Rattle.book.specs.contracts.refusal.Cause.{the_type}
use Rattle.book.specs.declared.reader.BookSize.{BookSize}
use Rattle.book.specs.declared.refusal.Cause.{Cause}
use Rattle.book.specs.declared.refusal.Cause.TheVariants as why
use Rattle.book.specs.declared.refusal.Refusal.{Refusal}
use Rattle.book.specs.Refusals.{number_of, refusal}
use Rattle.book.specs.Read.{BookRead, accepted, refused, answer_of, read_book}
use Rattle.writer.specs.Layout.{laid, laid_size, row_count, unfit_at, CountedTo}
use Rattle.writer.specs.Promise.{laid_out, mended, write_answer}
use Rattle.writer.proofs.Laying.{length-laid}

-- ---- the reader's refusal, mended

-- 5 is the number of one cause alone
is_five : (c : Cause) → sameb the_type c why.NumberNotAbove ≡ eqb (number_of c) 5
is_five why.BookTooLong = refl
is_five why.CutShort = refl
is_five why.UnknownKind = refl
is_five why.Misplaced = refl
is_five why.NumberNotAbove = refl
is_five why.BadBody = refl
is_five why.TooMany = refl
is_five why.LimitsOutside = refl
is_five why.RoomTooShort = refl
is_five why.RoomBroken = refl
is_five why.AlreadyPresent = refl
is_five why.NotPresent = refl
is_five why.TooManyReadings = refl
is_five why.TooManyTokens = refl
is_five why.BufferTooShort = refl
is_five why.NoSuchComplaint = refl
is_five why.NoSuchRule = refl
is_five why.NoSuchFile = refl
is_five why.OutputTooShort = refl

module _ (rows : List ℤ) (e : Refusal) (b : Bool) (same : b ≡ sameb the_type e.cause why.NumberNotAbove) where
  pub mended-five : b ≡ true → unfit_at (row_count rows) rows e.place ≡ true → refusal why.BadBody e.place ≡ mended rows e
  unfolding mended
  mended-five t u = rw (sym (is_five e.cause) ∙ sym same ∙ t, u)

  pub mended-fit : unfit_at (row_count rows) rows e.place ≡ false → e ≡ mended rows e
  unfolding mended
  mended-fit u = rw u (by (eqb (number_of e.cause) 5)) where
    by : (f : Bool) → e ≡ cond f e e
    by true = refl
    by false = refl

  pub mended-other : b ≡ false → e ≡ mended rows e
  unfolding mended
  mended-other f = rw (sym (is_five e.cause) ∙ sym same ∙ f)

-- ---- the verdict

module _ (rows : List ℤ) (size room : ℕ) where
  pub write_refused : (read : BookRead) (e : Refusal) → Err e ≡ answer_of read → Err (mended rows e) ≡ write_answer rows read size room
  unfolding answer_of write_answer
  write_refused (accepted rules) e a = cc
  write_refused (refused f) e a = cc

  pub write_short : (read : BookRead) (n : BookSize) → Ok n ≡ answer_of read → room < size → Err (refusal why.OutputTooShort 0) ≡ write_answer rows read size room
  unfolding answer_of write_answer
  write_short (accepted rules) n e h = simp (lt-leb size room h)
  write_short (refused f) n e h = cc

  pub write_fits : (read : BookRead) (n : BookSize) → Ok n ≡ answer_of read → size ≤ room → Ok size ≡ write_answer rows read size room
  unfolding answer_of write_answer
  write_fits (accepted rules) n e h = simp (le-leb size room h)
  write_fits (refused f) n e h = cc

-- ---- a size that was counted up to the most

counted-within : (most size r : ℕ) → CountedTo most size r → r ≤ most → size ≡ r
counted-within most size r c h = elim (dec_le size most) [
  | yes w ↦ sym (c.within w)
  | no w ↦ absurd (omega (arith, c.above (lt_of_not-le w)))
]

counted-above : (most size r : ℕ) → CountedTo most size r → most < r → most < size
counted-above most size r c h = elim (dec_le size most) [
  | yes w ↦ absurd (omega (arith, c.within w))
  | no w ↦ lt_of_not-le w
]

-- what fills the space counted for it is all that stands there
pub laid-filled : (rows : List ℤ) (wordings : List ℕ) (n : ℕ) → CountedTo 8192 (laid_size (row_count rows) rows) n → n ≤ 8192 → (space space' : List ℕ) → length space ≡ n
    → space' ≡ spliced space 0 (laid (row_count rows) rows wordings) → space' ≡ laid_out rows wordings
unfolding laid_out
laid-filled rows wordings n c h space space' e f =
    let book = laid (row_count rows) rows wordings in
    let long : length space ≤ length book = omega (arith, length-laid (row_count rows) rows wordings, counted-within 8192 _ n c h) in
    f ∙ spliced_front space book ∙ ap (λ (l : List ℕ). book ++ l) (drop_of_length-le space long) ∙ append-nil book

-- "book longer than 8,192 bytes"
read-long : (book : List ℕ) → 8192 < length book → read_book book ≡ refused (refusal why.BookTooLong 0)
unfolding read_book
read-long book h = simp (lt-ltb 8192 (length book) h)

pub write_long : (rows : List ℤ) (wordings : List ℕ) (room n : ℕ) → CountedTo 8192 (laid_size (row_count rows) rows) n → 8192 < n
    → Err (refusal why.BookTooLong 0) ≡ write_answer rows (read_book (laid_out rows wordings)) (length (laid_out rows wordings)) room
unfolding laid_out write_answer mended
write_long rows wordings room n c h =
    let long : 8192 < length (laid_out rows wordings) = rw (length-laid (row_count rows) rows wordings) (counted-above 8192 _ n c h) in
    rw (read-long (laid_out rows wordings) long)
