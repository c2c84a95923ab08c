-- What the call that reads rows answers and leaves, by the reader's verdict. Assumes nothing.
use Prim.Native.Nat.{ℕ, ◌-◌, ◌*◌, ◌/◌, ◌≤◌, ◌<◌}
use mathlib.Core.Path.{◌≡◌, sym, ap, ◌∙◌}
use mathlib.Core.Bool.{true, false}
use mathlib.Core.List.{List, ◌++◌}
use native.Mathlib.Omega.{arith}
use borrow.Author.Tests.{le-leb, lt-leb}
use lib.Dec.{leb}
use lib.ListN.{length, take, replicate}
use lib.Seq.{take_at}
use Rattle.std.specs.Prelude.{Ok, Err}
use Rattle.book.specs.declared.reader.Found.{Found}
use Rattle.book.specs.declared.refusal.Cause.TheVariants.{OutputTooShort}
use Rattle.book.specs.declared.refusal.Refusal.{Refusal}
use Rattle.book.specs.Refusals.{refusal}
use Rattle.book.specs.Rules.{Rule, rule_places, padded, places_of}
use Rattle.book.specs.Read.{BookRead, accepted, refused, read_book, rules_of, placed_of}
use Rattle.book.proofs.Growth.{length-rule_places}
use Rattle.book.proofs.Offsets.{rule_places_wordings}
use Rattle.book.proofs.Stands.{read-stands}
use Rattle.book.proofs.Wordings.{rules-read}
use Rattle.writer.specs.Values.{records_of, rows_of_records, rows_of, joined, wordings_of, records_in, wordings_at}
use Rattle.writer.specs.Promise.{rows_answer}
use Rattle.writer.proofs.Passing.{length-rows_of_records}
use Rattle.writer.proofs.Flat.{records_in-accepted}

-- a book that is refused
pub rows-refused : (book : List ℕ) (room wide : ℕ) (e : Refusal) → Err e ≡ placed_of (read_book book) → Err e ≡ rows_answer (read_book book) room wide
unfolding placed_of rows_answer
rows-refused book room wide e f = by (read_book book) f where
  by : (b : BookRead) → Err e ≡ placed_of b → Err e ≡ rows_answer b room wide
  by (accepted rules) w = cc
  by (refused g) w = cc

-- a book that is accepted
module _ (book : List ℕ) (found : Found) (e : Ok found ≡ placed_of (read_book book)) where
  abbrev rules : List Rule
  rules = (rules-read book found e).0

  read : read_book book ≡ accepted rules
  read = (rules-read book found e).1.0

  many : found.size.rules ≡ length rules
  many = ap (λ (f : Found). f.size.rules) (rules-read book found e).1.1

  pub rows_are : rows_of_records (records_in book) ≡ rows_of (rules_of (read_book book))
  unfolding rows_of rules_of
  rows_are = ap rows_of_records (records_in-accepted book rules read) ∙ ap (λ (b : BookRead). rows_of_records (records_of (rules_of b))) (sym read)

  pub wordings_are : wordings_at book (take found.size.rules found.places.rules) ≡ wordings_of (rules_of (read_book book))
  unfolding rules_of places_of padded wordings_at wordings_of
  wordings_are =
      let places : found.places.rules ≡ rule_places 0 rules ++ replicate (32 - length (rule_places 0 rules)) 0 = ap (λ (f : Found). f.places.rules) (rules-read book found e).1.1 in
      rw (places, take_at (rule_places 0 rules) _ found.size.rules (length-rule_places 0 rules ∙ sym many), read) (ap joined (rule_places_wordings book 0 rules (read-stands book rules read).0.stand))

  -- so many records
  module _ (n : ℕ) (counted : n ≡ length (records_in book)) (room wide : ℕ) where
    long : length (rows_of rules) ≡ n * 6
    unfolding rows_of
    long = length-rows_of_records (records_of rules) ∙ ap (λ (k : ℕ). k * 6) (ap length (sym (records_in-accepted book rules read)) ∙ sym counted)

    pub rows_fit : n ≤ room / 6 → length (rows_of_records (records_in book)) ≤ room
    rows_fit h = omega (arith, length-rows_of_records (records_in book), counted)

    pub rows_few : room / 6 < n → Err (refusal OutputTooShort 0) ≡ rows_answer (read_book book) room wide
    unfolding rows_answer
    rows_few h =
        let few : leb (length (rows_of rules)) room ≡ false = lt-leb (length (rows_of rules)) room (omega (arith, long)) in
        rw (read, few)

    pub wordings_few : n ≤ room / 6 → wide / 24 < found.size.rules → Err (refusal OutputTooShort 0) ≡ rows_answer (read_book book) room wide
    unfolding rows_answer
    wordings_few h k =
        let enough : leb (length (rows_of rules)) room ≡ true = le-leb (length (rows_of rules)) room (omega (arith, long)) in
        let few : leb (length rules * 24) wide ≡ false = lt-leb (length rules * 24) wide (omega (arith, many)) in
        rw (read, enough, few)

    pub rows-read : n ≤ room / 6 → found.size.rules ≤ wide / 24 → Ok (record { records = n; rules = found.size.rules }) ≡ rows_answer (read_book book) room wide
    unfolding rows_answer
    rows-read h k =
        let enough : leb (length (rows_of rules)) room ≡ true = le-leb (length (rows_of rules)) room (omega (arith, long)) in
        let wordings : leb (length rules * 24) wide ≡ true = le-leb (length rules * 24) wide (omega (arith, many)) in
        let count : n ≡ length (records_of rules) = counted ∙ ap length (records_in-accepted book rules read) in
        rw (read, enough, wordings, ← count, ← many)
