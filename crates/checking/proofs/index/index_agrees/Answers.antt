-- A book that is refused has no index; of one that is accepted the places found are compared with those in the room.
use Rattle.std.proofs.Common.{rules, arith, true, eq-eqb, ◌≡◌, sym, ◌∙◌, ◌+◌, ◌-◌, List, ℕ, take, drop}
use Rattle.std.specs.Prelude.{Result}
use mathlib.Core.Bool.{false≢true}
use borrow.Author.Tests.{eqb-true}
use Rattle.numbers.specs.BigEndian.{uint}
use Rattle.book.specs.declared.reader.Found.{Found}
use Rattle.book.specs.declared.refusal.Refusal.{Refusal}
use Rattle.book.specs.Read.{read_book, placed_of}
use Rattle.checking.specs.Checked.{book_in}
use Rattle.checking.proofs.Answers.{no}
use Rattle.checking.proofs.Numbers.{Bounds, bounds, book-read}
use Rattle.checking.proofs.IndexLaws.{refused_index, accepted_index, index_asked}
use Rattle.checking.proofs.index.index_agrees.Goals as goal
use Rattle.checking.proofs.index.index_agrees.Goals.{then-rules-two_at, else-rules-two_at, then-conditions-two_at, else-conditions-two_at, then-same_twos, else-same_twos}

-- what is read of the part of the room is what is read of its book
stored : (room : List ℕ) (n : ℕ) (answer : Result Found Refusal) → Bounds room → n ≡ uint 2 room 8
    → answer ≡ placed_of (read_book (take (16 + n - 16) (drop 16 room))) → answer ≡ placed_of (read_book (book_in room))
stored room n answer b size e = rw (book-read room b (16 + n) (omega arith)) at e

pub returns-in_default : goal.returns-in_default
returns-in_default c =
    let room = c.args.room.now in
    no (refused_index room c.in_default.field-0 (stored room _ _ (bounds room c.requires) c.two_at-end.ensures.0 c.in_default.ensures))

pub same_twos-requires : goal.same_twos-requires
same_twos-requires c =
    let room = c.args.room.now in
    let b = bounds room c.requires in
    let asked = index_asked room c.in-Ok.found (stored room _ _ b c.two_at-end.ensures.0 c.in-Ok.ensures) b in search rules

pub same_bytes-requires : goal.same_bytes-requires
same_bytes-requires c =
    let room = c.args.room.now in
    let b = bounds room c.requires in
    let asked = index_asked room c.in-Ok.found (stored room _ _ b c.two_at-end.ensures.0 c.in-Ok.ensures) b in search rules

pub same_twos-requires-then-same_bytes : goal.same_twos-requires-then-same_bytes
same_twos-requires-then-same_bytes c =
    let room = c.args.room.now in
    let b = bounds room c.requires in
    let asked = index_asked room c.in-Ok.found (stored room _ _ b c.two_at-end.ensures.0 c.in-Ok.ensures) b in search rules

pub returns-then-same_bytes : goal.returns-then-same_bytes
returns-then-same_bytes c =
    let room = c.args.room.now in
    let index = accepted_index room c.in-Ok.found (stored room _ _ (bounds room c.requires) c.two_at-end.ensures.0 c.in-Ok.ensures) in (
      λ e. index.1 (elim c.if-same_twos.branch [
        | then-same_twos counts ↦ elim c.if-conditions-two_at.branch [
          | then-conditions-two_at places ↦ elim c.if-rules-two_at.branch [
            | then-rules-two_at many ↦ record {
              rules = many.if-rules-two_at.true ∙ c.two_at.ensures.0;
              conditions = eqb-true _ _ (sym many.value-is ∙ places.if-conditions-two_at.true) ∙ many.two_at-then-rules-two_at.ensures.0;
              rule_places_are = places.same_twos.ensures.0 (sym places.value-is ∙ counts.if-same_twos.true);
              rule_conditions_are = counts.same_bytes.ensures.0 (sym counts.value-is ∙ c.if-same_bytes.true);
              condition_places_are = c.same_twos-then-same_bytes.ensures.0 e;
            }
            | else-rules-two_at many ↦ absurd (many.if-rules-two_at.false (eqb-true _ _ (sym many.value-is ∙ places.if-conditions-two_at.true)))
          ]
          | else-conditions-two_at places ↦ absurd (false≢true (sym places.if-conditions-two_at.false ∙ sym places.value-is ∙ counts.if-same_twos.true))
        ]
        | else-same_twos counts ↦ absurd (false≢true (sym counts.if-same_twos.false ∙ sym counts.value-is ∙ c.if-same_bytes.true))
      ]),
      λ i. c.same_twos-then-same_bytes.ensures.1 (index.0 i).condition_places_are,
    )

pub returns-else-same_bytes : goal.returns-else-same_bytes
returns-else-same_bytes c =
    let room = c.args.room.now in
    let index = accepted_index room c.in-Ok.found (stored room _ _ (bounds room c.requires) c.two_at-end.ensures.0 c.in-Ok.ensures) in (
      λ e. absurd (false≢true (sym c.if-same_bytes.false ∙ e)),
      λ i.
          let p = index.0 i in
          let many : c.if-rules-two_at.value ≡ true = elim c.if-rules-two_at.branch [
            | then-rules-two_at w ↦ w.value-is ∙ eq-eqb _ _ (p.conditions ∙ sym w.two_at-then-rules-two_at.ensures.0)
            | else-rules-two_at w ↦ absurd (w.if-rules-two_at.false (p.rules ∙ sym c.two_at.ensures.0))
          ] in
          let places : c.if-conditions-two_at.value ≡ true = elim c.if-conditions-two_at.branch [
            | then-conditions-two_at w ↦ w.value-is ∙ w.same_twos.ensures.1 p.rule_places_are
            | else-conditions-two_at w ↦ absurd (false≢true (sym w.if-conditions-two_at.false ∙ many))
          ] in
          elim c.if-same_twos.branch [
            | then-same_twos w ↦ w.value-is ∙ w.same_bytes.ensures.1 p.rule_conditions_are
            | else-same_twos w ↦ absurd (false≢true (sym w.if-same_twos.false ∙ places))
          ],
    )
