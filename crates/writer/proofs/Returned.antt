-- The rows of an accepted book's values, laid out, are that very book: so it is written byte for byte as it was read.
-- Assumes nothing.
use Prim.Native.Nat.{ℕ, suc, ◌+◌, ◌/◌, ◌^◌, ◌≤◌, ◌<◌}
use mathlib.Core.Path.{◌≡◌, refl, sym, ap, ◌∙◌}
use mathlib.Core.Bool.{Bool, true, false, cond}
use mathlib.Core.List.{List, [], ◌∷◌, ◌++◌, append_assoc, append-nil}
use native.Mathlib.Nat.{zero-add}
use native.Mathlib.Omega.{arith}
use borrow.Author.Tests.{le-leb}
use lib.Dec.{leb, eqb}
use lib.ListN.{length, drop, get_or, length-append}
use lib.Seq.{take_at, drop_at}
use lib.IntN.{ℤ}
use Rattle.numbers.specs.BigEndian.{uint, bytes}
use Rattle.numbers.specs.Spliced.{spliced}
use Rattle.numbers.proofs.BigEndian.{uint-below}
use Rattle.std.specs.Prelude.{Result, Ok, Err}
use Rattle.book.specs.declared.refusal.Cause.{Cause}
use Rattle.book.specs.declared.refusal.Refusal.{Refusal}
use Rattle.book.specs.declared.record.Record.{Record}
use Rattle.book.specs.declared.record.Record.TheVariants as r
use Rattle.book.specs.declared.record.Test.{Test}
use Rattle.book.specs.declared.record.Test.TheVariants.{Constant, Position, Gap}
use Rattle.book.specs.Record.{whole, rule_body, constant_body, position_body, gap_body, by_kind, record_at, test_size}
use Rattle.book.specs.Rules.{Rule, tests_size, conditions_size}
use Rattle.book.specs.Read.{accepted, read_book}
use Rattle.book.specs.Limits.{All, RuleKept}
use Rattle.book.specs.Stands.{TestsStand, ConditionsStand, RulesStand}
use Rattle.book.proofs.Limits.{read_kept}
use Rattle.book.proofs.Stands.{read-stands}
use Rattle.writer.specs.Fields.{fits, clamped}
use Rattle.writer.specs.Rows.{constant_of, position_of, gap_of, record_by, record_of, is_rule}
use Rattle.writer.specs.Bytes.{test_bytes, record_bytes, said_bytes, tests_bytes, condition_bytes, conditions_bytes, rule_bytes, rules_bytes, book_bytes}
use Rattle.writer.specs.Layout.{first_wording, wording_for, row_bytes, wording_size, laid}
use Rattle.writer.specs.Values.{test_row, row_of, test_records, condition_records, records_of, rows_of_records, rows_of, joined, wordings_of}
use Rattle.writer.specs.Held.{Held, RuleHeld}
use Rattle.writer.specs.Promise.{laid_out, write_answer, buffer_left, Writes}
use Rattle.writer.proofs.Faithful.{AllBytes, bytes_drop}
use Rattle.writer.proofs.Numbers.{signed_mag}
use Rattle.writer.proofs.Passing.{length-rows_of_records, rows_of_records-append}
use Rattle.writer.proofs.Written.{written_read}

-- ---- the row of a value says that value

test_said : (t : Test) (rest : List ℤ) → Held t → record_of (test_row t ++ rest) ≡ Ok (r.Test t)
unfolding test_row record_of record_by constant_of position_of gap_of clamped fits
test_said (Constant p q n) rest h =
    let hp : leb p 255 ≡ true = le-leb p 255 (omega arith) in
    let hq : leb q 255 ≡ true = le-leb q 255 (omega arith) in
    let hn : leb n 4294967295 ≡ true = le-leb n 4294967295 (omega arith) in
    simp (hp, hq, hn)
test_said (Position p q c o) rest h =
    let hp : leb p 255 ≡ true = le-leb p 255 (omega arith) in
    let hq : leb q 255 ≡ true = le-leb q 255 (omega arith) in
    let hc : leb c 255 ≡ true = le-leb c 255 (omega arith) in
    let ho : leb o 255 ≡ true = le-leb o 255 (omega arith) in
    simp (hp, hq, hc, ho)
test_said (Gap p c o low high) rest h =
    let hp : leb p 255 ≡ true = le-leb p 255 (omega arith) in
    let hc : leb c 255 ≡ true = le-leb c 255 (omega arith) in
    let ho : leb o 255 ≡ true = le-leb o 255 (omega arith) in
    simp (hp, hc, ho)

-- ---- and is laid out as its bytes

laid_test : (n : ℕ) (t : Test) (rest : List ℤ) (words : List ℕ) → Held t → laid (suc n) (test_row t ++ rest) words ≡ test_bytes t ++ laid n rest words
unfolding laid row_bytes said_bytes record_bytes wording_size is_rule clamped test_row
laid_test n (Constant p q m) rest words h = ap (λ (said : Result Record Cause). said_bytes said (wording_for (test_row (Constant p q m) ++ rest) words) ++ laid n rest words) (test_said (Constant p q m) rest h)
laid_test n (Position p q c o) rest words h = ap (λ (said : Result Record Cause). said_bytes said (wording_for (test_row (Position p q c o) ++ rest) words) ++ laid n rest words) (test_said (Position p q c o) rest h)
laid_test n (Gap p c o low high) rest words h = ap (λ (said : Result Record Cause). said_bytes said (wording_for (test_row (Gap p c o low high) ++ rest) words) ++ laid n rest words) (test_said (Gap p c o low high) rest h)

laid_condition : (n : ℕ) (rest : List ℤ) (words : List ℕ) → laid (suc n) (row_of r.Condition ++ rest) words ≡ 2 ∷ laid n rest words
unfolding laid row_bytes said_bytes record_bytes record_of record_by row_of clamped wording_size is_rule
laid_condition n rest words = refl

laid-rule : (n m : ℕ) (rest : List ℤ) (wording words : List ℕ) → m < 2 ^ 16 → length wording ≡ 24
    → laid (suc n) (row_of (r.Rule m) ++ rest) (wording ++ words) ≡ (1 ∷ (bytes 2 m ++ wording)) ++ laid n rest words
unfolding laid row_bytes said_bytes record_bytes record_of record_by row_of clamped fits wording_for first_wording wording_size is_rule
laid-rule n m rest wording words h e =
    let hm : leb m 65535 ≡ true = le-leb m 65535 (omega arith) in
    let whole : leb 24 (length (wording ++ words)) ≡ true = le-leb 24 (length (wording ++ words)) (omega (arith, length-append wording words)) in
    simp (hm, whole, take_at wording words 24 e, drop_at wording words 24 e)

-- ---- all of them

laid-tests : (tests : List Test) (m : ℕ) (rows : List ℤ) (words : List ℕ) → All Held tests
    → laid (length (test_records tests) + m) (rows_of_records (test_records tests) ++ rows) words ≡ tests_bytes tests ++ laid m rows words
unfolding test_records rows_of_records row_of tests_bytes
laid-tests [] m rows words h = rw (zero-add m)
laid-tests (t ∷ tests) m rows words h =
    let more = rows_of_records (test_records tests) in
    let count : length (r.Test t ∷ test_records tests) + m ≡ suc (length (test_records tests) + m) = omega arith in
    ap (λ (k : ℕ). laid k ((test_row t ++ more) ++ rows) words) count
    ∙ ap (λ (l : List ℤ). laid (suc (length (test_records tests) + m)) l words) (append_assoc (test_row t) more rows)
    ∙ laid_test (length (test_records tests) + m) t (more ++ rows) words h.0
    ∙ ap (λ (l : List ℕ). test_bytes t ++ l) (laid-tests tests m rows words h.1)
    ∙ sym (append_assoc (test_bytes t) (tests_bytes tests) (laid m rows words))

laid-conditions : (conditions : List (List Test)) (m : ℕ) (rows : List ℤ) (words : List ℕ) → All (All Held) conditions
    → laid (length (condition_records conditions) + m) (rows_of_records (condition_records conditions) ++ rows) words ≡ conditions_bytes conditions ++ laid m rows words
unfolding condition_records rows_of_records conditions_bytes condition_bytes
laid-conditions [] m rows words h = rw (zero-add m)
laid-conditions (tests ∷ conditions) m rows words h =
    let own = test_records tests in
    let more = condition_records conditions in
    let n = length own + (length more + m) in
    let count : length (r.Condition ∷ (own ++ more)) + m ≡ suc n = omega (arith, length-append own more) in
    let parts : (row_of r.Condition ++ rows_of_records (own ++ more)) ++ rows ≡ row_of r.Condition ++ (rows_of_records own ++ (rows_of_records more ++ rows)) =
    ap (λ (l : List ℤ). (row_of r.Condition ++ l) ++ rows) (rows_of_records-append own more) ∙ simp append_assoc in
    ap (λ (k : ℕ). laid k ((row_of r.Condition ++ rows_of_records (own ++ more)) ++ rows) words) count
    ∙ ap (λ (l : List ℤ). laid (suc n) l words) parts
    ∙ laid_condition n (rows_of_records own ++ (rows_of_records more ++ rows)) words
    ∙ ap (λ (l : List ℕ). 2 ∷ l) (laid-tests tests (length more + m) (rows_of_records more ++ rows) words h.0
    ∙ ap (λ (l : List ℕ). tests_bytes tests ++ l) (laid-conditions conditions m rows words h.1)
    ∙ sym (append_assoc (tests_bytes tests) (conditions_bytes conditions) (laid m rows words)))

laid-rules : (rules : List Rule) (m : ℕ) (rows : List ℤ) (words : List ℕ) → All RuleHeld rules → All RuleKept rules
    → laid (length (records_of rules) + m) (rows_of_records (records_of rules) ++ rows) (wordings_of rules ++ words) ≡ rules_bytes rules ++ laid m rows words
unfolding records_of rows_of_records rules_bytes rule_bytes wordings_of joined
laid-rules [] m rows words h k = rw (zero-add m)
laid-rules (rule ∷ rules) m rows words h k =
    let first = row_of (r.Rule rule.number) in
    let head : List ℕ = 1 ∷ (bytes 2 rule.number ++ rule.wording) in
    let own = condition_records rule.conditions in
    let more = records_of rules in
    let n = length own + (length more + m) in
    let count : length (r.Rule rule.number ∷ (own ++ more)) + m ≡ suc n = omega (arith, length-append own more) in
    let parts : (first ++ rows_of_records (own ++ more)) ++ rows ≡ first ++ (rows_of_records own ++ (rows_of_records more ++ rows)) =
    ap (λ (l : List ℤ). (first ++ l) ++ rows) (rows_of_records-append own more) ∙ simp append_assoc in
    ap (λ (j : ℕ). laid j ((first ++ rows_of_records (own ++ more)) ++ rows) ((rule.wording ++ wordings_of rules) ++ words)) count
    ∙ ap (λ (l : List ℤ). laid (suc n) l ((rule.wording ++ wordings_of rules) ++ words)) parts
    ∙ ap (laid (suc n) (first ++ (rows_of_records own ++ (rows_of_records more ++ rows)))) (append_assoc rule.wording (wordings_of rules) words)
    ∙ laid-rule n rule.number (rows_of_records own ++ (rows_of_records more ++ rows)) rule.wording (wordings_of rules ++ words) h.0.0 k.0.whole
    ∙ ap (λ (l : List ℕ). head ++ l) (laid-conditions rule.conditions (length more + m) (rows_of_records more ++ rows) (wordings_of rules ++ words) h.0.1
    ∙ ap (λ (l : List ℕ). conditions_bytes rule.conditions ++ l) (laid-rules rules m rows words h.1 k.1))
    ∙ simp append_assoc

laid_out_values : (rules : List Rule) → All RuleHeld rules → All RuleKept rules → laid_out (rows_of rules) (wordings_of rules) ≡ book_bytes rules
unfolding laid_out rows_of book_bytes laid
laid_out_values rules h k =
    let records = records_of rules in
    let count : length (rows_of_records records) / 6 ≡ length records + 0 = omega (arith, length-rows_of_records records) in
    ap (λ (n : ℕ). laid n (rows_of_records records) (wordings_of rules)) count
    ∙ ap (λ (l : List ℤ). laid (length records + 0) l (wordings_of rules)) (sym (append-nil (rows_of_records records)))
    ∙ ap (laid (length records + 0) (rows_of_records records ++ [])) (sym (append-nil (wordings_of rules)))
    ∙ laid-rules rules 0 [] [] h k

-- ---- the values of an accepted book fit their fields

abbrev RecordHeld : Result Record Refusal → Type 0
RecordHeld (Ok (r.Rule n)) = n < 2 ^ 16
RecordHeld (Ok r.Condition) = Unit {0}
RecordHeld (Ok (r.Test t)) = Held t
RecordHeld (Ok r.End) = Unit {0}
RecordHeld (Err e) = Unit {0}

held_cond : (b : Bool) (x y : Result Record Refusal) → RecordHeld x → RecordHeld y → RecordHeld (cond b x y)
held_cond true x y p q = p
held_cond false x y p q = q

held-by_kind : (kind : ℕ) (body : List ℕ) (at : ℕ) → AllBytes body → RecordHeld (by_kind kind body at)
unfolding by_kind rule_body constant_body position_body gap_body whole
held-by_kind kind body at byte =
    held_cond (eqb kind 1) _ _ (held_cond (leb 26 (length body)) _ _ (uint-below 2 body 0 byte) tt)
    (held_cond (eqb kind 2) _ _ tt
    (held_cond (eqb kind 3) _ _ (held_cond (leb 6 (length body)) _ _ (byte 0, byte 1, uint-below 4 body 2 byte) tt)
    (held_cond (eqb kind 4) _ _ (held_cond (leb 4 (length body)) _ _ (byte 0, byte 1, byte 2, byte 3) tt)
    (held_cond (eqb kind 5) _ _ (held_cond (leb 19 (length body)) _ _ (byte 0, byte 1, byte 2, signed_mag (uint 8 body 3) (uint-below 8 body 3 byte), signed_mag (uint 8 body 11) (uint-below 8 body 11 byte)) tt)
    (held_cond (eqb kind 9) _ _ tt tt)))))

module _ (book : List ℕ) (byte : AllBytes book) where
  record_held : (at : ℕ) → RecordHeld (record_at book at)
  unfolding record_at
  record_held at = held_cond (leb (length book) at) _ _ tt (held-by_kind (get_or book at 0) (drop (at + 1) book) at (bytes_drop (at + 1) book byte))

  tests-held : (at : ℕ) (tests : List Test) → TestsStand book at tests → All Held tests
  tests-held at [] h = tt
  tests-held at (t ∷ tests) h = (rw h.0 at (record_held at), tests-held (at + test_size t) tests h.1)

  conditions-held : (at : ℕ) (conditions : List (List Test)) → ConditionsStand book at conditions → All (All Held) conditions
  conditions-held at [] h = tt
  conditions-held at (tests ∷ conditions) h = (tests-held (at + 1) tests h.0.tests, conditions-held (at + (1 + tests_size tests)) conditions h.1)

  rules-held : (at : ℕ) (rules : List Rule) → RulesStand book at rules → All RuleHeld rules
  rules-held at [] h = tt
  rules-held at (rule ∷ rules) h =
      ((rw h.0.begins at (record_held at), conditions-held (at + 27) rule.conditions h.0.conditions), rules-held (at + (27 + conditions_size rule.conditions)) rules h.1)

  pub read_held : (rules : List Rule) → read_book book ≡ accepted rules → All RuleHeld rules
  read_held rules e = rules-held 0 rules (read-stands book rules e).0.stand

  -- ---- read and written

  laid_out-read : (rules : List Rule) → read_book book ≡ accepted rules → laid_out (rows_of rules) (wordings_of rules) ≡ book
  laid_out-read rules e = laid_out_values rules (read_held rules e) (read_kept book rules e).each ∙ sym (written_read book byte rules e)

  -- "any accepted book, read and written, must come out byte for byte": from the rows of its values, into a buffer that has room for it
  pub returned : (rules : List Rule) → read_book book ≡ accepted rules → (buffer : List ℕ) (answer : Result ℕ Refusal) (left : List ℕ) → length book ≤ length buffer
      → Writes (rows_of rules) (wordings_of rules) buffer answer left → (answer ≡ Ok (length book)) × (left ≡ spliced buffer 0 book)
  unfolding write_answer buffer_left
  returned rules e buffer answer left h writes =
      let same = laid_out-read rules e in
      let room : leb (length book) (length buffer) ≡ true = le-leb (length book) (length buffer) h in
      let answered : answer ≡ write_answer (rows_of rules) (read_book book) (length book) (length buffer) = rw same at writes.answered in
      let written : left ≡ buffer_left answer book buffer = rw same at writes.written in
      let accepted' : answer ≡ Ok (length book) = answered ∙ rw (e, room) in
      (accepted', written ∙ ap (λ (a : Result ℕ Refusal). buffer_left a book buffer) accepted')
