-- An accepted book is the bytes of its values, byte for byte; so two accepted books with the same values are the same bytes.
-- Assumes nothing.
use Prim.Native.Nat.{ℕ, ◌+◌}
use mathlib.Core.Path.{◌≡◌, refl, sym, ap, ◌∙◌}
use mathlib.Core.List.{List, [], ◌∷◌, ◌++◌, append_assoc}
use native.Mathlib.Nat.{add-zero, zero-add}
use native.Mathlib.Omega.{arith}
use lib.ListN.{drop}
use lib.Seq.{drop-length}
use Rattle.std.specs.Prelude.{Ok}
use Rattle.numbers.specs.BigEndian.{bytes}
use Rattle.book.specs.declared.record.Record.TheVariants as r
use Rattle.book.specs.declared.record.Test.{Test}
use Rattle.book.specs.declared.record.Test.TheVariants.{Constant, Position, Gap}
use Rattle.book.specs.Record.{record_at, test_size, size_of}
use Rattle.book.specs.Rules.{Rule, tests_size, conditions_size, rules_size}
use Rattle.book.specs.Read.{accepted, read_book}
use Rattle.book.specs.Stands.{TestsStand, ConditionStands, ConditionsStand, RuleStands, RulesStand}
use Rattle.book.proofs.Stands.{read-stands}
use Rattle.writer.specs.Bytes.{test_bytes, record_bytes, tests_bytes, condition_bytes, conditions_bytes, rule_bytes, rules_bytes, book_bytes}
use Rattle.writer.proofs.Faithful.{AllBytes, record_at-bytes}

-- two parts, one behind the other, and the rest
joined : (xs ys zs : List ℕ) {l m : List ℕ} → l ≡ xs ++ m → m ≡ ys ++ zs → l ≡ (xs ++ ys) ++ zs
joined xs ys zs e f = e ∙ ap (λ (k : List ℕ). xs ++ k) f ∙ sym (append_assoc xs ys zs)

module _ (book : List ℕ) (byte : AllBytes book) where
  test_bytes_lem : (at : ℕ) (t : Test) → record_at book at ≡ Ok (r.Test t) → drop at book ≡ test_bytes t ++ drop (at + test_size t) book
  unfolding record_bytes size_of test_size
  test_bytes_lem at (Constant p q n) e = record_at-bytes book byte at 6 (r.Test (Constant p q n)) e refl
  test_bytes_lem at (Position p q c o) e = record_at-bytes book byte at 4 (r.Test (Position p q c o)) e refl
  test_bytes_lem at (Gap p c o low high) e = record_at-bytes book byte at 19 (r.Test (Gap p c o low high)) e refl

  tests-bytes : (at : ℕ) (tests : List Test) → TestsStand book at tests → drop at book ≡ tests_bytes tests ++ drop (at + tests_size tests) book
  unfolding tests_bytes tests_size
  tests-bytes at [] h = rw (add-zero at)
  tests-bytes at (t ∷ tests) h =
      let next : at + (test_size t + tests_size tests) ≡ at + test_size t + tests_size tests = omega arith in
      rw next (joined (test_bytes t) (tests_bytes tests) _ (test_bytes_lem at t h.0) (tests-bytes (at + test_size t) tests h.1))

  condition_bytes_lem : (at : ℕ) (tests : List Test) → ConditionStands book at tests → drop at book ≡ condition_bytes tests ++ drop (at + (1 + tests_size tests)) book
  unfolding condition_bytes record_bytes size_of
  condition_bytes_lem at tests h =
      let next : at + (1 + tests_size tests) ≡ at + 1 + tests_size tests = omega arith in
      rw next (joined (2 ∷ []) (tests_bytes tests) _ (record_at-bytes book byte at 0 r.Condition h.begins refl) (tests-bytes (at + 1) tests h.tests))

  conditions-bytes : (at : ℕ) (conditions : List (List Test)) → ConditionsStand book at conditions → drop at book ≡ conditions_bytes conditions ++ drop (at + conditions_size conditions) book
  unfolding conditions_bytes conditions_size
  conditions-bytes at [] h = rw (add-zero at)
  conditions-bytes at (tests ∷ conditions) h =
      let next : at + (1 + tests_size tests + conditions_size conditions) ≡ at + (1 + tests_size tests) + conditions_size conditions = omega arith in
      rw next (joined (condition_bytes tests) (conditions_bytes conditions) _ (condition_bytes_lem at tests h.0) (conditions-bytes (at + (1 + tests_size tests)) conditions h.1))

  rule-bytes : (at : ℕ) (rule : Rule) → RuleStands book at rule → drop at book ≡ rule_bytes rule ++ drop (at + (27 + conditions_size rule.conditions)) book
  unfolding rule_bytes record_bytes size_of
  rule-bytes at rule h =
      let next : at + (27 + conditions_size rule.conditions) ≡ at + 27 + conditions_size rule.conditions = omega arith in
      let own : drop at book ≡ (1 ∷ (bytes 2 rule.number ++ rule.wording)) ++ drop (at + 27) book = rw h.wording (record_at-bytes book byte at 26 (r.Rule rule.number) h.begins refl) in
      rw next (joined (1 ∷ (bytes 2 rule.number ++ rule.wording)) (conditions_bytes rule.conditions) _ own (conditions-bytes (at + 27) rule.conditions h.conditions))

  rules-bytes : (at : ℕ) (rules : List Rule) → RulesStand book at rules → drop at book ≡ rules_bytes rules ++ drop (at + rules_size rules) book
  unfolding rules_bytes rules_size
  rules-bytes at [] h = rw (add-zero at)
  rules-bytes at (rule ∷ rules) h =
      let size : ℕ = 27 + conditions_size rule.conditions in
      let next : at + (27 + conditions_size rule.conditions + rules_size rules) ≡ at + size + rules_size rules = omega arith in
      rw next (joined (rule_bytes rule) (rules_bytes rules) _ (rule-bytes at rule h.0) (rules-bytes (at + size) rules h.1))

  -- "any accepted book, read and written, must come out byte for byte"
  pub written_read : (rules : List Rule) → read_book book ≡ accepted rules → book ≡ book_bytes rules
  unfolding book_bytes record_bytes size_of
  written_read rules e =
      let s = (read-stands book rules e).0 in
      let end : drop (rules_size rules) book ≡ 9 ∷ [] =
      record_at-bytes book byte (rules_size rules) 0 r.End s.end refl ∙ ap (λ (n : ℕ). 9 ∷ drop n book) s.last ∙ ap (λ (l : List ℕ). 9 ∷ l) (drop-length book) in
      rules-bytes 0 rules s.stand ∙ ap (λ (n : ℕ). rules_bytes rules ++ drop n book) (zero-add (rules_size rules)) ∙ ap (λ (l : List ℕ). rules_bytes rules ++ l) end

-- so two accepted books with the same values are the same bytes
pub book-once : (a b : List ℕ) → AllBytes a → AllBytes b → (rules : List Rule) → read_book a ≡ accepted rules → read_book b ≡ accepted rules → a ≡ b
book-once a b byte byte' rules e f = written_read a byte rules e ∙ sym (written_read b byte' rules f)
