-- Values that keep the limits and fit their fields, written, are read back as themselves. Assumes nothing.
use Prim.Native.Nat.{ℕ, suc, ◌+◌, ◌-◌, ◌≤◌, ◌<◌}
use mathlib.Core.Path.{◌≡◌, refl, sym, ap, ◌∙◌}
use mathlib.Core.Bool.{true, false}
use mathlib.Core.List.{List, [], ◌∷◌, ◌++◌, append_assoc, append-nil}
use native.Mathlib.Nat.{add-zero, zero-add}
use native.Mathlib.Omega.{arith}
use borrow.Author.Tests.{le-ltb, lt-leb, le-leb, ne_eqb, eq-eqb}
use lib.Dec.{leb, ltb, eqb}
use lib.ListN.{length, drop, length-append}
use lib.Seq.{drop-drop, drop_at, take_at}
use Rattle.std.specs.Prelude.{Ok}
use Rattle.numbers.specs.BigEndian.{uint, bytes}
use Rattle.numbers.proofs.BigEndian.{length-bytes, uint-bytes}
use Rattle.book.specs.declared.judgement.Standing.{Standing}
use Rattle.book.specs.declared.record.Record.{Record}
use Rattle.book.specs.declared.record.Record.TheVariants as r
use Rattle.book.specs.declared.record.Test.{Test}
use Rattle.book.specs.Record.{rule_body, by_kind, record_at, test_size, size_of}
use Rattle.book.specs.Judgement.{Judged, taken, printable, wording_of, test_fits, unfinished, rule_judged, condition_judged, test_judged, end_judged, judged}
use Rattle.book.specs.Rules.{Rule, no_rule, last_or, on_last, with_condition, with_test, standing, tests_size, conditions_size, rules_size}
use Rattle.book.specs.Read.{BookRead, accepted, unless, grown, bytes_of, ended, turn, walk, read_book}
use Rattle.book.specs.Stands.{Laid}
use Rattle.book.specs.Limits.{All, Ascending, ConditionKept, RuleKept, Kept}
use Rattle.book.proofs.Lasts.{last_or_snoc}
use Rattle.book.proofs.RecordLaws.{whole_is}
use Rattle.writer.specs.Bytes.{test_bytes, tests_bytes, condition_bytes, conditions_bytes, rule_bytes, rules_bytes, book_bytes}
use Rattle.writer.specs.Values.{test_records, condition_records, records_of}
use Rattle.writer.specs.Held.{Held, RuleHeld}
use Rattle.writer.proofs.Flat.{rules_few}
use Rattle.writer.proofs.Held.{record_at-drop, test_read}
use Rattle.writer.proofs.Laying.{length-test_bytes}

-- ---- how many bytes

length-tests_bytes : (tests : List Test) → length (tests_bytes tests) ≡ tests_size tests
unfolding tests_bytes tests_size
length-tests_bytes [] = refl
length-tests_bytes (t ∷ tests) = length-append (test_bytes t) (tests_bytes tests) ∙ rw (length-test_bytes t, length-tests_bytes tests)

length-conditions_bytes : (conditions : List (List Test)) → length (conditions_bytes conditions) ≡ conditions_size conditions
unfolding conditions_bytes condition_bytes conditions_size
length-conditions_bytes [] = refl
length-conditions_bytes (tests ∷ conditions) =
    length-append (2 ∷ tests_bytes tests) (conditions_bytes conditions) ∙ omega (arith, length-tests_bytes tests, length-conditions_bytes conditions)

length-rules_bytes : (rules : List Rule) → All RuleKept rules → length (rules_bytes rules) ≡ rules_size rules
unfolding rules_bytes rule_bytes rules_size
length-rules_bytes [] k = refl
length-rules_bytes (rule ∷ rules) k =
    let head : List ℕ = 1 ∷ (bytes 2 rule.number ++ rule.wording) in
    length-append (head ++ conditions_bytes rule.conditions) (rules_bytes rules)
    ∙ omega (
      arith,
      length-append head (conditions_bytes rule.conditions),
      length-append (bytes 2 rule.number) rule.wording,
      length-bytes 2 rule.number,
      k.0.whole,
      length-conditions_bytes rule.conditions,
      length-rules_bytes rules k.1,
    )

-- ---- a record that is taken

test_judged_lem : (s : Standing) (t : Test) → 0 < s.conditions → s.tests < 8 → test_fits t (s.conditions - 1) ≡ true → test_judged s t ≡ taken
unfolding test_judged
test_judged_lem s t some room fit = simp (ne_eqb s.conditions 0 (λ (z : s.conditions ≡ 0). omega arith), lt-leb 8 s.tests room, fit)

condition_judged_lem : (s : Standing) → 0 < s.rules → s.conditions < 6 → condition_judged s ≡ taken
unfolding condition_judged
condition_judged_lem s some room = simp (ne_eqb s.rules 0 (λ (z : s.rules ≡ 0). omega arith), lt-leb 6 s.conditions room)

rule-judged : (s : Standing) (number : ℕ) (body : List ℕ) → unfinished s ≡ false → s.rules < 32 → s.last < number → printable (wording_of body) ≡ true → rule_judged s number body ≡ taken
unfolding rule_judged
rule-judged s number body done room above printed = simp (done, lt-leb 32 s.rules room, lt-leb number s.last above, printed)

end-judged : (s : Standing) → unfinished s ≡ false → end_judged s ≡ taken
unfolding end_judged
end-judged s done = rw done

unless_taken : (j : Judged) (place : ℕ) (on : BookRead) → j ≡ taken → unless j place on ≡ on
unfolding unless
unless_taken j place on e = rw e

on_last_snoc : {A : Type 0} (f : A → A) (l : List A) (a : A) → on_last f (l ++ a ∷ []) ≡ l ++ f a ∷ []
unfolding on_last
on_last_snoc f [] a = refl
on_last_snoc f (b ∷ []) a = refl
on_last_snoc {A} f (b ∷ (c ∷ l)) a = ap (λ (k : List A). b ∷ k) (on_last_snoc f (c ∷ l) a)

-- a rule with these conditions
abbrev rule_of : ℕ → List ℕ → List (List Test) → Rule
rule_of n w cs = record { number = n; wording = w; conditions = cs }

rule_body_lem : (number : ℕ) (wording rest : List ℕ) (at : ℕ) → number < 65536 → length wording ≡ 24 → by_kind 1 ((bytes 2 number ++ wording) ++ rest) at ≡ Ok (r.Rule number)
unfolding by_kind rule_body
rule_body_lem number wording rest at h long =
    let body : List ℕ = (bytes 2 number ++ wording) ++ rest in
    let all : 26 ≤ length body = omega (arith, length-append (bytes 2 number ++ wording) rest, length-append (bytes 2 number) wording, length-bytes 2 number) in
    sym (whole_is 26 at body _ all) ∙ ap (λ (n : ℕ). Ok (r.Rule n)) (ap (λ (b : List ℕ). uint 2 b 0) (append_assoc (bytes 2 number) wording rest) ∙ uint-bytes 2 number (wording ++ rest) h)

rule_words : (number : ℕ) (wording rest : List ℕ) → length wording ≡ 24 → wording_of ((bytes 2 number ++ wording) ++ rest) ≡ wording
unfolding wording_of
rule_words number wording rest long =
    let body : List ℕ = (bytes 2 number ++ wording) ++ rest in
    let all : leb 26 (length body) ≡ true = le-leb 26 (length body) (omega (arith, length-append (bytes 2 number ++ wording) rest, length-append (bytes 2 number) wording, length-bytes 2 number)) in
    let words : drop 2 body ≡ wording ++ rest = ap (drop 2) (append_assoc (bytes 2 number) wording rest) ∙ drop_at (bytes 2 number) (wording ++ rest) 2 (length-bytes 2 number) in
    rw (all, words) (take_at wording rest 24 long)

-- a rule that has a condition is finished
finished : (pre : List Rule) (rule : Rule) → 0 < length rule.conditions → unfinished (standing (pre ++ rule ∷ [])) ≡ false
unfolding unfinished standing
finished pre rule some =
    let last : last_or no_rule (pre ++ rule ∷ []) ≡ rule = last_or_snoc no_rule pre rule in
    let conditions : eqb (length (last_or no_rule (pre ++ rule ∷ [])).conditions) 0 ≡ false = ap (λ (q : Rule). eqb (length q.conditions) 0) last ∙ ne_eqb (length rule.conditions) 0 (λ (z : length rule.conditions ≡ 0). omega arith) in
    let rules : eqb (length (pre ++ rule ∷ [])) 0 ≡ false = ne_eqb (length (pre ++ rule ∷ [])) 0 (λ (z : length (pre ++ rule ∷ []) ≡ 0). omega (arith, length-append pre (rule ∷ []))) in
    simp (conditions, rules)

module _ (book : List ℕ) where
  behind : (at n : ℕ) (xs rest : List ℕ) → length xs ≡ n → drop at book ≡ xs ++ rest → drop (at + n) book ≡ rest
  behind at n xs rest h e = sym (drop-drop n at book) ∙ ap (drop n) e ∙ drop_at xs rest n h

  walk_turn : (most at : ℕ) (rules : List Rule) (rec : Record) → record_at book at ≡ Ok rec → walk (suc most) book at rules ≡ turn book at rules (Ok rec) (λ rules'. walk most book (at + bytes_of (Ok rec)) rules')
  unfolding walk
  walk_turn most at rules rec e = rw e

  module _ (pre : List Rule) (n : ℕ) (w : List ℕ) where
    -- ---- one test more

    walk_test : (most at : ℕ) (cs : List (List Test)) (ts : List Test) (t : Test) → record_at book at ≡ Ok (r.Test t) → test_fits t (length cs) ≡ true → length ts < 8
        → walk (suc most) book at (pre ++ rule_of n w (cs ++ ts ∷ []) ∷ []) ≡ walk most book (at + test_size t) (pre ++ rule_of n w (cs ++ (ts ++ t ∷ []) ∷ []) ∷ [])
    unfolding turn judged grown bytes_of size_of standing with_test
    walk_test most at cs ts t e fit room =
        let rule = rule_of n w (cs ++ ts ∷ []) in
        let last : last_or no_rule (pre ++ rule ∷ []) ≡ rule = last_or_snoc no_rule pre rule in
        let many : length (last_or no_rule (pre ++ rule ∷ [])).conditions ≡ length cs + 1 = ap (λ (q : Rule). length q.conditions) last ∙ length-append cs (ts ∷ []) in
        let tests : length (last_or [] (last_or no_rule (pre ++ rule ∷ [])).conditions) ≡ length ts = ap (λ (q : Rule). length (last_or [] q.conditions)) last ∙ ap length (last_or_snoc [] cs ts) in
        let own : length (last_or no_rule (pre ++ rule ∷ [])).conditions - 1 ≡ length cs = omega arith in
        let j : test_judged (standing (pre ++ rule ∷ [])) t ≡ taken = test_judged_lem (standing (pre ++ rule ∷ [])) t (omega arith) (omega arith) (rw own fit) in
        let put : List Test → List Test = λ tests. tests ++ t ∷ [] in
        walk_turn most at (pre ++ rule ∷ []) (r.Test t) e
        ∙ unless_taken _ at _ j
        ∙ ap (walk most book (at + test_size t)) (on_last_snoc (with_test t) pre rule ∙ ap (λ (c : List (List Test)). pre ++ rule_of n w c ∷ []) (on_last_snoc put cs ts))

    walk-tests : (tests : List Test) (m at : ℕ) (cs : List (List Test)) (ts : List Test) (rest : List ℕ) → drop at book ≡ tests_bytes tests ++ rest → All Held tests
        → All (λ t. test_fits t (length cs) ≡ true) tests → length ts + length tests ≤ 8
        → walk (length (test_records tests) + m) book at (pre ++ rule_of n w (cs ++ ts ∷ []) ∷ []) ≡ walk m book (at + tests_size tests) (pre ++ rule_of n w (cs ++ (ts ++ tests) ∷ []) ∷ [])
    unfolding test_records tests_bytes tests_size
    walk-tests [] m at cs ts rest e h f room = rw (zero-add m, add-zero at, append-nil ts)
    walk-tests (t ∷ tests) m at cs ts rest e h f room =
        let count : length (r.Test t ∷ test_records tests) + m ≡ suc (length (test_records tests) + m) = omega arith in
        let first : drop at book ≡ test_bytes t ++ (tests_bytes tests ++ rest) = e ∙ append_assoc (test_bytes t) (tests_bytes tests) rest in
        let next : drop (at + test_size t) book ≡ tests_bytes tests ++ rest = behind at (test_size t) (test_bytes t) (tests_bytes tests ++ rest) (length-test_bytes t) first in
        let place : at + test_size t + tests_size tests ≡ at + (test_size t + tests_size tests) = omega arith in
        ap (λ (k : ℕ). walk k book at (pre ++ rule_of n w (cs ++ ts ∷ []) ∷ [])) count
        ∙ walk_test (length (test_records tests) + m) at cs ts t (test_read book at t (tests_bytes tests ++ rest) h.0 first) f.0 (omega arith)
        ∙ walk-tests tests m (at + test_size t) cs (ts ++ t ∷ []) rest next h.1 f.1 (omega (arith, length-append ts (t ∷ [])))
        ∙ rw (place, append_assoc ts (t ∷ []) tests)

    -- ---- one condition more, with its tests

    walk_condition : (most at : ℕ) (cs : List (List Test)) → record_at book at ≡ Ok r.Condition → length cs < 6
        → walk (suc most) book at (pre ++ rule_of n w cs ∷ []) ≡ walk most book (at + 1) (pre ++ rule_of n w (cs ++ [] ∷ []) ∷ [])
    unfolding turn judged grown bytes_of size_of standing with_condition
    walk_condition most at cs e room =
        let rule = rule_of n w cs in
        let last : last_or no_rule (pre ++ rule ∷ []) ≡ rule = last_or_snoc no_rule pre rule in
        let many : length (last_or no_rule (pre ++ rule ∷ [])).conditions ≡ length cs = ap (λ (q : Rule). length q.conditions) last in
        let j : condition_judged (standing (pre ++ rule ∷ [])) ≡ taken = condition_judged_lem (standing (pre ++ rule ∷ [])) (omega (arith, length-append pre (rule ∷ []))) (omega arith) in
        walk_turn most at (pre ++ rule ∷ []) r.Condition e ∙ unless_taken _ at _ j ∙ ap (walk most book (at + 1)) (on_last_snoc with_condition pre rule)

    walk-conditions : (conditions : List (List Test)) (m at : ℕ) (cs : List (List Test)) (rest : List ℕ) → drop at book ≡ conditions_bytes conditions ++ rest → All (All Held) conditions
        → Laid (λ tests. 1) ConditionKept (length cs) conditions → length cs + length conditions ≤ 6
        → walk (length (condition_records conditions) + m) book at (pre ++ rule_of n w cs ∷ []) ≡ walk m book (at + conditions_size conditions) (pre ++ rule_of n w (cs ++ conditions) ∷ [])
    unfolding condition_records conditions_bytes condition_bytes conditions_size by_kind
    walk-conditions [] m at cs rest e h k room = rw (zero-add m, add-zero at, append-nil cs)
    walk-conditions (tests ∷ conditions) m at cs rest e h k room =
        let more = condition_records conditions in
        let own = test_records tests in
        let count : length (r.Condition ∷ (own ++ more)) + m ≡ suc (length own + (length more + m)) = omega (arith, length-append own more) in
        let begins : drop at book ≡ 2 ∷ (tests_bytes tests ++ (conditions_bytes conditions ++ rest)) = e ∙ ap (λ (l : List ℕ). 2 ∷ l) (append_assoc (tests_bytes tests) (conditions_bytes conditions) rest) in
        let inside : drop (at + 1) book ≡ tests_bytes tests ++ (conditions_bytes conditions ++ rest) = behind at 1 (2 ∷ []) _ refl begins in
        let next : drop (at + 1 + tests_size tests) book ≡ conditions_bytes conditions ++ rest = behind (at + 1) (tests_size tests) (tests_bytes tests) _ (length-tests_bytes tests) inside in
        let one : length (cs ++ tests ∷ []) ≡ length cs + 1 = length-append cs (tests ∷ []) in
        let place : at + 1 + tests_size tests + conditions_size conditions ≡ at + (1 + tests_size tests + conditions_size conditions) = omega arith in
        ap (λ (j : ℕ). walk j book at (pre ++ rule_of n w cs ∷ [])) count
        ∙ walk_condition (length own + (length more + m)) at cs (record_at-drop book at 2 _ begins) (omega arith)
        ∙ walk-tests tests (length more + m) (at + 1) cs [] (conditions_bytes conditions ++ rest) inside h.0 k.0.fit (omega (arith, k.0.most))
        ∙ walk-conditions conditions m (at + 1 + tests_size tests) (cs ++ tests ∷ []) rest next h.1 (rw one k.1) (omega arith)
        ∙ rw (place, append_assoc cs (tests ∷ []) conditions)

  -- ---- one rule more, with its conditions

  walk-rule : (most at : ℕ) (rules : List Rule) (number : ℕ) (wording rest : List ℕ) → drop at book ≡ (1 ∷ (bytes 2 number ++ wording)) ++ rest → number < 65536 → length wording ≡ 24
      → unfinished (standing rules) ≡ false → length rules < 32 → (last_or no_rule rules).number < number → printable wording ≡ true
      → walk (suc most) book at rules ≡ walk most book (at + 27) (rules ++ rule_of number wording [] ∷ [])
  unfolding turn judged grown bytes_of size_of standing
  walk-rule most at rules number wording rest e h long done room above printed =
      let body : List ℕ = (bytes 2 number ++ wording) ++ rest in
      let read : record_at book at ≡ Ok (r.Rule number) = record_at-drop book at 1 body e ∙ rule_body_lem number wording rest at h long in
      let behind-kind : drop (at + 1) book ≡ body = behind at 1 (1 ∷ []) body refl e in
      let words : wording_of (drop (at + 1) book) ≡ wording = ap wording_of behind-kind ∙ rule_words number wording rest long in
      let j : rule_judged (standing rules) number (drop (at + 1) book) ≡ taken = rule-judged (standing rules) number (drop (at + 1) book) done room above (rw words printed) in
      walk_turn most at rules (r.Rule number) read ∙ unless_taken _ at _ j ∙ rw words

  walk-rules : (rules : List Rule) (m at : ℕ) (pre : List Rule) (rest : List ℕ) → drop at book ≡ rules_bytes rules ++ rest → All RuleHeld rules → All RuleKept rules
      → All (λ rule. 0 < length rule.conditions) rules → Ascending (last_or no_rule pre).number rules → unfinished (standing pre) ≡ false → length pre + length rules ≤ 32
      → (walk (length (records_of rules) + m) book at pre ≡ walk m book (at + rules_size rules) (pre ++ rules)) × (unfinished (standing (pre ++ rules)) ≡ false)
  unfolding records_of rules_bytes rule_bytes rules_size
  walk-rules [] m at pre rest e h k some up done room = (rw (zero-add m, add-zero at, append-nil pre), rw (append-nil pre) done)
  walk-rules (rule ∷ rules) m at pre rest e h k some up done room =
      let head : List ℕ = 1 ∷ (bytes 2 rule.number ++ rule.wording) in
      let own = condition_records rule.conditions in
      let more = records_of rules in
      let tail : List ℕ = conditions_bytes rule.conditions ++ (rules_bytes rules ++ rest) in
      let count : length (r.Rule rule.number ∷ (own ++ more)) + m ≡ suc (length own + (length more + m)) = omega (arith, length-append own more) in
      let begins : drop at book ≡ head ++ tail =
      e ∙ append_assoc (head ++ conditions_bytes rule.conditions) (rules_bytes rules) rest ∙ append_assoc head (conditions_bytes rule.conditions) (rules_bytes rules ++ rest) in
      let inside : drop (at + 27) book ≡ tail = behind at 27 head tail (omega (arith, length-append (bytes 2 rule.number) rule.wording, length-bytes 2 rule.number, k.0.whole)) begins in
      let next : drop (at + 27 + conditions_size rule.conditions) book ≡ rules_bytes rules ++ rest =
      behind (at + 27) (conditions_size rule.conditions) (conditions_bytes rule.conditions) _ (length-conditions_bytes rule.conditions) inside in
      let place : at + 27 + conditions_size rule.conditions + rules_size rules ≡ at + (27 + conditions_size rule.conditions + rules_size rules) = omega arith in
      let last : last_or no_rule (pre ++ rule ∷ []) ≡ rule = last_or_snoc no_rule pre rule in
      let rises : Ascending (last_or no_rule (pre ++ rule ∷ [])).number rules = rw last up.1 in
      let others = walk-rules rules m (at + 27 + conditions_size rule.conditions) (pre ++ rule ∷ []) rest next h.1 k.1 some.1 rises (finished pre rule some.0) (omega (arith, length-append pre (rule ∷ []))) in
      let all : (pre ++ rule ∷ []) ++ rules ≡ pre ++ (rule ∷ rules) = append_assoc pre (rule ∷ []) rules in (
        ap (λ (j : ℕ). walk j book at pre) count
            ∙ walk-rule (length own + (length more + m)) at pre rule.number rule.wording tail begins h.0.0 k.0.whole done (omega arith) up.0 k.0.printed
            ∙ walk-conditions pre rule.number rule.wording rule.conditions (length more + m) (at + 27) [] (rules_bytes rules ++ rest) inside h.0.1 k.0.conditions (omega (arith, k.0.most))
            ∙ others.0
            ∙ rw (place, all),
        rw all at others.1,
      )

-- "What it writes must read back as the same rules"
pub read-written : (rules : List Rule) → Kept rules → All RuleHeld rules → length (book_bytes rules) ≤ 8192 → read_book (book_bytes rules) ≡ accepted rules
unfolding read_book book_bytes turn judged by_kind ended last_or no_rule unfinished standing
read-written rules k h room =
    let book : List ℕ = rules_bytes rules ++ 9 ∷ [] in
    let size = rules_size rules in
    let long : length book ≡ size + 1 = length-append (rules_bytes rules) (9 ∷ []) ∙ omega (arith, length-rules_bytes rules k.each) in
    let few = rules_few rules in
    let most = length book - length (records_of rules) in
    let fuel : length book + 1 ≡ length (records_of rules) + suc most = omega arith in
    let walked = walk-rules book rules (suc most) 0 [] (9 ∷ []) refl h k.each k.some k.ascending refl (omega (arith, k.most)) in
    let at : drop size book ≡ 9 ∷ [] = ap (λ (p : ℕ). drop p book) (sym (zero-add size)) ∙ behind book 0 size (rules_bytes rules) (9 ∷ []) (length-rules_bytes rules k.each) refl in
    let end : record_at book size ≡ Ok r.End = record_at-drop book size 9 [] at in
    let over : eqb (size + 1) (length book) ≡ true = eq-eqb (size + 1) (length book) (sym long) in
    let limit : ltb 8192 (length book) ≡ false = le-ltb 8192 (length book) room in
    rw (limit, fuel) (walked.0 ∙ ap (λ (p : ℕ). walk (suc most) book p rules) (zero-add size) ∙ walk_turn book most size rules r.End end ∙ unless_taken _ size _ (end-judged (standing rules) walked.1) ∙ rw over)
