-- The tokens that slots build are those of the readings at the slots, where a slot passes as its reading does: as many, and as many of them complete.
-- Assumes nothing.
use Prim.Native.Nat.{ℕ, zero, suc, ◌+◌, ◌-◌, ◌≤◌, ◌<◌}
use mathlib.Core.Path.{◌≡◌, refl, sym, ap, ap₂, ◌∙◌}
use mathlib.Core.Bool.{Bool}
use mathlib.Core.Logic.{⊎_elim}
use mathlib.Core.List.{List, [], ◌∷◌, ◌++◌, map, map-map, map-append, append-nil}
use mathlib.Core.List.Memᴰ
use mathlib.Core.List.{Memᴰ}
use native.Mathlib.Omega.{arith}
use borrow.Author.Tests.{eqb-true, eq-eqb}
use lib.Dec.{eqb}
use lib.ListN.{length, length-append, length-map}
use Rattle.book.specs.Rules.{Rule}
use Rattle.book.specs.Limits.{All}
use Rattle.reading.specs.declared.Reading.{Reading}
use Rattle.matching.specs.Lists.{concat_map, keep}
use Rattle.matching.specs.Match.{token_count}
use Rattle.matching.specs.Preorder.{of_length}
use Rattle.matching.specs.Complaints.{levels, pass_of, rule_tokens, rule_complaints, book_count, complaints, matched_by}
use Rattle.matching.proofs.Laws.Lists.{keep-map, keep_ext}
use Rattle.matching.proofs.Laws.Members.{mem_when, mem_concat_map, mem_forest}
use Rattle.matching.proofs.Laws.Tokens.{length-rule_tokens, rule_tokens-complaints}
use Rattle.room.specs.Held.{Stored, tokens_from}
use Rattle.room.proofs.BrokenLaws.{agreed}
use Rattle.weave.specs.Built.{built, stem, branch, nodes}
use Rattle.weave.specs.Blocks.{times_of}
use Rattle.rete.specs.Rules.{rules_built, ends_built, completes_built, complete_built}
use Rattle.rete.proofs.Decode.{decoded, Reads, reads-built, at_node, decoded_forest}
use Rattle.checking.proofs.Extent.{built_ext}
use Rattle.sound.specs.Sound.{rule_held, tokens_held, ends_of, completes_of}
use Rattle.sound.proofs.Levels.{Levelled, levelled_here, levelled_past}
use Rattle.sound.proofs.Stored.{Used, as_token, length-tokens_from, nodes-tokens_from}

-- every rule has a condition
abbrev pub Some : List Rule → Type 0
Some rules = All (λ rule. 0 < length rule.conditions) rules

module _ (os : List ℕ) (read : ℕ → Reading) (pass : ℕ → List Reading → ℕ → Bool) where
  -- a slot passes the conditions of a rule as its reading does, the first condition being node c
  abbrev pub AgreesOn : ℕ → Rule → Type 0
  AgreesOn c rule = (j : ℕ) (t : List Reading) (s : ℕ) → j < levels rule → length t ≡ j → Memᴰ s os → pass (c + j) t s ≡ pass_of rule j t (read s)

  -- and those of all rules
  abbrev pub Agrees : ℕ → List Rule → Type 0
  Agrees c [] = Unit {0}
  Agrees c (rule ∷ rules) = AgreesOn c rule × Agrees (c + levels rule) rules

  -- ---- the tokens of one rule

  module _ (c : ℕ) (rule : Rule) (agree : AgreesOn c rule) where
    -- as its reading passes the rule
    abbrev pass_read : ℕ → List Reading → ℕ → Bool
    pass_read n t s = pass_of rule (n - c) t (read s)

    pass_read_is : (j : ℕ) (t : List Reading) (s : ℕ) → pass_read (c + j) t s ≡ pass_of rule j t (read s)
    pass_read_is j t s = ap (λ (n : ℕ). pass_of rule n t (read s)) (let e : c + j - c ≡ j = omega arith in e)

    built-read : built os read pass (levels rule) c [] ≡ built os read pass_read (levels rule) c []
    built-read =
        let e : c + 0 ≡ c = omega arith in
        rw e at (built_ext os read read pass pass_read (λ s m. refl) c (levels rule) 0 [] refl (λ j t s b l m. agree j t s (omega arith) l m ∙ sym (pass_read_is j t s)))

    decoded_read : decoded os read pass_read (levels rule) c [] ≡ map (at_node c) (rule_tokens rule (map read os))
    unfolding rule_tokens
    decoded_read =
        let e : c + 0 ≡ c = omega arith in
        rw e at (decoded_forest c os read pass_read (pass_of rule) (λ j t s l m. pass_read_is j t s) (levels rule) 0 [] refl)

    pub built-reads : (of : ℕ → ℕ) → ((j : ℕ) → j < levels rule → of (c + j) ≡ 0 + j)
        → Reads of read [] (built os read pass (levels rule) c []) (map (at_node c) (rule_tokens rule (map read os)))
    built-reads of v = rw (built-read, ← decoded_read) (reads-built of read os pass_read (levels rule) c [] v)

    built-tokens : tokens_from (λ n. n - c) read [] (built os read pass (levels rule) c []) ≡ map (at_node c) (rule_tokens rule (map read os))
    unfolding tokens_from
    built-tokens =
        let r = built-reads (λ n. n - c) (λ j b. omega arith) [] refl in
        ap (tokens_from (λ n. n - c) read []) (sym (append-nil (built os read pass (levels rule) c []))) ∙ r.reads [] ∙ append-nil (map (at_node c) (rule_tokens rule (map read os)))

    pub length-built : length (built os read pass (levels rule) c []) ≡ token_count (map read os) (pass_of rule) (levels rule)
    length-built =
        sym (length-tokens_from (λ n. n - c) read [] (built os read pass (levels rule) c [])) ∙ ap length built-tokens
        ∙ length-map (rule_tokens rule (map read os)) (at_node c) ∙ length-rule_tokens rule (map read os)

    -- a token at the rule's last node is a complete match
    pub full-built : 1 ≤ levels rule → keep (λ t. eqb t.0 (c + levels rule - 1)) (tokens_from (λ n. n - c) read [] (built os read pass (levels rule) c []))
        ≡ map (at_node c) (rule_complaints rule (map read os))
    unfolding of_length rule_tokens
    full-built some =
        let R : List Reading = map read os in
        let last : ℕ = c + levels rule - 1 in
        ap (keep (λ t. eqb t.0 last)) built-tokens ∙ keep-map (λ t. eqb t.0 last) (at_node c) (rule_tokens rule R)
        ∙ ap (map (at_node c)) (keep_ext (λ u. eqb (c + (length u - 1)) last) (λ u. eqb (length u) (levels rule)) (rule_tokens rule R) each ∙ rule_tokens-complaints rule R some)
      where
        each : (u : List Reading) → Memᴰ u (rule_tokens rule (map read os)) → eqb (c + (length u - 1)) (c + levels rule - 1) ≡ eqb (length u) (levels rule)
        each u m =
            let b = mem_forest (map read os) (pass_of rule) (levels rule) 0 [] u m in
            let l : length u ≡ suc (length b.1) = ap length b.2 in
            agreed (eqb (c + (length u - 1)) (c + levels rule - 1)) (eqb (length u) (levels rule)) (
              λ t. eq-eqb (length u) (levels rule) (omega (arith, eqb-true (c + (length u - 1)) (c + levels rule - 1) t)),
              λ t. eq-eqb (c + (length u - 1)) (c + levels rule - 1) (omega (arith, eqb-true (length u) (levels rule) t)),
            )

    -- so they are as many
    pub complete_built_lem : 1 ≤ levels rule → times_of (c + levels rule - 1) (nodes (built os read pass (levels rule) c [])) ≡ length (rule_complaints rule (map read os))
    complete_built_lem some =
        let last : ℕ = c + levels rule - 1 in
        let tokens : List (ℕ × List Reading) = tokens_from (λ n. n - c) read [] (built os read pass (levels rule) c []) in
        ap (times_of last) (sym (nodes-tokens_from (λ n. n - c) read [] (built os read pass (levels rule) c [])))
        ∙ ap length (keep-map (λ x. eqb x last) (λ t. t.0) tokens) ∙ length-map (keep (λ t. eqb t.0 last) tokens) (λ t. t.0)
        ∙ ap length (full-built some) ∙ length-map (rule_complaints rule (map read os)) (at_node c)

  -- ---- the tokens of all rules

  pub rules_built-tokens : (of : ℕ → ℕ) (c : ℕ) (rules : List Rule) (u : List Reading) → Levelled of c (map levels rules) → Agrees c rules
      → map as_token (tokens_from of read u (rules_built os read pass c (map levels rules))) ≡ tokens_held c rules (map read os)
  unfolding rules_built tokens_held rule_held tokens_from
  rules_built-tokens of c [] u v a = refl
  rules_built-tokens of c (rule ∷ rules) u v a =
      let rest : List Stored = rules_built os read pass (c + levels rule) (map levels rules) in
      let tuples : List (List Reading) = rule_tokens rule (map read os) in
      let r = built-reads c rule a.0 of (levelled_here of c (levels rule) (map levels rules) v) u refl in
      ap (map as_token) (r.reads rest) ∙ map-append as_token (map (at_node c) tuples) (tokens_from of read r.last rest)
      ∙ ap₂ ◌++◌ (map-map as_token (at_node c) tuples)
      (rules_built-tokens of (c + levels rule) rules r.last (levelled_past of c (levels rule) (map levels rules) v) a.1)

  pub length-rules_built : (c : ℕ) (rules : List Rule) → Agrees c rules → length (rules_built os read pass c (map levels rules)) ≡ book_count rules (map read os)
  unfolding rules_built book_count
  length-rules_built c [] a = refl
  length-rules_built c (rule ∷ rules) a =
      length-append (built os read pass (levels rule) c []) (rules_built os read pass (c + levels rule) (map levels rules))
      ∙ ap₂ ◌+◌ (length-built c rule a.0) (length-rules_built (c + levels rule) rules a.1)

  pub ends_built_of : (o c : ℕ) (rules : List Rule) → Agrees c rules → ends_built os read pass o c (map levels rules) ≡ ends_of o rules (map read os)
  unfolding ends_built ends_of
  ends_built_of o c [] a = refl
  ends_built_of o c (rule ∷ rules) a =
      rw (length-built c rule a.0, ends_built_of (o + token_count (map read os) (pass_of rule) (levels rule)) (c + levels rule) rules a.1)

  pub completes_built_of : (m c : ℕ) (rules : List Rule) → Some rules → Agrees c rules → completes_built os read pass m c (map levels rules) ≡ completes_of m rules (map read os)
  unfolding completes_built completes_of
  completes_built_of m c [] k a = refl
  completes_built_of m c (rule ∷ rules) k a =
      let here : times_of (c + levels rule - 1) (nodes (built os read pass (levels rule) c [])) ≡ length (rule_complaints rule (map read os)) = complete_built_lem c rule a.0 k.0 in
      rw (here, completes_built_of (m + length (rule_complaints rule (map read os))) (c + levels rule) rules k.1 a.1)

  pub complete_built_of : (c : ℕ) (rules : List Rule) → Some rules → Agrees c rules → complete_built os read pass c (map levels rules) ≡ length (complaints rules (map read os))
  unfolding complete_built complaints concat_map
  complete_built_of c [] k a = refl
  complete_built_of c (rule ∷ rules) k a =
      ap₂ ◌+◌ (complete_built_lem c rule a.0 k.0 ∙ sym (length-map (rule_complaints rule (map read os)) (matched_by rule))) (complete_built_of (c + levels rule) rules k.1 a.1)
      ∙ sym (length-append (map (matched_by rule) (rule_complaints rule (map read os))) (complaints rules (map read os)))

  -- ---- all end in the slots that were offered

  built-used : (left c : ℕ) (t : List Reading) → Used os (built os read pass left c t)
  unfolding built
  built-used zero c t x m = absurd (Memᴰ.not-nil m)
  built-used (suc left) c t x m =
      let i = (mem_concat_map (branch os read pass left c t) {b = x} os).0 m in
      let j = (mem_when {a = x} (pass c t i.0) (stem os read pass left c t i.0)).0 i.2 in
      ⊎_elim (λ e. Memᴰ.cast (ap (λ (y : Stored). y.last) e) i.1) (built-used left (c + 1) (t ++ read i.0 ∷ []) x) (Memᴰ.cases_cons j.1)

  pub rules_built-used : (c : ℕ) (ks : List ℕ) → Used os (rules_built os read pass c ks)
  unfolding rules_built
  rules_built-used c [] x m = absurd (Memᴰ.not-nil m)
  rules_built-used c (k ∷ ks) x m = ⊎_elim (built-used k c [] x) (rules_built-used (c + k) ks x) (Memᴰ.append_cases (built os read pass k c []) m)
