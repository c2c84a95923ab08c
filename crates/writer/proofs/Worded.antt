-- The wordings of rules, written one behind the other. Assumes nothing.
use Prim.Native.Nat.{ℕ, ◌+◌, ◌*◌, ◌≤◌, ◌<◌}
use mathlib.Core.Path.{◌≡◌, refl, sym, ap, ◌∙◌}
use mathlib.Core.List.{List, [], ◌∷◌, ◌++◌, map, map-append, append_assoc, append-nil}
use native.Mathlib.Numerals.{add-one}
use native.Mathlib.Omega.{arith}
use lib.ListN.{length, take, drop, get_or, length-append, length-drop}
use lib.Seq.{length-take-le, take-suc}
use Rattle.numbers.specs.Spliced.{spliced}
use Rattle.numbers.proofs.Spliced.{spliced_nil, spliced_twice}
use Rattle.writer.specs.Values.{joined, wordings_at}

pub joined-append : (a b : List (List ℕ)) → joined (a ++ b) ≡ joined a ++ joined b
unfolding joined
joined-append [] b = refl
joined-append (l ∷ a) b = ap (λ (m : List ℕ). l ++ m) (joined-append a b) ∙ sym (append_assoc l (joined a) (joined b))

-- the wording of the rule whose record stands at a place
abbrev pub wording_at : List ℕ → ℕ → List ℕ
wording_at book p = take 24 (drop (p + 3) book)

wordings_at-more : (book places : List ℕ) (i : ℕ) → i < length places → wordings_at book (take (i + 1) places) ≡ wordings_at book (take i places) ++ wording_at book (get_or places i 0)
unfolding wordings_at joined
wordings_at-more book places i h =
    let one : take (i + 1) places ≡ take i places ++ get_or places i 0 ∷ [] = rw (add-one i) (take-suc places i 0 h) in
    ap (λ (l : List ℕ). joined (map (wording_at book) l)) one
    ∙ ap joined (map-append (wording_at book) (take i places) (get_or places i 0 ∷ []))
    ∙ joined-append (map (wording_at book) (take i places)) (wording_at book (get_or places i 0) ∷ [])
    ∙ ap (λ (l : List ℕ). joined (map (wording_at book) (take i places)) ++ l) (append-nil (wording_at book (get_or places i 0)))

-- the first i of them are written
pub record Worded (book places out₀ : List ℕ) (i : ℕ) (out : List ℕ) : Type 0 where
  pub size : length (wordings_at book (take i places)) ≡ i * 24
  pub stands : out ≡ spliced out₀ 0 (wordings_at book (take i places))

pub worded_none : (book places out : List ℕ) → Worded book places out 0 out
unfolding wordings_at joined
worded_none book places out = record { size = refl; stands = sym (spliced_nil out 0) }

module _ (book places out₀ : List ℕ) (i : ℕ) (out : List ℕ) (s : Worded book places out₀ i out) where
  pub worded_more : i < length places → get_or places i 0 + 27 ≤ length book → (out' : List ℕ) → out' ≡ spliced out (i * 24) (wording_at book (get_or places i 0)) → Worded book places out₀ (i + 1) out'
  worded_more h within out' e =
      let p = get_or places i 0 in
      let w = wording_at book p in
      let more = wordings_at-more book places i h in
      record {
        size = ap length more ∙ length-append (wordings_at book (take i places)) w ∙ omega (arith, s.size, length-take-le 24 (drop (p + 3) book) (omega (arith, length-drop (p + 3) book)));
        stands =
            e
            ∙ ap (λ (l : List ℕ). spliced l (i * 24) w) s.stands
            ∙ spliced_twice out₀ 0 (wordings_at book (take i places)) (omega arith) (i * 24) w (omega (arith, s.size))
            ∙ ap (spliced out₀ 0) (sym more);
      }
