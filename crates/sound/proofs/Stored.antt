-- Stored tokens are known by what is read from them, where each ends in a slot that is told by its reading. Assumes nothing.
use Prim.Native.Nat.{ℕ}
use mathlib.Core.Path.{◌≡◌, refl, sym, ap, ap₂, ◌∙◌}
use mathlib.Core.List.{List, [], ◌∷◌, ◌++◌, map, nil≢cons, cons-eq-cons, append_cancel_left, map-map, map-id}
use mathlib.Core.List.{Memᴰ}
use lib.ListN.{length, take}
use Rattle.reading.specs.declared.Reading.{Reading}
use Rattle.room.specs.Held.{Stored, Token, tokens_from}
use Rattle.weave.specs.Built.{token, nodes}
use Rattle.sound.proofs.Slots.{Distinct}

-- all the tokens end in slots of os
abbrev pub Used : List ℕ → List Stored → Type 0
Used os ts = (t : Stored) → Memᴰ t ts → Memᴰ t.last os

module _ (level : ℕ → ℕ) (read : ℕ → Reading) where
  pub length-tokens_from : (u : List Reading) (ts : List Stored) → length (tokens_from level read u ts) ≡ length ts
  unfolding tokens_from
  length-tokens_from u [] = refl
  length-tokens_from u (t ∷ ts) = rw (length-tokens_from (take (level t.node) u ++ read t.last ∷ []) ts)

  pub nodes-tokens_from : (u : List Reading) (ts : List Stored) → map (λ p. p.0) (tokens_from level read u ts) ≡ nodes ts
  unfolding tokens_from
  nodes-tokens_from u [] = refl
  nodes-tokens_from u (t ∷ ts) = rw (nodes-tokens_from (take (level t.node) u ++ read t.last ∷ []) ts)

  module _ (os : List ℕ) (told : Distinct read os) where
    pub tokens_injective : (u : List Reading) (ts ts' : List Stored) → Used os ts → Used os ts'
        → tokens_from level read u ts ≡ tokens_from level read u ts' → ts ≡ ts'
    unfolding tokens_from
    tokens_injective u [] [] h h' e = refl
    tokens_injective u [] (t' ∷ ts') h h' e = absurd (nil≢cons e)
    tokens_injective u (t ∷ ts) [] h h' e = absurd (nil≢cons (sym e))
    tokens_injective u (t ∷ ts) (t' ∷ ts') h h' e =
        let v : List Reading = take (level t.node) u ++ read t.last ∷ [] in
        let v' : List Reading = take (level t'.node) u ++ read t'.last ∷ [] in
        let parts = cons-eq-cons.0 e in
        let node : t.node ≡ t'.node = ap (λ (p : ℕ × List Reading). p.0) parts.0 in
        let tuple : v ≡ v' = ap (λ (p : ℕ × List Reading). p.1) parts.0 in
        let tuple' : v ≡ take (level t.node) u ++ read t'.last ∷ [] = tuple ∙ ap (λ (n : ℕ). take (level n) u ++ read t'.last ∷ []) (sym node) in
        let reading : read t.last ≡ read t'.last = (cons-eq-cons.0 (append_cancel_left (take (level t.node) u) (read t.last ∷ []) (read t'.last ∷ []) tuple')).0 in
        let last : t.last ≡ t'.last = told t.last t'.last (h t (Memᴰ.head refl)) (h' t' (Memᴰ.head refl)) reading in
        let rest : tokens_from level read v ts ≡ tokens_from level read v ts' = rw (← tuple) at parts.1 in
        ap₂ (λ (x : Stored) (l : List Stored). x ∷ l) (ap₂ token node last)
        (tokens_injective v ts ts' (λ x m. h x (Memᴰ.tail m)) (λ x m. h' x (Memᴰ.tail m)) rest)

-- a node and the readings there, as a token held
abbrev pub as_token : ℕ × List Reading → Token
as_token p = record { node = p.0; readings = p.1 }

pub as_token_injective : (l m : List (ℕ × List Reading)) → map as_token l ≡ map as_token m → l ≡ m
as_token_injective l m e = sym (back l) ∙ ap (map apart) e ∙ back m
  where
    apart : Token → ℕ × List Reading
    apart t = (t.node, t.readings)

    back : (l : List (ℕ × List Reading)) → map apart (map as_token l) ≡ l
    back l = map-map apart as_token l ∙ map-id l
