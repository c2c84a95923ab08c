-- A room whose parts were written one after the other: each write changes one part and leaves the others, so that what stands in the end is a list of parts.
-- Assumes nothing.
use Prim.Native.Nat.{ℕ, zero, suc, ◌+◌, ◌*◌, ◌≤◌, ◌<◌}
use mathlib.Core.Path.{◌≡◌, refl, sym, ap, ◌∙◌}
use mathlib.Core.List.{List, [], ◌∷◌, ◌++◌, append-nil}
use native.Mathlib.Omega.{arith}
use lib.ListN.{length, take, get_or, set, replicate, length-append}
use lib.Seq.{drop_at, length-take-le, take_all, take-length}
use Rattle.numbers.specs.BigEndian.{uint, bytes}
use Rattle.numbers.specs.Spliced.{spliced}
use Rattle.numbers.proofs.BigEndian.{length-bytes, uint-bytes, uint-drop, uint-spliced-before, uint-spliced_in, uint-spliced-after}
use Rattle.reading.specs.declared.Reading.{Reading}
use Rattle.reading.specs.Reading.{reading_bytes}
use Rattle.room.specs.Parts.{part, put, cut, below, twos_bytes}
use Rattle.room.specs.Layout.{widths, head, limit, parts}
use Rattle.room.specs.Written.{opened, Opening, Aside, stepped, counted, slots_with, rows_with, Stepping}
use Rattle.room.proofs.Cut.{cut-written, cut-spliced, cut-spliced-whole}
use Rattle.room.proofs.Put.{length_part}
use Rattle.room.proofs.Twos.{uint-twos_bytes}

-- a part of a list of parts, changed
abbrev over : ℕ → (List ℕ → List ℕ) → List (List ℕ) → List (List ℕ)
over k f ps = set ps k (f (get_or ps k []))

-- ---- a room opened: eight writes

module _ (E T rules conditions : ℕ) (book rule_places rule_conditions condition_places l0 l1 l2 l3 l4 l5 l6 l7 l8 : List ℕ)
    (asked : Opening l0 book T rule_places rule_conditions condition_places)
    (e1 : l1 ≡ put l0 0 16 (twos_bytes (E ∷ T ∷ 0 ∷ 0 ∷ length book ∷ rules ∷ conditions ∷ 0 ∷ []))) (k1 : length l1 ≡ length l0)
    (e2 : l2 ≡ spliced l1 16 (take (length book) book)) (k2 : length l2 ≡ length l1)
    (e3 : l3 ≡ put l2 8208 384 (twos_bytes condition_places)) (k3 : length l3 ≡ length l2)
    (e4 : l4 ≡ put l3 8592 64 (twos_bytes rule_places)) (k4 : length l4 ≡ length l3)
    (e5 : l5 ≡ spliced l4 8656 (take 32 rule_conditions)) (k5 : length l5 ≡ length l4)
    (e6 : l6 ≡ put l5 8688 64 (replicate (length (part l5 8688 64)) 0)) (k6 : length l6 ≡ length l5)
    (e7 : l7 ≡ put l6 8752 64 (replicate (length (part l6 8752 64)) 0)) (k7 : length l7 ≡ length l6)
    (e8 : l8 ≡ put l7 8816 256 (below 256)) (k8 : length l8 ≡ length l7) where
  -- a part of 64 zeros
  cleared : (l l' : List ℕ) (a : ℕ) → l' ≡ put l a 64 (replicate (length (part l a 64)) 0) → a + 64 ≤ length l → l' ≡ put l a 64 (replicate 64 0)
  cleared l l' a e h = e ∙ ap (λ (k : ℕ). put l a 64 (replicate k 0)) (length_part l a 64 h)

  pub opened-written : cut 0 (widths T) l8 ≡ opened E T book rules conditions rule_places rule_conditions condition_places (cut 0 (widths T) l0)
  unfolding opened
  opened-written =
      let ws : List ℕ = widths T in
      cut-written ws l7 l8 (below 256) 8816 256 7 e8 k8 (omega arith) (omega arith) refl refl
      ∙ ap (over 7 (λ p. below 256))
      (cut-written ws l6 l7 (replicate 64 0) 8752 64 6 (cleared l6 l7 8752 e7 (omega arith)) k7 (omega arith) (omega arith) refl refl
      ∙ ap (over 6 (λ p. replicate 64 0))
      (cut-written ws l5 l6 (replicate 64 0) 8688 64 5 (cleared l5 l6 8688 e6 (omega arith)) k6 (omega arith) (omega arith) refl refl
      ∙ ap (over 5 (λ p. replicate 64 0))
      (cut-spliced-whole ws l4 l5 rule_conditions 8656 32 4 (e5 ∙ ap (spliced l4 8656) (take_all 32 rule_conditions (omega arith))) asked.counts (omega arith) (omega arith) refl refl
      ∙ ap (over 4 (λ p. rule_conditions))
      (cut-written ws l3 l4 (twos_bytes rule_places) 8592 64 3 e4 k4 (omega arith) (omega arith) refl refl
      ∙ ap (over 3 (λ p. twos_bytes rule_places))
      (cut-written ws l2 l3 (twos_bytes condition_places) 8208 384 2 e3 k3 (omega arith) (omega arith) refl refl
      ∙ ap (over 2 (λ p. twos_bytes condition_places))
      (cut-spliced ws l1 l2 book 16 8192 1 0 (e2 ∙ ap (spliced l1 16) (take-length book)) (omega arith) (omega arith) (omega arith) refl refl
      ∙ ap (over 1 (λ p. spliced p 0 book))
      (cut-written ws l0 l1 _ 0 16 0 e1 k1 (omega arith) (omega arith) refl refl)))))))

-- ---- what a step counts: three writes

module _ (T readings tokens : ℕ) (ends completes l0 l1 l2 l3 : List ℕ) (large : 18288 ≤ length l0)
    (e1 : l1 ≡ put l0 8688 64 (twos_bytes ends)) (k1 : length l1 ≡ length l0)
    (e2 : l2 ≡ put l1 8752 64 (twos_bytes completes)) (k2 : length l2 ≡ length l1)
    (e3 : l3 ≡ put l2 0 16 (spliced (part l2 0 16) 4 (bytes 2 readings ++ bytes 2 tokens))) (k3 : length l3 ≡ length l2) where
  pub counted-written : cut 0 (widths T) l3 ≡ counted readings tokens ends completes (cut 0 (widths T) l0)
  unfolding counted
  counted-written =
      let ws : List ℕ = widths T in
      cut-written ws l2 l3 _ 0 16 0 e3 k3 (omega arith) (omega arith) refl refl
      ∙ ap (over 0 (λ (p : List ℕ). spliced p 4 (bytes 2 readings ++ bytes 2 tokens)))
      (cut-written ws l1 l2 (twos_bytes completes) 8752 64 6 e2 k2 (omega arith) (omega arith) refl refl
      ∙ ap (over 6 (λ p. twos_bytes completes))
      (cut-written ws l0 l1 (twos_bytes ends) 8688 64 5 e1 k1 (omega arith) (omega arith) refl refl))

-- ---- a room after an addition: five writes, and what is counted

module _ (T : ℕ) (s : Aside) (slot : ℕ) (r : Reading) (row l0 l1 l2 l3 l4 l5 l6 : List ℕ) (asked : Stepping l0 T s) (wide : length row ≡ 24)
    (e1 : l1 ≡ spliced l0 18288 (take s.tokens s.nodes)) (k1 : length l1 ≡ length l0)
    (e2 : l2 ≡ spliced l1 (18288 + T) (take s.tokens s.lasts)) (k2 : length l2 ≡ length l1)
    (e3 : l3 ≡ spliced l2 8816 (take 256 s.order)) (k3 : length l3 ≡ length l2)
    (e4 : l4 ≡ put l3 9072 3072 (spliced (part l3 9072 3072) (slot * 12) (reading_bytes r))) (k4 : length l4 ≡ length l3)
    (e5 : l5 ≡ put l4 12144 6144 (spliced (part l4 12144 6144) (slot * 24) (take 24 row))) (k5 : length l5 ≡ length l4)
    (e6 : 18288 + T * 2 ≤ length l5 → cut 0 (widths T) l6 ≡ counted s.readings s.tokens s.ends s.completes (cut 0 (widths T) l5)) where
  pub added-written : cut 0 (widths T) l6 ≡ stepped s (slots_with (cut 0 (widths T) l0) slot r) (rows_with (cut 0 (widths T) l0) slot row) (cut 0 (widths T) l0)
  unfolding counted stepped
  added-written =
      let ws : List ℕ = widths T in
      let order = s.order in
      let nodes = take s.tokens s.nodes in
      let lasts = take s.tokens s.lasts in
      let few : s.tokens ≤ T = asked.few in
      let n : length nodes ≡ s.tokens = length-take-le s.tokens s.nodes asked.nodes in
      let t : length lasts ≡ s.tokens = length-take-le s.tokens s.lasts asked.lasts in
      let middle : 18288 + T ≡ 18288 + T + 0 = omega arith in
      let whole : take 24 row ≡ row = take_all 24 row (omega arith) in
      let r5 : l5 ≡ put l4 12144 6144 (spliced (part l4 12144 6144) (slot * 24) row) =
      e5 ∙ ap (λ (x : List ℕ). put l4 12144 6144 (spliced (part l4 12144 6144) (slot * 24) x)) whole in
      e6 (omega arith)
      ∙ ap (counted s.readings s.tokens s.ends s.completes)
      (cut-written ws l4 l5 _ 12144 6144 9 r5 k5 (omega arith) (omega arith) refl refl
      ∙ ap (over 9 (λ (p : List ℕ). spliced p (slot * 24) row))
      (cut-written ws l3 l4 _ 9072 3072 8 e4 k4 (omega arith) (omega arith) refl refl
      ∙ ap (over 8 (λ (p : List ℕ). spliced p (slot * 12) (reading_bytes r)))
      (cut-spliced-whole ws l2 l3 order 8816 256 7 (e3 ∙ ap (spliced l2 8816) (take_all 256 order (omega arith))) asked.order (omega arith) (omega arith) refl refl
      ∙ ap (over 7 (λ p. order))
      (cut-spliced ws l1 l2 lasts (18288 + T) T 11 0 (e2 ∙ ap (λ (a : ℕ). spliced l1 a lasts) middle) (omega arith) (omega arith) (omega arith) refl (omega arith)
      ∙ ap (over 11 (λ (p : List ℕ). spliced p 0 lasts))
      (cut-spliced ws l0 l1 nodes 18288 T 10 0 e1 (omega arith) (omega arith) (omega arith) refl refl)))))

-- ---- what the header then says

-- each number of a list fits two bytes
abbrev Small : List ℕ → Type 0
Small [] = Unit {0}
Small (x ∷ xs) = (x < 65536) × Small xs

small-get_or : (xs : List ℕ) → Small xs → (i : ℕ) → get_or xs i 0 < 65536
small-get_or [] hs i = omega arith
small-get_or (x ∷ xs) hs zero = hs.0
small-get_or (x ∷ xs) hs (suc i) = small-get_or xs hs.1 i

-- the numbers of a room just opened: number k of those written
pub opened-number : (E T L R C : ℕ) → E < 65536 → T < 65536 → L < 65536 → R < 65536 → C < 65536 → (k : ℕ) → k < 8
    → uint 2 (twos_bytes (E ∷ T ∷ 0 ∷ 0 ∷ L ∷ R ∷ C ∷ 0 ∷ [])) (k * 2) ≡ get_or (E ∷ T ∷ 0 ∷ 0 ∷ L ∷ R ∷ C ∷ 0 ∷ []) k 0
opened-number E T L R C e t l r c k h =
    let xs : List ℕ = E ∷ T ∷ 0 ∷ 0 ∷ L ∷ R ∷ C ∷ 0 ∷ [] in
    let z : 0 < 65536 = omega arith in
    ap (λ (b : List ℕ). uint 2 b (k * 2)) (sym (append-nil (twos_bytes xs))) ∙ uint-twos_bytes xs [] k h (small-get_or xs (e, (t, (z, (z, (l, (r, (c, (z, tt)))))))) k)

-- the numbers after a step: the readings and the tokens counted, the others as before
module _ (h : List ℕ) (n t : ℕ) (long : length h ≡ 16) where
  abbrev anew : List ℕ
  anew = spliced h 4 (bytes 2 n ++ bytes 2 t)

  length-counts : length (bytes 2 n ++ bytes 2 t) ≡ 4
  length-counts = omega (arith, length-append (bytes 2 n) (bytes 2 t), length-bytes 2 n, length-bytes 2 t)

  pub counted-readings : n < 65536 → uint 2 anew 4 ≡ n
  counted-readings small = uint-spliced_in h 4 (bytes 2 n ++ bytes 2 t) (omega arith) 2 0 (omega (arith, length-counts)) ∙ uint-bytes 2 n (bytes 2 t) small

  pub counted-tokens : t < 65536 → uint 2 anew 6 ≡ t
  counted-tokens small =
      uint-spliced_in h 4 (bytes 2 n ++ bytes 2 t) (omega arith) 2 2 (omega (arith, length-counts))
      ∙ sym (uint-drop 2 2 (bytes 2 n ++ bytes 2 t) 0)
      ∙ ap (λ (b : List ℕ). uint 2 b 0) (drop_at (bytes 2 n) (bytes 2 t) 2 (length-bytes 2 n) ∙ sym (append-nil (bytes 2 t)))
      ∙ uint-bytes 2 t [] small

  pub counted-before : (k : ℕ) → k < 2 → uint 2 anew (k * 2) ≡ uint 2 h (k * 2)
  counted-before k l = uint-spliced-before h 4 (bytes 2 n ++ bytes 2 t) (omega arith) 2 (k * 2) (omega arith)

  pub counted-after : (k : ℕ) → 4 ≤ k → uint 2 anew (k * 2) ≡ uint 2 h (k * 2)
  counted-after k l = uint-spliced-after h 4 (bytes 2 n ++ bytes 2 t) (omega arith) 2 (k * 2) (omega (arith, length-counts))

-- a room whose header says the limit by which it was cut
module _ (T : ℕ) (room : List ℕ) (ps : List (List ℕ)) (written : cut 0 (widths T) room ≡ ps) (says : uint 2 (head ps) 2 ≡ T) where
  pub limit-written : limit room ≡ T
  limit-written = ap (λ (qs : List (List ℕ)). uint 2 (head qs) 2) written ∙ says

  pub parts-written : parts room ≡ ps
  parts-written = ap (λ (k : ℕ). cut 0 (widths k) room) limit-written ∙ written
