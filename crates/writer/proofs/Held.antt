-- Values whose numbers fit their fields: the record that stands where their bytes stand is theirs, so equal bytes are equal values.
-- Assumes nothing.
use Prim.Native.Nat.{ℕ, suc, ◌+◌, ◌^◌, ◌≤◌, ◌<◌}
use mathlib.Core.Path.{◌≡◌, refl, sym, ap, ◌∙◌}
use mathlib.Core.List.{List, [], ◌∷◌, ◌++◌, append_assoc}
use native.Mathlib.Omega.{arith}
use lib.ListN.{length, drop, get_or, length-append, length-drop}
use lib.Seq.{drop-drop, get_or-drop, drop-append_seam}
use lib.IntN.{ℤ}
use Rattle.std.specs.Prelude.{Ok}
use Rattle.numbers.specs.BigEndian.{uint, bytes}
use Rattle.numbers.specs.Signed.{signed}
use Rattle.numbers.proofs.BigEndian.{uint-drop, uint-bytes, length-bytes}
use Rattle.book.specs.declared.record.Record.TheVariants as r
use Rattle.book.specs.declared.record.Test.{Test}
use Rattle.book.specs.declared.record.Test.TheVariants.{Constant, Position, Gap}
use Rattle.book.specs.Record.{constant_body, position_body, gap_body, by_kind, record_at}
use Rattle.book.specs.Limits.{All}
use Rattle.book.proofs.RecordLaws.{whole_is, record_at_kind}
use Rattle.writer.specs.Fields.{bits}
use Rattle.writer.specs.Bytes.{test_bytes, tests_bytes, condition_bytes}
use Rattle.writer.specs.Held.{Held}
use Rattle.writer.proofs.Numbers.{signed-bits, bits_below_word}
use Rattle.writer.proofs.Laying.{length-test_bytes, test_some}

-- ---- the record that stands where these bytes stand

pub record_at-drop : (book : List ℕ) (at kind : ℕ) (body : List ℕ) → drop at book ≡ kind ∷ body → record_at book at ≡ by_kind kind body at
record_at-drop book at kind body e =
    let long : length (drop at book) ≡ suc (length body) = ap length e in
    let within : at < length book = omega (arith, length-drop at book) in
    let place : at ≡ at + 0 = omega arith in
    let own : get_or book at 0 ≡ kind = ap (λ (n : ℕ). get_or book n 0) place ∙ sym (get_or-drop at book 0 0) ∙ ap (λ (l : List ℕ). get_or l 0 0) e in
    let rest : drop (at + 1) book ≡ body = sym (drop-drop 1 at book) ∙ ap (drop 1) e in
    sym (record_at_kind book at within kind own) ∙ ap (λ (b : List ℕ). by_kind kind b at) rest

-- a number behind the first bytes of a body
uint-behind : (n x : ℕ) (front rest : List ℕ) → x < 256 ^ n → uint n (front ++ (bytes n x ++ rest)) (length front) ≡ x
uint-behind n x front rest h =
    let place : length front ≡ length front + 0 = omega arith in
    ap (uint n (front ++ (bytes n x ++ rest))) place
    ∙ sym (uint-drop n (length front) (front ++ (bytes n x ++ rest)) 0)
    ∙ ap (λ (l : List ℕ). uint n l 0) (drop-append_seam front (bytes n x ++ rest))
    ∙ uint-bytes n x rest h

pub test_read : (book : List ℕ) (at : ℕ) (t : Test) (rest : List ℕ) → Held t → drop at book ≡ test_bytes t ++ rest → record_at book at ≡ Ok (r.Test t)
unfolding test_bytes by_kind constant_body position_body gap_body
test_read book at (Constant p q n) rest h e =
    let body : List ℕ = p ∷ q ∷ (bytes 4 n ++ rest) in
    let long : 6 ≤ length body = omega (arith, length-append (bytes 4 n) rest, length-bytes 4 n) in
    record_at-drop book at 3 body e ∙ sym (whole_is 6 at body _ long) ∙ ap (λ (x : ℕ). Ok (r.Test (Constant p q x))) (uint-behind 4 n (p ∷ q ∷ []) rest h.2)
test_read book at (Position p q c o) rest h e =
    let body : List ℕ = p ∷ q ∷ c ∷ o ∷ rest in
    record_at-drop book at 4 body e ∙ sym (whole_is 4 at body _ (omega arith))
test_read book at (Gap p c o low high) rest h e =
    let lows = bytes 8 (bits low) in
    let highs = bytes 8 (bits high) in
    let body : List ℕ = p ∷ c ∷ o ∷ ((lows ++ highs) ++ rest) in
    let front : List ℕ = p ∷ c ∷ o ∷ lows in
    let long : 19 ≤ length body = omega (arith, length-append (lows ++ highs) rest, length-append lows highs, length-bytes 8 (bits low), length-bytes 8 (bits high)) in
    let parts : body ≡ p ∷ c ∷ o ∷ (lows ++ (highs ++ rest)) = ap (λ (l : List ℕ). p ∷ c ∷ o ∷ l) (append_assoc lows highs rest) in
    let eleven : 11 ≡ length front = omega (arith, length-bytes 8 (bits low)) in
    let l : signed (uint 8 body 3) ≡ low =
    ap (λ (b : List ℕ). signed (uint 8 b 3)) parts
    ∙ ap signed (uint-behind 8 (bits low) (p ∷ c ∷ o ∷ []) (highs ++ rest) (bits_below_word low h.3))
    ∙ signed-bits low h.3 in
    let u : signed (uint 8 body 11) ≡ high =
    ap (λ (b : List ℕ). signed (uint 8 b 11)) parts
    ∙ ap (λ (i : ℕ). signed (uint 8 (front ++ (highs ++ rest)) i)) eleven
    ∙ ap signed (uint-behind 8 (bits high) front rest (bits_below_word high h.4))
    ∙ signed-bits high h.4 in
    record_at-drop book at 5 body e
    ∙ sym (whole_is 19 at body _ long)
    ∙ ap (λ (z : ℤ). Ok (r.Test (Gap p c o z (signed (uint 8 body 11))))) l
    ∙ ap (λ (z : ℤ). Ok (r.Test (Gap p c o low z))) u

-- ---- equal bytes are equal values

tests-once : (tests others : List Test) → All Held tests → All Held others → tests_bytes tests ≡ tests_bytes others → tests ≡ others
unfolding tests_bytes
tests-once [] [] h k e = refl
tests-once [] (u ∷ others) h k e =
    absurd (omega (arith, ap length e, length-append (test_bytes u) (tests_bytes others), length-test_bytes u, test_some u))
tests-once (t ∷ tests) [] h k e =
    absurd (omega (arith, ap length e, length-append (test_bytes t) (tests_bytes tests), length-test_bytes t, test_some t))
tests-once (t ∷ tests) (u ∷ others) h k e =
    let book : List ℕ = test_bytes t ++ tests_bytes tests in
    let first : record_at book 0 ≡ Ok (r.Test t) = test_read book 0 t (tests_bytes tests) h.0 refl in
    let other : record_at book 0 ≡ Ok (r.Test u) = test_read book 0 u (tests_bytes others) k.0 e in
    let same : t ≡ u = cc in
    let f : test_bytes t ++ tests_bytes tests ≡ test_bytes t ++ tests_bytes others = e ∙ ap (λ (v : Test). test_bytes v ++ tests_bytes others) (sym same) in
    let rest : tests_bytes tests ≡ tests_bytes others =
    sym (drop-append_seam (test_bytes t) (tests_bytes tests)) ∙ ap (drop (length (test_bytes t))) f ∙ drop-append_seam (test_bytes t) (tests_bytes others) in
    let more : tests ≡ others = tests-once tests others h.1 k.1 rest in
    cc

-- a condition with all its tests: equal bytes, equal values, both ways
pub condition_once : (condition other : List Test) → All Held condition → All Held other
    → (condition_bytes condition ≡ condition_bytes other → condition ≡ other) × (condition ≡ other → condition_bytes condition ≡ condition_bytes other)
unfolding condition_bytes
condition_once condition other h k = (λ (e : condition_bytes condition ≡ condition_bytes other). tests-once condition other h k (ap (drop 1) e), λ e. ap condition_bytes e)
