-- The twelve bytes of a reading: written four by four, and read back. Assumes nothing.
use Prim.Native.Nat.{ℕ, ◌+◌, ◌≤◌}
use mathlib.Core.Path.{◌≡◌, ap, ◌∙◌}
use mathlib.Core.List.{List, ◌++◌, append_assoc}
use native.Mathlib.Omega.{arith}
use lib.ListN.{length, length-append}
use Rattle.numbers.specs.BigEndian.{bytes}
use Rattle.numbers.specs.Spliced.{spliced}
use Rattle.numbers.proofs.BigEndian.{length-bytes}
use Rattle.numbers.proofs.Spliced.{spliced_twice}
use Rattle.reading.specs.declared.Reading.{Reading}
use Rattle.reading.specs.Reading.{reading_bytes}

pub length-reading_bytes : (r : Reading) → length (reading_bytes r) ≡ 12
unfolding reading_bytes
length-reading_bytes r =
    omega (
      arith,
      length-append (bytes 4 r.line) (bytes 4 r.column ++ bytes 4 r.value),
      length-append (bytes 4 r.column) (bytes 4 r.value),
      length-bytes 4 r.line,
      length-bytes 4 r.column,
      length-bytes 4 r.value,
    )

-- three numbers written one behind the other
pub reading_bytes-spliced : (xs xs1 xs2 xs3 : List ℕ) (a : ℕ) (r : Reading) → a ≤ length xs → xs1 ≡ spliced xs a (bytes 4 r.line) → xs2 ≡ spliced xs1 (a + 4) (bytes 4 r.column)
    → xs3 ≡ spliced xs2 (a + 8) (bytes 4 r.value) → xs3 ≡ spliced xs a (reading_bytes r)
unfolding reading_bytes
reading_bytes-spliced xs xs1 xs2 xs3 a r h e1 e2 e3 =
    let p : List ℕ = bytes 4 r.line in
    let q : List ℕ = bytes 4 r.column in
    let v : List ℕ = bytes 4 r.value in
    let b : a + 4 ≡ a + length p = omega (arith, length-bytes 4 r.line) in
    let c : a + 8 ≡ a + length (p ++ q) = omega (arith, length-append p q, length-bytes 4 r.line, length-bytes 4 r.column) in
    let two : xs2 ≡ spliced xs a (p ++ q) = e2 ∙ ap (λ (l : List ℕ). spliced l (a + 4) q) e1 ∙ spliced_twice xs a p h (a + 4) q b in
    e3 ∙ ap (λ (l : List ℕ). spliced l (a + 8) v) two ∙ spliced_twice xs a (p ++ q) h (a + 8) v c ∙ ap (spliced xs a) (append_assoc p q v)
