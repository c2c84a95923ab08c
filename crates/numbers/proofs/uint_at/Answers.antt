-- `numbers::uint_at` meets its contract: what was passed is the number so far, and a byte more has room. Assumes nothing.
use Rattle.std.proofs.Common.{ℕ, ◌∙◌, ◌≤◌, ◌≡◌, ◌+◌, ◌-◌, ◌*◌, ◌<◌, ◌^◌, List, length, take, drop, get_or, refl, arith, length-take-le}
use Rattle.std.proofs.lemmas.List.{length-drop, get_or-drop, get_or-take}
use Rattle.numbers.specs.BigEndian.{uint}
use Rattle.numbers.proofs.BigEndian.{below_power_word, uint_passed}
use Rattle.numbers.proofs.uint_at.Goals as goal

pub loop-byte-init : goal.loop-byte-init
unfolding uint
loop-byte-init c = (refl, omega arith)

part_long : (b : List ℕ) (i n : ℕ) → i + n ≤ length b → length (take (i + n - i) (drop i b)) ≡ n
part_long b i n fits = length-take-le (i + n - i) (drop i b) (omega (arith, length-drop i b, fits)) ∙ omega arith

-- the byte that is passed next
here : (c : goal.After-row_known-1) → get_or (take (c.args.i + c.args.n - c.args.i) (drop c.args.i c.args.b.now)) c.loop-byte.byte-index 0
    ≡ get_or c.args.b.now (c.args.i + c.loop-byte.byte-index) 0
here c =
    get_or-take (c.args.i + c.args.n - c.args.i) (drop c.args.i c.args.b.now) c.loop-byte.byte-index 0 (omega (arith, part_long c.args.b.now c.args.i c.args.n c.requires.1, c.loop-byte-test.true))
    ∙ get_or-drop c.args.i c.args.b.now c.loop-byte.byte-index 0

passed : (c : goal.After-row_known-1) →
    let x : ℕ = c.loop-byte.acc * 256 + get_or c.args.b.now (c.args.i + c.loop-byte.byte-index) 0 in
    (x < 2 ^ 64) × ((x ≡ uint (c.loop-byte.byte-index + 1) c.args.b.now c.args.i) × (x < 256 ^ (c.loop-byte.byte-index + 1)))
passed c =
    uint_passed c.loop-byte.byte-index c.loop-byte.acc c.args.b.now c.args.i (omega (arith, part_long c.args.b.now c.args.i c.args.n c.requires.1, c.loop-byte-test.true, c.requires.0))
    (omega (arith, c.type_inv.b (c.args.i + c.loop-byte.byte-index))) c.loop-byte.invariant

pub overflow_mul-acc : goal.overflow_mul-acc
overflow_mul-acc c =
    let l = c.loop-byte in
    omega (arith, below_power_word l.byte-index l.acc (omega (arith, part_long c.args.b.now c.args.i c.args.n c.requires.1, c.loop-byte-test.true, c.requires.0)) l.invariant.1)

pub overflow_add-acc : goal.overflow_add-acc
overflow_add-acc c = omega (arith, here c, (passed c).0)

pub loop-byte-preserved : goal.loop-byte-preserved
loop-byte-preserved c = rw (here c) (passed c).1

pub returns : goal.returns
returns c =
    let end : c.loop-byte.byte-index ≡ c.args.n = omega (arith, part_long c.args.b.now c.args.i c.args.n c.requires.1, c.loop-byte-test.false, c.loop-byte.auto.byte-index-end) in
    rw end at c.loop-byte.invariant
