-- Big-endian numbers. "Numbers are big-endian." Assumes nothing: these are definitions.
use Rattle.std.specs.Prelude.{ℕ, zero, suc, ◌+◌, ◌*◌, ◌/◌, ◌%◌, List, [], ◌∷◌, ◌++◌, get_or}

-- the number of the n bytes from i on; a byte that is not there counts as 0
unfoldable pub uint : ℕ → List ℕ → ℕ → ℕ
uint zero b i = 0
uint (suc n) b i = uint n b i * 256 + get_or b (i + n) 0

-- x in n bytes: the bytes of its 256th part, then what is left over
unfoldable pub bytes : ℕ → ℕ → List ℕ
bytes zero x = []
bytes (suc n) x = bytes n (x / 256) ++ (x % 256 ∷ [])
