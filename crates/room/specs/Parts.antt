-- Parts of a list of bytes. Assumes nothing: these are definitions.
use Rattle.std.specs.Prelude.{ℕ, zero, suc, ◌+◌, ◌*◌, List, [], ◌∷◌, ◌++◌, take, drop}
use Rattle.numbers.specs.BigEndian.{uint, bytes}

-- the w bytes from a on
abbrev pub part : List ℕ → ℕ → ℕ → List ℕ
part l a w = take w (drop a l)

-- the w bytes from a on replaced by r
abbrev pub put : List ℕ → ℕ → ℕ → List ℕ → List ℕ
put l a w r = take a l ++ (r ++ drop w (drop a l))

-- the parts of these widths, one after the other from a on, and what is left
abbrev pub cut : ℕ → List ℕ → List ℕ → List (List ℕ)
cut a [] l = drop a l ∷ []
cut a (w ∷ ws) l = part l a w ∷ cut (a + w) ws l

-- the numbers below n, ascending
unfoldable pub below : ℕ → List ℕ
below zero = []
below (suc n) = below n ++ n ∷ []

-- the first n numbers of two bytes each
unfoldable pub twos : ℕ → List ℕ → List ℕ
twos zero l = []
twos (suc n) l = twos n l ++ uint 2 l (n * 2) ∷ []

-- numbers in two bytes each
unfoldable pub twos_bytes : List ℕ → List ℕ
twos_bytes [] = []
twos_bytes (x ∷ xs) = bytes 2 x ++ twos_bytes xs
