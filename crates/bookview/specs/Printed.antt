-- What the program prints, line by line.
use Rattle.std.specs.Prelude.{ℕ, ℤ, List, [], ◌∷◌, ◌++◌, codes}
use Rattle.std.specs.Fmt.{decimal, signed_decimal}
use Rattle.book.specs.declared.record.Test.{Test}
use Rattle.book.specs.declared.record.Test.TheVariants.{Constant, Position, Gap}

-- a space and n in decimal
abbrev pub spaced : ℕ → List ℕ
spaced n = 32 ∷ decimal n

-- a space and z in decimal, with a minus sign below zero
abbrev pub spaced_signed : ℤ → List ℕ
spaced_signed z = 32 ∷ signed_decimal z

-- three numbers, each behind a space
unfoldable pub three : ℕ → ℕ → ℕ → List ℕ
three a b c = spaced a ++ spaced b ++ spaced c

-- a lowest and a highest number, each behind a space
unfoldable pub bounds : ℤ → ℤ → List ℕ
bounds low high = spaced_signed low ++ spaced_signed high

-- a line of a word and two numbers
abbrev pub line_of_two : List ℕ → ℕ → ℕ → List ℕ
line_of_two word a b = word ++ spaced a ++ spaced b ++ (10 ∷ [])

-- a line of a word and three numbers
abbrev pub line_of_three : List ℕ → ℕ → ℕ → ℕ → List ℕ
line_of_three word a b c = word ++ three a b c ++ (10 ∷ [])

-- the line of a test: its kind and its numbers, in the order of its record
abbrev pub test_line : Test → List ℕ
test_line (Constant place relation number) = line_of_three (codes "constant") place relation number
test_line (Position place relation condition other) = codes "position" ++ spaced place ++ spaced relation ++ spaced condition ++ spaced other ++ (10 ∷ [])
test_line (Gap place condition other low high) = codes "gap" ++ three place condition other ++ bounds low high ++ (10 ∷ [])
