-- A complaint as a line of bytes. Assumes nothing: these are definitions.
use Rattle.std.specs.Prelude.{ℕ, cond, ◌&&◌, List, [], ◌∷◌, ◌++◌, eqb, ltb, length, Option, Some, None}
use Rattle.numbers.specs.Digits.{digits}
use Rattle.numbers.specs.Spliced.{spliced}
use Rattle.matching.specs.Lists.{concat_map}
use Rattle.reading.specs.declared.Reading.{Reading}

-- "for each position a space and line/column/value in decimal without leading zeros"
unfoldable pub entry : Reading → List ℕ
entry r = 32 ∷ (digits r.line ++ 47 ∷ (digits r.column ++ 47 ∷ digits r.value))

abbrev pub entries : List Reading → List ℕ
entries t = concat_map entry t

-- "the wording without its trailing spaces"
unfoldable pub trimmed : List ℕ → List ℕ
trimmed [] = []
trimmed (x ∷ l) = cond (eqb x 32 && eqb (length (trimmed l)) 0) [] (x ∷ trimmed l)

-- "then a space, "|", the wording without its trailing spaces, and a newline"
unfoldable pub ending : List ℕ → List ℕ
ending wording = 32 ∷ 124 ∷ (trimmed wording ++ 10 ∷ [])

-- "A line: rule number, then for each position .."
unfoldable pub line_text : ℕ → List Reading → List ℕ → List ℕ
line_text number readings wording = digits number ++ (entries readings ++ ending wording)

-- a text written at the front of a buffer, if the buffer has place for it: its length; else nothing is written
unfoldable pub length_in : List ℕ → List ℕ → Option ℕ
length_in buffer text = cond (ltb (length buffer) (length text)) None (Some (length text))

unfoldable pub text_in : List ℕ → List ℕ → List ℕ
text_in buffer text = cond (ltb (length buffer) (length text)) buffer (spliced buffer 0 text)
