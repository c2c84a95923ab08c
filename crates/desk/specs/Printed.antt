-- What the program prints, line by line.
use Rattle.std.specs.Prelude.{ℕ, List, [], ◌∷◌, ◌++◌, Ok, Err}
use Rattle.std.specs.Fmt.{decimal}
use Rattle.book.specs.Refusals.{number_of}
use Rattle.malletfrond.specs.Answers.{StepAnswer}

-- a space and n in decimal
abbrev pub spaced : ℕ → List ℕ
spaced n = 32 ∷ decimal n

-- a refusal without a place: `!`, its number and the end of the line
abbrev pub refusal_line : ℕ → List ℕ
refusal_line number = (33 ∷ []) ++ spaced number ++ (10 ∷ [])

-- a refusal with its place
abbrev pub placed_refusal_line : ℕ → ℕ → List ℕ
placed_refusal_line number place = (33 ∷ []) ++ spaced number ++ spaced place ++ (10 ∷ [])

-- the answer to an addition or a removal: the sign and three counts, or the refusal
abbrev pub answer_line : List ℕ → StepAnswer → List ℕ
answer_line sign (Ok to) = sign ++ spaced to.readings ++ spaced to.tokens ++ spaced to.changed ++ (10 ∷ [])
answer_line sign (Err e) = refusal_line (number_of e.cause)
