-- The calls as other languages see them: a number, 0 for accepted, and results through numbers lent to be written. Each keeps the promise of the call that it stands
-- for; a result that is not there leaves the number lent for it as it was. Assumes nothing: these are definitions.
use Rattle.std.specs.Prelude.{◌≡◌, ℕ, List, Result, Ok, Err}
use Rattle.matching.specs.Step.{Step}
use Rattle.book.specs.declared.refusal.Refusal.{Refusal}
use Rattle.book.specs.Read.{read_book}
use Rattle.book.specs.Refusals.{number_of}
use Rattle.book.specs.Wording.{wording_place}
use Rattle.malletfrond.specs.Answers.{CountsAnswer, StepAnswer, LineAnswer}
use Rattle.malletfrond.specs.Promise.{Opens, Counts, Steps, Lines}

-- a refusal's number, 0 for none
unfoldable pub answer_number : {A : Type 0} → Result A Refusal → ℕ
answer_number (Ok x) = 0
answer_number (Err e) = number_of e.cause

-- its place; what was there before where there is none
unfoldable pub answer_place : {A : Type 0} → Result A Refusal → ℕ → ℕ
answer_place (Ok x) before = before
answer_place (Err e) before = e.place

-- what is told of a result, or what was there before
unfoldable pub answer_result : {A B : Type 0} → (A → B) → Result A Refusal → B → B
answer_result of (Ok x) before = of x
answer_result of (Err e) before = before

-- the offset of the wording, or the refusal's place
unfoldable pub wording_result : Result ℕ Refusal → ℕ
wording_result (Ok offset) = offset
wording_result (Err e) = e.place

pub record OpensOut (room book : List ℕ) (E T place r place' : ℕ) (room' : List ℕ) : Type 0 where
  pub answer : CountsAnswer
  pub opens : Opens room book E T answer room'
  pub number : r ≡ answer_number answer
  pub at : place' ≡ answer_place answer place

pub record StepsOut (room : List ℕ) (step : Step) (x y z r x' y' z' : ℕ) (room' : List ℕ) : Type 0 where
  pub answer : StepAnswer
  pub steps : Steps room step answer room'
  pub number : r ≡ answer_number answer
  pub first : x' ≡ answer_result (λ s. s.readings) answer x
  pub second : y' ≡ answer_result (λ s. s.tokens) answer y
  pub third : z' ≡ answer_result (λ s. s.changed) answer z

pub record CountsOut (room : List ℕ) (x y z r x' y' z' : ℕ) : Type 0 where
  pub answer : CountsAnswer
  pub counts : Counts room answer
  pub number : r ≡ answer_number answer
  pub first : x' ≡ answer_result (λ s. s.readings) answer x
  pub second : y' ≡ answer_result (λ s. s.tokens) answer y
  pub third : z' ≡ answer_result (λ s. s.complete) answer z

pub record LinesOut (room : List ℕ) (k : ℕ) (buffer : List ℕ) (x r x' : ℕ) (buffer' : List ℕ) : Type 0 where
  pub answer : LineAnswer
  pub lines : Lines room k buffer answer buffer'
  pub number : r ≡ answer_number answer
  pub result : x' ≡ answer_result (λ n. n) answer x

pub record WordsOut (book : List ℕ) (number r place' : ℕ) : Type 0 where
  pub refusal : r ≡ answer_number (wording_place (read_book book) number)
  pub at : place' ≡ wording_result (wording_place (read_book book) number)
