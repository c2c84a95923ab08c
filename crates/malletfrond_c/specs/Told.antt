-- What a step's answer is told as: a refusal's number, 0 for none, and three results, or what was there before. Assumes nothing: this is a definition.
use Rattle.std.specs.Prelude.{◌≡◌, ℕ}
use Rattle.malletfrond.specs.Answers.{StepAnswer}
use Rattle.malletfrond_c.specs.Exported.{answer_number, answer_result}

pub record Told (answer : StepAnswer) (x y z r x' y' z' : ℕ) : Type 0 where
  pub number : r ≡ answer_number answer
  pub first : x' ≡ answer_result (λ s. s.readings) answer x
  pub second : y' ≡ answer_result (λ s. s.tokens) answer y
  pub third : z' ≡ answer_result (λ s. s.changed) answer z
