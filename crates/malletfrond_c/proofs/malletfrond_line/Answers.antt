-- `malletfrond_c::malletfrond_line` meets its contract: `line` keeps its promise, and each arm tells its case of the answer. Assumes nothing.
use Rattle.std.proofs.Common.{refl}
use Rattle.malletfrond_c.specs.Exported.{answer_number, answer_result}
use Rattle.malletfrond_c.proofs.malletfrond_line.Goals as goal

pub returns-in-Ok : goal.returns-in-Ok
unfolding answer_number answer_result
returns-in-Ok c = record { answer = _; lines = c.in-Ok.ensures; number = refl; result = refl }

pub returns-in-Err : goal.returns-in-Err
unfolding answer_number answer_result
returns-in-Err c = record { answer = _; lines = c.in-Err.ensures; number = c.number.ensures; result = refl }
