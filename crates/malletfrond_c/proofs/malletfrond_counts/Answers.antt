-- `malletfrond_c::malletfrond_counts` meets its contract: `counts` keeps its promise, and each arm tells its case of the answer. Assumes nothing.
use Rattle.std.proofs.Common.{refl}
use Rattle.malletfrond_c.specs.Exported.{answer_number, answer_result}
use Rattle.malletfrond_c.proofs.malletfrond_counts.Goals as goal

pub returns-in-Ok : goal.returns-in-Ok
unfolding answer_number answer_result
returns-in-Ok c = record { answer = _; counts = c.in-Ok.ensures; number = refl; first = refl; second = refl; third = refl }

pub returns-in-Err : goal.returns-in-Err
unfolding answer_number answer_result
returns-in-Err c = record { answer = _; counts = c.in-Err.ensures; number = c.number.ensures; first = refl; second = refl; third = refl }
