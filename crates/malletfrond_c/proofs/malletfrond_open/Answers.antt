-- `malletfrond_c::malletfrond_open` meets its contract: `open` keeps its promise, and each arm tells its case of the answer. Assumes nothing.
use Rattle.std.proofs.Common.{refl}
use Rattle.malletfrond_c.specs.Exported.{answer_number, answer_place}
use Rattle.malletfrond_c.proofs.malletfrond_open.Goals as goal

pub returns-in-Ok : goal.returns-in-Ok
unfolding answer_number answer_place
returns-in-Ok c = record { answer = _; opens = c.in-Ok.ensures; number = refl; at = refl }

pub returns-in-Err : goal.returns-in-Err
unfolding answer_number answer_place
returns-in-Err c = record { answer = _; opens = c.in-Err.ensures; number = c.number.ensures; at = refl }
