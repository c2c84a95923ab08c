-- `malletfrond_c::told` meets its contract: each arm writes what its case of the answer is told as. Assumes nothing.
use Rattle.malletfrond_c.specs.Exported.{answer_number, answer_result}
use Rattle.malletfrond_c.proofs.told.Goals as goal

pub returns-in-Ok : goal.returns-in-Ok
unfolding answer_number answer_result
returns-in-Ok c = record { number = rw c.in-Ok.is; first = rw c.in-Ok.is; second = rw c.in-Ok.is; third = rw c.in-Ok.is }

pub returns-in-Err : goal.returns-in-Err
unfolding answer_number answer_result
returns-in-Err c = record { number = rw c.in-Err.is c.number.ensures; first = rw c.in-Err.is; second = rw c.in-Err.is; third = rw c.in-Err.is }
