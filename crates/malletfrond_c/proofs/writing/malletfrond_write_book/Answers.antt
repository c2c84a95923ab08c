-- `malletfrond_c::writing::malletfrond_write_book` meets its contract: `write_book` keeps its promise, and each arm tells its case of the answer. Assumes nothing.
use Rattle.std.proofs.Common.{refl}
use Rattle.malletfrond_c.specs.Exported.{answer_number, answer_place, answer_result}
use Rattle.malletfrond_c.proofs.writing.malletfrond_write_book.Goals as goal

pub returns-in-Ok : goal.returns-in-Ok
unfolding answer_number answer_place answer_result
returns-in-Ok c = record { answer = _; writes = c.in-Ok.ensures; tells = record { number = refl; written = refl; at = refl } }

pub returns-in-Err : goal.returns-in-Err
unfolding answer_number answer_place answer_result
returns-in-Err c = record { answer = _; writes = c.in-Err.ensures; tells = record { number = c.number.ensures; written = refl; at = refl } }
