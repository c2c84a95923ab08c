-- `malletfrond_c::malletfrond_wording` meets its contract: the place is the one that the definition finds, and each arm tells its case of it. Assumes nothing.
use Rattle.std.proofs.Common.{ap, ◌∙◌}
use Rattle.malletfrond_c.specs.Exported.{answer_number, wording_result}
use Rattle.malletfrond_c.proofs.malletfrond_wording.Goals as goal

pub returns-in-Ok : goal.returns-in-Ok
unfolding answer_number wording_result
returns-in-Ok c = record { refusal = ap answer_number c.in-Ok.ensures; at = ap wording_result c.in-Ok.ensures }

pub returns-in-Err : goal.returns-in-Err
unfolding answer_number wording_result
returns-in-Err c = record { refusal = c.number.ensures ∙ ap answer_number c.in-Err.ensures; at = ap wording_result c.in-Err.ensures }
