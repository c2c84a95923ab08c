-- `malletfrond_c::malletfrond_remove` meets its contract: `remove` keeps its promise, and `told` tells its answer. Assumes nothing.
use Rattle.malletfrond_c.proofs.malletfrond_remove.Goals as goal

pub returns : goal.returns
returns c =
    let t = c.told.ensures in record { answer = _; steps = c.remove-answer.ensures; number = t.number; first = t.first; second = t.second; third = t.third }
