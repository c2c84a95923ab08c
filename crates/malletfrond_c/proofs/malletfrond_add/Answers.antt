-- `malletfrond_c::malletfrond_add` meets its contract: `add` keeps its promise, and `told` tells its answer. Assumes nothing.
use Rattle.malletfrond_c.proofs.malletfrond_add.Goals as goal

pub returns : goal.returns
returns c =
    let t = c.told.ensures in record { answer = _; steps = c.add-answer.ensures; number = t.number; first = t.first; second = t.second; third = t.third }
