use Rattle.osc_life.proofs.looker.look_on.Goals as goal

pub returns : goal.returns
returns g c =
    let looked = c.look.ensures in
    record { ours = looked.ours; number = looked.number; looked = looked.looked; came = looked.looks }
