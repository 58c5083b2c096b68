use Rattle.osc_uses.proofs.Levels.{tells_level}
use Rattle.osc_uses.proofs.host_round.fader_level.Goals as goal

pub returns : goal.returns
returns c =
    let fader = c.in_ok-method.field-0.now in
    tells_level _ _ c.args.id fader.sent fader.last c.level.result c.level.ensures.value c.level.ensures.four c.in_ok-method.ensures.told
