use Rattle.std.proofs.Common.{ap, ◌∙◌}
use Rattle.osc_model.specs.Events.{add}
use Rattle.osc_model.specs.History.{Performance, onward}
use Rattle.osc_uses.specs.Played.{opened}
use Rattle.osc_uses.proofs.Playing.{played_one}
use Rattle.osc_uses.proofs.light.open_light.Goals as goal

pub returns : goal.returns
returns c = played_one (opened c.args.caps) _ (add c.args.address)
    (c.add.ensures.performance ∙ ap (λ (p : Performance). onward p 0 (add c.args.address)) c.in_ok-core.ensures.performance)
