use Rattle.std.proofs.Common.{refl}
use Rattle.osc_player.proofs.Endings.{ended}
use Rattle.osc_player.proofs.player.Player.finish.Goals as goal

pub returns-clause-boxes : goal.returns-clause-boxes
returns-clause-boxes g c = λ bank over.
    ended g.M.Method.keep g.M.Method.heard bank c.args.self.core.performance _ c.args.self.removed.items c.close-bytes.result.kept.items _ _ _ _ _
    c.close-bytes.ensures.kept refl c.in_ok-heard.ensures.each c.in_ok-heard.ensures.ascending c.in_ok-keep_rest.ensures over
