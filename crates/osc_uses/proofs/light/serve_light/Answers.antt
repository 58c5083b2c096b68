use Rattle.std.proofs.Common.{◌≡◌, ap, ◌∙◌}
use Rattle.osc_uses.proofs.ServedTurns.{none_served, one_served}
use Rattle.osc_uses.proofs.light.serve_light.Goals as goal
use Rattle.osc_uses.proofs.light.serve_light.Goals.{else-loop-test, then-loop-test+in-End}

pub loop-preserved : goal.loop-preserved
loop-preserved g c =
    let turn = c.serve_turn-last in
    let before = c.loop.core.performance in
    let between = turn.new.core.performance in
    record {
      space = turn.ensures.space ∙ c.loop.invariant.space;
      ahead = λ left after rest. c.loop.invariant.ahead left after
          (one_served turn.result turn.new.space (g.L.Link.left c.loop.link) (g.L.Link.left turn.new.link) left before between after turn.ensures.turn
          turn.ensures.plays rest);
    }

pub returns-clause-serves : goal.returns-clause-serves
returns-clause-serves g c =
    let last = g.L.Link.left c.loop-test.link in
    let after = c.loop-test.core.performance in
    c.loop.invariant.ahead last after
    (elim c.loop-test.branch [
      | else-loop-test w ↦
          let same : after ≡ c.loop.core.performance = cc w.core-is in
          none_served (g.L.Link.left c.loop.link) last c.loop.core.performance after (ap g.L.Link.left w.link-is) same
      | then-loop-test+in-End w ↦
          let turn = w.serve_turn-last in
          let same : after ≡ turn.new.core.performance = cc w.core-is in
          one_served turn.result turn.new.space (g.L.Link.left c.loop.link) (g.L.Link.left turn.new.link) last c.loop.core.performance turn.new.core.performance
          after turn.ensures.turn turn.ensures.plays
          (none_served (g.L.Link.left turn.new.link) last turn.new.core.performance after (ap g.L.Link.left w.link-is) same)
    ])

pub returns-clause-laws : goal.returns-clause-laws
returns-clause-laws g c =
    let after = c.loop-test.core.performance in
    c.every_history_keeps_the_laws.ensures after.caps after.history c.bytes.ensures.legal
