use Rattle.std.proofs.Common.{◌≡◌, map, sym, ap, ◌∙◌}
use Rattle.osc_edge.specs.declared.link.Datagram.{Datagram}
use Rattle.osc_model.specs.Events.{submit}
use Rattle.osc_uses.specs.Played.{played}
use Rattle.osc_uses.specs.Light.{packets_in, turn_of}
use Rattle.osc_uses.proofs.ServedTurns.{a_round, no_turn}
use Rattle.osc_uses.proofs.light.serve_turn.Goals as goal
use Rattle.osc_uses.proofs.light.serve_turn.Goals.{in-Got, in_default}

pub returns-clause-plays : goal.returns-clause-plays
returns-clause-plays g c =
    let before = c.args.core.now.performance in
    let space = c.next-datagram.new.into in
    let datagram = c.match-datagram.datagram in
    let submits : c.match-datagram.core.performance ≡ played before (map submit (packets_in (turn_of datagram space))) =
    elim c.match-datagram.branch [
      | in-Got w ↦
          let same : c.match-datagram.core.performance ≡ w.submit_packet.new.core.performance = cc w.core-is in
          same ∙ w.submit_packet.ensures
          ∙ ap (λ (d : Datagram). played before (map submit (packets_in (turn_of d space)))) (sym w.datagram-is)
      | in_default w ↦
          let same : c.match-datagram.core.performance ≡ before = cc w.core-is in
          same ∙ no_turn before c.next-datagram.result space w.in_default.not-Got
          ∙ ap (λ (d : Datagram). played before (map submit (packets_in (turn_of d space)))) (sym w.datagram-is)
    ] in
    a_round (packets_in (turn_of datagram space)) before c.match-datagram.core.performance c.set_clock.new.core.performance _ submits c.set_clock.ensures
    c.release_due.ensures
