use Rattle.osc_life.proofs.Rounds.{none_played, more_played, still_goes}
use Rattle.osc_life.proofs.beside.go_on.Goals as goal

pub loop-init : goal.loop-init
loop-init g c = record {
  plays = none_played c.args.desk.now.live.now g.T.Meanwhile.rounds c.args.on.now c.args.meanwhile.now c.args.caller c.requires.ours;
  goes = c.requires;
}

pub loop-preserved : goal.loop-preserved
loop-preserved g c =
    let inv = c.loop.invariant in
    let more = c.round-next.ensures in
    record {
      plays = more_played c.args.desk.now.live.now g.T.Meanwhile.rounds c.args.on.now c.loop.on c.round-next.new.on c.args.meanwhile.now c.loop.meanwhile
          c.round-next.new.self c.args.caller c.loop.caller c.round-next.result.0 inv.plays more;
      goes = still_goes c.args.desk.now.live.now g.T.Meanwhile.rounds c.loop.on c.round-next.new.on c.loop.meanwhile c.round-next.new.self c.loop.caller
          c.round-next.result.0 inv.goes more;
    }
