use Rattle.std.proofs.Common.{List, All, sym, subst}
use Rattle.std.proofs.lemmas.List.Elements.{All-map}
use Rattle.osc_live.specs.declared.caller.Caller.{Caller}
use Rattle.osc_live.specs.Seen.{IsTokenOf}
use Rattle.osc_life.specs.Works.{IsOver, caller_in}
use Rattle.osc_life.proofs.Rounds.{over_more, still_goes}
use Rattle.osc_life.proofs.beside.play_beside.Goals as goal

pub last_round-requires-clause-goes : goal.last_round-requires-clause-goes
last_round-requires-clause-goes g c κs within =
    still_goes c.args.desk.now.live.now g.T.Meanwhile.rounds c.args.on.now c.play_both-first.new.on c.args.meanwhile c.play_both-first.new.meanwhile
    c.args.caller c.play_both-first.result.0 c.requires.goes c.play_both-first.ensures.plays

pub last_round-requires-clause-others : goal.last_round-requires-clause-others
last_round-requires-clause-others g c κs within =
    let live = c.args.desk.now.live.now in
    let Ours : Caller → Type 0 = λ one. IsTokenOf live.turn live.caps one.pass in
    let all = c.in_ok-all.all.items in
    subst (All Ours) (sym c.in_ok-callers.ensures.callers) (All-map Ours caller_in all (rw c.in_ok-all.was at c.play_both-first.ensures.ours))

pub returns : goal.returns
returns g c =
    let live = c.args.desk.now.live.now in
    let rounds = g.T.Meanwhile.rounds in
    let ends = g.T.Meanwhile.ends in
    let all = c.in_ok-all.all.items in
    let crew = c.in_ok-crew.crew in
    record {
      all = all;
      done = rw c.in_ok-all.was at c.play_both-first.ensures.done;
      ends_are = c.in_ok-callers.ensures.ends;
      over = subst (λ (l : List Caller). IsOver live rounds ends c.args.on.now c.last_round.new.on c.args.meanwhile c.in_ok-crew.end c.args.caller crew.first l
          crew.callers.items) c.in_ok-callers.ensures.callers
          (over_more live rounds ends c.args.on.now c.play_both-first.new.on c.last_round.new.on c.args.meanwhile c.play_both-first.new.meanwhile
          c.in_ok-crew.end c.args.caller c.play_both-first.result.0 crew.first c.in_ok-callers.callers.items crew.callers.items
          c.play_both-first.ensures.plays c.in_ok-crew.ensures);
    }
