use Rattle.std.proofs.Common.{◌≡◌, true, rules}
use Rattle.osc_life.specs.Holders.{seen_by, holder_of}
use Rattle.osc_links.specs.Ticks.{is_later}
use Rattle.osc_links.proofs.Ticking.{round_later}
use Rattle.osc_links.proofs.Tickings.{keeps_on}
use Rattle.osc_links.proofs.ticker.play_moment.Goals as goal

pub returns-in-None-clause-plays : goal.returns-in-None-clause-plays
returns-in-None-clause-plays g c =
    let later : is_later c.args.last c.args.moment ≡ true = search rules in
    round_later g.M.Method.keep g.M.Method.heard (holder_of c.args.live.now.caps c.args.caller) c.args.last c.args.moment
    (holder_of c.args.live.now.caps c.tick-caller.result.0) c.tick-caller.result.1 c.pump-in-None.result.1 (seen_by c.args.caller)
    (seen_by c.tick-caller.result.0) (seen_by c.pump-in-None.result.0) later c.in-None.is c.tick-caller.ensures.played c.tick-caller.ensures.holder
    c.pump-in-None.ensures.played

pub returns-in-None-clause-keeps : goal.returns-in-None-clause-keeps
returns-in-None-clause-keeps g c = keeps_on _ _ _ c.tick-caller.ensures.keeps c.pump-in-None.ensures.keeps
