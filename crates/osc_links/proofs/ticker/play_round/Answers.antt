use Rattle.osc_life.specs.Holders.{seen_by, holder_of}
use Rattle.osc_links.proofs.Ticking.{round_plays, round_full, round_fails}
use Rattle.osc_turn.specs.Passes.{view}
use Rattle.osc_links.proofs.Tickings.{keeps_here}
use Rattle.osc_links.proofs.ticker.play_round.Goals as goal

pub returns-in-None-clause-round : goal.returns-in-None-clause-round
returns-in-None-clause-round g c =
    round_plays g.M.Method.keep g.M.Method.heard (holder_of c.args.live.now.caps c.args.caller) c.args.last c.later-after.result
    (g.C.Clock.left c.args.clock.now) (g.C.Clock.left c.now.new.self) (g.C.Clock.faults c.args.clock.now) (g.C.Clock.faults c.now.new.self)
    c.in-At.moment c.play_moment-caller.result.1 (seen_by c.args.caller) (seen_by c.play_moment-caller.result.0) c.in-At.ensures.cause
    c.in-At.ensures.moments c.in-None.is c.play_moment-caller.ensures.plays c.later-after.ensures

pub returns-in-Some-clause-round : goal.returns-in-Some-clause-round
returns-in-Some-clause-round g c =
    round_full g.M.Method.keep g.M.Method.heard (holder_of c.args.live.now.caps c.args.caller) c.args.last
    (g.C.Clock.left c.args.clock.now) (g.C.Clock.left c.now.new.self) (g.C.Clock.faults c.args.clock.now) (g.C.Clock.faults c.now.new.self)
    c.in-At.moment c.play_moment-caller.result.1 c.in-Some.room (seen_by c.args.caller) (seen_by c.play_moment-caller.result.0) c.in-At.ensures.cause
    c.in-At.ensures.moments c.in-Some.is c.play_moment-caller.ensures.plays

pub returns-in-Failed-clause-round : goal.returns-in-Failed-clause-round
returns-in-Failed-clause-round g c =
    round_fails g.M.Method.keep g.M.Method.heard (holder_of c.args.live.now.caps c.args.caller) c.args.last
    (g.C.Clock.left c.args.clock.now) (g.C.Clock.left c.now.new.self) (g.C.Clock.faults c.args.clock.now) (g.C.Clock.faults c.now.new.self)
    (seen_by c.args.caller) c.in-Failed.ensures.cause c.in-Failed.ensures.moments

pub returns-in-Failed-clause-keeps : goal.returns-in-Failed-clause-keeps
returns-in-Failed-clause-keeps g c = keeps_here (view c.args.caller.pass)
