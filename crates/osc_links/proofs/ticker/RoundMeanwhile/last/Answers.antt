use Rattle.std.proofs.Common.{refl, sym, subst}
use Rattle.osc_turn.specs.Passes.{view}
use Rattle.osc_turn.proofs.Histories.{starts_here}
use Rattle.osc_life.specs.Holders.{seen_by, holder_of}
use Rattle.osc_links.specs.declared.ticker.Round.{Round}
use Rattle.osc_links.specs.declared.served.TickerEnd.{TickerEnd}
use Rattle.osc_links.specs.Ticks.{clock_read, Ticks}
use Rattle.osc_links.specs.Rounds.{HasTicked}
use Rattle.osc_links.proofs.Tickings.{ticked_last, onward_told}
use Rattle.osc_links.proofs.Ticking.{ended_early, onward_same}
use Rattle.osc_links.proofs.ticker.RoundMeanwhile.last.Goals as goal

pub returns-in-Played : goal.returns-in-Played
returns-in-Played g c =
    let one = c.play_round-caller.ensures in
    let keep = g.M.Method.keep in
    let heard = g.M.Method.heard in
    let left = g.C.Clock.left in
    let faults = g.C.Clock.faults in
    let caller = c.args.caller in
    let after = c.play_round-caller.result.0 in
    let holder = holder_of c.args.desk.now.live.now.caps caller in
    let was = c.args.on.now in
    let now = c.play_round-caller.new.clock in
    record {
      ours = one.ours;
      holder = one.holder;
      made = one.keeps.made;
      starts = one.keeps.starts;
      ended = λ before v met tokens ticked learns told. (
        seen_by after,
        subst (λ (e : TickerEnd). Ticks keep heard holder tokens (clock_read left faults before now) e v.seen (seen_by after)) (sym c.end_of-end.ensures)
            (ticked_last keep heard holder tokens c.in-Played.last (left before) (left was) (left now) (faults before) (faults was) (faults now)
            c.play_round-caller.result.1 v.seen met.seen (seen_by caller) (seen_by after)
            (subst (λ (r : Round). HasTicked keep heard holder (clock_read left faults before was) r v.seen met.seen) c.in-Played.is ticked)
            (onward_told met (view caller.pass) learns) told one.round),
        onward_same holder.token (seen_by after),
        λ done. refl,
      );
    }

pub returns-in-Over : goal.returns-in-Over
returns-in-Over g c =
    let keep = g.M.Method.keep in
    let heard = g.M.Method.heard in
    let left = g.C.Clock.left in
    let faults = g.C.Clock.faults in
    let caller = c.args.caller in
    let holder = holder_of c.args.desk.now.live.now.caps caller in
    let was = c.args.on.now in
    record {
      ours = c.requires.ours;
      holder = refl;
      made = refl;
      starts = starts_here (seen_by caller);
      ended = λ before v met tokens ticked learns told. (
        met.seen,
        ended_early keep heard holder tokens (clock_read left faults before was) c.in-Over.end v.seen met.seen
            (subst (λ (r : Round). HasTicked keep heard holder (clock_read left faults before was) r v.seen met.seen) c.in-Over.is ticked),
        onward_told met (view caller.pass) learns,
        λ done. absurd
            ((subst (λ (r : Round). HasTicked keep heard holder (clock_read left faults before was) r v.seen met.seen) c.in-Over.is ticked).0 done),
      );
    }
