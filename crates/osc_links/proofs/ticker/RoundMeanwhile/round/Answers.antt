use Rattle.std.proofs.Common.{ℕ, List, Option, sym, subst}
use Rattle.osc_life.specs.Holders.{seen_by, holder_of}
use Rattle.osc_life.proofs.Rounds.{none_played}
use Rattle.osc_links.specs.declared.ticker.Round.{Round}
use Rattle.osc_links.specs.Ticks.{clock_read}
use Rattle.osc_links.specs.Rounds.{HasTicked}
use Rattle.osc_links.proofs.Tickings.{ticked_on}
use Rattle.osc_links.proofs.ticker.RoundMeanwhile.round.Goals as goal

pub returns-in-Played : goal.returns-in-Played
returns-in-Played g c =
    let one = c.play_round-caller.ensures in
    let keep = g.M.Method.keep in
    let heard = g.M.Method.heard in
    let left = g.C.Clock.left in
    let faults = g.C.Clock.faults in
    let caller = c.args.caller in
    let holder = holder_of c.args.desk.now.live.now.caps caller in
    let was = c.args.on.now in
    let now = c.play_round-caller.new.clock in
    record {
      ours = one.ours;
      holder = one.holder;
      made = one.keeps.made;
      starts = one.keeps.starts;
      goes_on = λ before v ticked.
          subst (λ (q : Option (List ℕ) × ℕ). HasTicked keep heard holder (record { before = left before; after = q.0; faults = faults before; now = q.1 })
          c.play_round-caller.result.1 v.seen (seen_by c.play_round-caller.result.0))
          (λ i. (sym c.wait_until.ensures.same i, sym c.wait_until.ensures.steady i))
          (ticked_on keep heard holder c.in-Played.last (left before) (left was) (left now) (faults before) (faults was) (faults now)
          c.play_round-caller.result.1 v.seen (seen_by caller) (seen_by c.play_round-caller.result.0)
          (subst (λ (r : Round). HasTicked keep heard holder (clock_read left faults before was) r v.seen (seen_by caller)) c.in-Played.is ticked) one.round);
    }

pub returns-in-Over : goal.returns-in-Over
returns-in-Over g c = none_played c.args.desk.now.live.now _ c.args.on.now c.args.self.now c.args.caller c.requires.ours
