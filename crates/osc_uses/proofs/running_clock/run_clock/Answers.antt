use Rattle.std.proofs.Common.{ℕ, List, subst, sym, refl, ◌∙◌, arith}
use Rattle.osc_turn.proofs.Histories.{none_long}
use Rattle.osc_turn.specs.Passes.{view}
use Rattle.osc_uses.specs.LiveCalls.{Runs, RunsOne}
use Rattle.osc_uses.proofs.LiveCalls.{runs_on}
use Rattle.osc_uses.proofs.running_clock.run_clock.Goals as goal

pub loop-moment-preserved : goal.loop-moment-preserved
loop-moment-preserved g c =
    let inv = c.loop-moment.invariant in
    let one = subst (λ (n : ℕ). RunsOne c.args.live.now.caps n c.in-Some.moment (view c.loop-moment.caller.pass) (view c.tick_and_pump-clocked.result.caller.pass))
    inv.number (_, _, c.tick_and_pump-clocked.ensures.calls) in
    record {
      ours = c.tick_and_pump-clocked.ensures.ours;
      number = c.tick_and_pump-clocked.ensures.number ∙ inv.number;
      ahead = λ w rest. inv.ahead w (runs_on _ _ _ _ _ _ _ w c.in-Some.ensures.steps.0 one rest);
    }

pub returns-clause-runs : goal.returns-clause-runs
returns-clause-runs g c =
    let inv = c.loop-moment.invariant in
    let none = none_long _ (omega (arith, c.in-None.ensures.steps.0, c.loop-moment.moment-iterator.rest.ok.0)) in
    inv.ahead _ (subst (λ (ms : List ℕ). Runs c.args.live.now.caps c.args.caller.number ms (view c.loop-moment.caller.pass) (view c.loop-moment.caller.pass))
    (sym none) refl)
