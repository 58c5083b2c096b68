use Rattle.std.proofs.Common.{ℕ, subst}
use Rattle.osc_turn.specs.Passes.{view}
use Rattle.osc_live.specs.Pumps.{Pumps}
use Rattle.osc_uses.proofs.met_callers.pump_after.Goals as goal

pub returns-clause-after : goal.returns-clause-after
returns-clause-after g c =
    let met = c.meet-other.ensures in
    record {
      between = view c.meet-other.result.1.pass;
      own = met.seen;
      told = met.told;
      none_added = met.none_added;
      pumps = subst (λ (n : ℕ). Pumps c.args.live.now.caps n c.pump-caller.result.1 (view c.meet-other.result.1.pass) (view c.pump-caller.result.0.pass))
          met.numbers.1 c.pump-caller.ensures.calls;
    }
