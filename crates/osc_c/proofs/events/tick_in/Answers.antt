use Rattle.std.proofs.Common.{List, length, drop, refl, ap, subst, sym, ◌∙◌, true, ◌≡◌}
use Rattle.std.specs.List.{list_all}
use Rattle.osc_model.specs.Events.{tick}
use Rattle.osc_core.specs.Invoked.{Call}
use Rattle.osc_c.specs.Short.{is_short}
use Rattle.osc_c.proofs.Reading.{still_last}
use Rattle.osc_c.proofs.events.tick_in.Goals as goal

pub invariant_of-state : goal.invariant_of-state
invariant_of-state c =
    let old = c.args.state.now in
    let same = still_last old.core.performance c.tick.new.self.performance c.args.caller (tick c.args.moment) refl c.tick.ensures.performance in
    record {
      counted = ap length same ∙ old.counted;
      within = old.within;
      short = subst (λ (l : List Call). list_all is_short l ≡ true) (sym same) old.short;
    }

pub returns-clause-unread : goal.returns-clause-unread
returns-clause-unread c =
    let old = c.args.state.now in
    ap (drop old.read) (still_last old.core.performance c.tick.new.self.performance c.args.caller (tick c.args.moment) refl c.tick.ensures.performance)
