use Rattle.std.proofs.Common.{map, get_or, All, sym, ap, subst, ◌∙◌}
use Rattle.osc_turn.specs.declared.view.View.{View}
use Rattle.osc_turn.specs.Passes.{view}
use Rattle.osc_turn.proofs.Histories.{starts_on}
use Rattle.osc_live.specs.Closing.{known}
use Rattle.osc_life.specs.Holders.{Holder, seen_by}
use Rattle.osc_life.proofs.Finishing.{all_told, same_holder}
use Rattle.osc_life.proofs.Learning.{HasHeard}
use Rattle.osc_life.proofs.beside.last_round.Goals as goal

pub returns : goal.returns
returns g c =
    let caps = c.args.desk.now.live.now.caps in
    let first = c.args.crew.first in
    let next = c.in_ok-first.first in
    let last = c.last-caller.result.caller in
    let end = c.last-caller.result.end in
    let callers = c.args.crew.callers.items in
    let back = c.in_ok-first.callers.items in
    let learns = c.in_ok-first.ensures in
    let ends = c.last-caller.ensures in
    let tokens = map seen_by callers in
    let holder = same_holder caps first next learns.number learns.learns in
    let was = c.args.on.now in
    let now = c.last-caller.new.on in
    let heard : All (HasHeard (seen_by next)) (known callers) = subst (All (HasHeard (seen_by next))) learns.same learns.told in
    record {
      ours = ends.ours;
      others_ours = learns.others_ours;
      holder = ends.holder ∙ holder;
      made = ends.made ∙ ap (λ (v : View). v.made) learns.learns.same;
      starts = starts_on (seen_by last) (seen_by next) (seen_by first) ends.starts learns.learns.goes_on;
      same = learns.same;
      told = λ k d within. starts_on (seen_by last) (seen_by next) (get_or (known callers) k d).1.seen ends.starts (heard k d within);
      ended = λ before v played.
          subst (λ (h : Holder). g.T.Meanwhile.ends before now end h tokens v (view last.pass)) holder
          (ends.ended before v (view first.pass) tokens
          (subst (λ (h : Holder). g.T.Meanwhile.rounds before was c.args.meanwhile h v (view first.pass)) (sym holder) played) learns.learns
          (all_told (seen_by next) back callers learns.same learns.told));
    }
