use Rattle.std.proofs.Common.{ap, subst, ◌∙◌}
use Rattle.osc_life.specs.Holders.{Holder, holder_at, seen_by}
use Rattle.osc_life.proofs.Finishing.{zeroth}
use Rattle.osc_life.proofs.life.Life.play_first.Goals as goal
use Rattle.osc_life.proofs.life.Life.play_first.Goals.{In_ok-caller}

played : (g : _) (c : In_ok-caller g)
    → g.P.Worker.plays c.args.work c.in_ok-caller.field-0.end (holder_at c.args.self.live.caps 0) (seen_by c.args.self.first)
    (seen_by c.in_ok-caller.field-0.caller)
played g c =
    let first = c.args.self.first in
    subst (λ (h : Holder). g.P.Worker.plays c.args.work c.in_ok-caller.field-0.end h (seen_by first) (seen_by c.in_ok-caller.field-0.caller))
    (zeroth c.args.self.live.caps first c.requires.whole.number c.requires.whole.counted.token) c.in_ok-caller.ensures.done.played

pub returns-clause-played : goal.returns-clause-played
returns-clause-played g c = played g (goal.at.returns-clause-played g c).In_ok-caller

pub returns-clause-whole : goal.returns-clause-whole
returns-clause-whole g c =
    let at = (goal.at.returns-clause-whole g c).In_ok-caller in
    let whole = c.requires.whole in
    let done = c.in_ok-caller.ensures.done in
    let first = c.args.self.first in
    let after = c.in_ok-caller.field-0.caller in
    let none = c.requires.enrols_none c.in_ok-caller.field-0.end (seen_by first) (seen_by after) (played g at) in
    record {
      ours = c.in_ok-caller.ensures.ours;
      others_ours = whole.others_ours;
      number = ap (λ (h : Holder). h.caller) done.holder ∙ whole.number;
      counted = record {
        token = ap (λ (h : Holder). h.token) done.holder ∙ whole.counted.token;
        made_is = done.made ∙ whole.counted.made_is;
        counted = λ alone. (none alone).1 ∙ whole.counted.counted (none alone).0;
      };
      old = whole.old;
    }
