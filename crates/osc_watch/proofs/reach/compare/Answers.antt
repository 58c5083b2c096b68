use Rattle.std.proofs.Common.{subst, ap, List}
use mathlib.Core.List.{IsPrefix}
use Rattle.osc_watch.specs.declared.row.Edit.{Edit}
use Rattle.osc_watch.proofs.Begun.{compared}
use Rattle.osc_watch.proofs.reach.compare.Goals as goal

pub returns : goal.returns
returns c =
    let both = c.learn.new.self.log in
    let own : IsPrefix c.args.one.now.seen.log both = subst (λ (l : List Edit). IsPrefix l both) (ap (λ s. s.log) c.again-both.ensures) c.learn.ensures.2 in
    compared c.args.one.now c.args.other.now both own c.learn.ensures.3
