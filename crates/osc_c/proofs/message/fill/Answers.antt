use Rattle.std.proofs.Common.{◌≡◌, List, [], ◌∙◌, ap, sym, rules}
use Rattle.osc_message.specs.Messages.{Argument}
use Rattle.osc_message.specs.Left.{left}
use Rattle.osc_c.specs.Arguments.{arguments_at, put_from}
use Rattle.osc_c.proofs.Overs.{put_all}
use Rattle.osc_c.proofs.message.fill.Goals as goal

pub returns-clause-arguments : goal.returns-clause-arguments
returns-clause-arguments c =
    let l = c.loop-argument in
    let none : left l.argument-iterator ≡ [] = search rules in
    ap (λ (xs : List Argument). put_from l.arguments l.count (arguments_at l.place xs)) (sym none)
    ∙ l.invariant.written ∙ put_all c.args.arguments.now (arguments_at c.args.place (left c.args.args))
