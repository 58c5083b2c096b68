use Rattle.std.proofs.Common.{length, sym, ap, ◌∙◌, append-nil, [], refl, arith}
use Rattle.osc_tree.proofs.Compared.{alike_here, unlike_here, ended_here, none_here, either}
use Rattle.osc_tree.proofs.Ranges.{lower}
use Rattle.osc_tree.proofs.search.is_rest_before.Goals as goal

pub loop-at-init : goal.loop-at-init
loop-at-init c = ap (lower c.args.rest.now) (sym (append-nil c.args.text.now))

pub loop-at-preserved : goal.loop-at-preserved
loop-at-preserved c =
    c.loop-at.invariant ∙ alike_here c.args.rest.now c.args.text.now [] c.loop-at.at (omega arith) (omega arith) c.if-rest-at.false

pub returns-then-rest-at : goal.returns-then-rest-at
returns-then-rest-at c =
    unlike_here c.args.rest.now c.args.text.now [] c.loop-at.at (omega arith) (omega arith) c.if-rest-at.true ∙ sym c.loop-at.invariant

pub returns : goal.returns
returns c =
    either c.min-end.result (length c.args.text.now) (lower c.args.rest.now c.args.text.now)
    (λ less. c.loop-at.invariant ∙ ended_here c.args.rest.now c.args.text.now [] c.loop-at.at (omega arith) (omega arith))
    (λ past. c.loop-at.invariant ∙ none_here c.args.rest.now c.args.text.now [] c.loop-at.at (omega arith) refl)
