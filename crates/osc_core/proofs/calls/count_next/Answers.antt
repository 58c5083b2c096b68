use Rattle.std.proofs.Common.{◌≡◌, ℕ, List, false, is_some, length, map, take, sym, ap, subst, ◌∙◌}
use Rattle.std.proofs.Math.Seq.{take-length}
use Rattle.osc_message.specs.Arguments.{unknown_of}
use Rattle.osc_message.specs.Reading.{pattern_of}
use Rattle.osc_model.specs.Calls.{call_by}
use Rattle.osc_core.proofs.Calling.{calls_by_ids}
use Rattle.osc_core.specs.Found.{AreOf}
use Rattle.osc_core.proofs.calls.count_next.Goals as goal

pub returns-clause-calls : goal.returns-clause-calls
returns-clause-calls c index =
    let message = c.args.message.now in
    let methods = c.args.tree.now.methods in
    let found = c.find_next.new.hits.ids in
    let known : is_some (unknown_of message) ≡ false = ap is_some (sym c.unknown.ensures) ∙ sym c.is_some.ensures ∙ c.if-is_some.false in
    let are : AreOf c.args.tree.now (pattern_of message) found = subst (λ (p : List ℕ). AreOf c.args.tree.now p found) c.pattern-pattern.ensures c.find_next.ensures.found in
    let whole : take (length c.ids.result.now) found ≡ found = ap (λ (l : List ℕ). take (length l) found) c.ids.ensures ∙ take-length found in
    ap (map (call_by methods index message)) (whole ∙ are.are) ∙ calls_by_ids methods index message known are.named
