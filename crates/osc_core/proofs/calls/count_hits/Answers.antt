use Rattle.std.proofs.Common.{◌≡◌, ℕ, List, false, is_some, Some, All, length, map, take, sym, ap, subst, ◌∙◌}
use Rattle.std.proofs.Math.Seq.{take-length}
use Rattle.osc_message.specs.Arguments.{unknown_of}
use Rattle.osc_tree.specs.Registry.{address_by_id}
use Rattle.osc_tree.specs.Matching.{matching, matching_ids}
use Rattle.osc_model.specs.Calls.{call_by}
use Rattle.osc_core.proofs.Calling.{calls_by_ids}
use Rattle.osc_core.proofs.calls.count_hits.Goals as goal

pub returns-clause-calls : goal.returns-clause-calls
returns-clause-calls c index =
    let message = c.args.message.now in
    let methods = c.args.tree.now.methods in
    let found = c.find.new.hits.ids in
    let known : is_some (unknown_of message) ≡ false = ap is_some (sym c.unknown.ensures) ∙ sym c.is_some.ensures ∙ c.if-is_some.false in
    let own = subst (λ (p : List ℕ). All (λ method. address_by_id methods method.id ≡ Some method.address) (matching p methods))
    c.pattern.ensures c.find.ensures.named in
    let whole : take (length c.ids.result.now) found ≡ found = ap (λ (l : List ℕ). take (length l) found) c.ids.ensures ∙ take-length found in
    ap (map (call_by methods index message)) (whole ∙ c.find.ensures.ids ∙ ap (λ (p : List ℕ). matching_ids p methods) c.pattern.ensures)
    ∙ calls_by_ids methods index message known own
