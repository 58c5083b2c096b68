use Rattle.std.proofs.Common.{◌≡◌, ◌++◌, List, ℕ, [], false, is_some, OnOk, All, map, subst, sym, ap, ◌∙◌, IsSome}
use Rattle.std.proofs.lemmas.Bool.{cond-false}
use Rattle.osc_message.specs.Arguments.{unknown_of}
use Rattle.osc_tree.specs.Registry.{address_by_id}
use Rattle.osc_tree.specs.Matching.{matching, matching_ids}
use Rattle.osc_model.specs.Events.{Call}
use Rattle.osc_model.specs.Step.{calls_of, matching_calls}
use Rattle.osc_replay.specs.Calls.{hits_bytes, call_lines}
use Rattle.osc_model.specs.Calls.{call_by}
use Rattle.osc_model.proofs.ByIds.{named, called}
use Rattle.osc_replay.proofs.calls.push_calls.Goals as goal

pub push_hits-requires : goal.push_hits-requires
push_hits-requires c =
    let ids : c.ids.result.now ≡ matching_ids c.pattern.result c.args.tree.now.methods = c.ids.ensures ∙ c.find.ensures.ids in
    subst (λ (l : List ℕ). All (λ id. IsSome (address_by_id c.args.tree.now.methods id)) l) (sym ids)
    (named c.args.tree.now.methods (matching c.pattern.result c.args.tree.now.methods) c.find.ensures.named)

-- the calls by ids are those of the message
calls_are : (c : goal.After-push_hits) → map (call_by c.args.tree.now.methods c.args.index c.args.message) c.ids.result.now
    ≡ calls_of c.args.tree.now.methods c.args.index c.args.message
calls_are c =
    let methods = c.args.tree.now.methods in
    let message = c.args.message in
    let known : is_some (unknown_of message) ≡ false = ap is_some (sym c.unknown.ensures) ∙ sym c.is_some.ensures ∙ c.if-is_some.false in
    ap (map (call_by methods c.args.index message)) (c.ids.ensures ∙ c.find.ensures.ids)
    ∙ called methods (matching c.pattern.result methods) c.args.index message c.find.ensures.named
    ∙ ap (λ (p : List ℕ). map (λ method. record { index = c.args.index; id = method.id; address = method.address; message = message }) (matching p methods))
    c.pattern.ensures
    ∙ sym (cond-false (is_some (unknown_of message)) [] (matching_calls methods c.args.index message) known)

pub returns-clause-hits : goal.returns-clause-hits
returns-clause-hits c =
    subst (λ (l : List Call). OnOk c.push_hits.result (c.push_hits.new.calls.hits.items ≡ c.args.calls.now.hits.items ++ hits_bytes l))
    (calls_are c) c.push_hits.ensures.hits

pub returns-clause-lines : goal.returns-clause-lines
returns-clause-lines c =
    subst (λ (l : List Call). OnOk c.push_hits.result
    (c.push_hits.new.calls.lines ≡ c.args.calls.now.lines ++ call_lines c.args.calls.now.prints c.args.unit l))
    (calls_are c) c.push_hits.ensures.lines
