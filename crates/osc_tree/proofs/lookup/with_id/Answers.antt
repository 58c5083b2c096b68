use Rattle.std.proofs.Common.{◌≡◌, Some, get_or, sym, ap, ◌∙◌}
use Rattle.osc_tree.specs.declared.registered.Registered.{Registered}
use Rattle.osc_tree.proofs.Lines.{found_there}
use Rattle.osc_tree.proofs.lookup.with_id.Goals as goal

pub returns-in-Some : goal.returns-in-Some
returns-in-Some c =
    let methods = c.args.methods.now in
    let method = c.in-Some.method.now in
    let found = c.in-Some.ensures.lookup in
    let here : method ≡ get_or methods c.args.id method = found.1 in
    ap (λ (m : Registered). Some m) here
    ∙ sym (found_there methods c.args.id c.args.id method c.requires found.3.0 (ap (λ (m : Registered). m.id) (sym here) ∙ c.if-method-id.true))
