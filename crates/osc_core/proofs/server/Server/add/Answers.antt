use Rattle.std.proofs.Common.{◌≡◌, ◌++◌, ◌∷◌, [], Some, sym, subst}
use Rattle.std.proofs.lemmas.List.Elements.{Contains-push}
use Rattle.osc_pattern.specs.Methods.{Method, IsMethodList}
use Rattle.osc_tree.specs.Registry.{Registry, address_by_id}
use Rattle.osc_core.proofs.server.Server.add.Goals as goal

pub returns-in-Ok-clause-found : goal.returns-in-Ok-clause-found
returns-in-Ok-clause-found c =
    let id = c.self.inside.next_id in
    let method : Method = record { id = id; address = c.args.address } in
    let methods = c.self.inside.tree.methods ++ method ∷ [] in
    let list = subst (λ (tree : Registry). IsMethodList tree.methods) c.in-Ok.ensures.added c.add.ensures.lawful.list in
    subst (λ (tree : Registry). address_by_id tree.methods id ≡ Some c.args.address) (sym c.in-Ok.ensures.added)
    (c.methods_stay_lawful.ensures.found methods method list (Contains-push c.self.inside.tree.methods method))
