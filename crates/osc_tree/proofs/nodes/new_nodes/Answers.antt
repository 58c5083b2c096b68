use Rattle.std.proofs.Common.{◌≡◌, ℕ, ◌-◌, max, List, length, sym, ap, subst, ◌∙◌, arith}
use Rattle.std.specs.List.{slice_split}
use Rattle.osc_pattern.specs.Items.{is_slash}
use Rattle.osc_pattern.specs.Patterns.{parts_of}
use Rattle.osc_pattern.specs.Methods.{Method}
use Rattle.osc_tree.specs.Order.{IsSearched, ordered}
use Rattle.osc_tree.specs.Views.{methods_of, methods_at}
use Rattle.osc_tree.specs.Walking.{shared_at, shared_before}
use Rattle.osc_tree.proofs.Neighbours.{near_most, new_nodes_beside}
use Rattle.osc_tree.proofs.nodes.new_nodes.Goals as goal

pub overflow_sub-result : goal.overflow_sub-result
overflow_sub-result c =
    let names = slice_split is_slash c.names_of-names.result.now in
    let all = methods_at c.args.methods.now c.args.places.now in
    let most = near_most all names c.args.at in
    omega (arith, c.max.ensures, c.shared_before-before.ensures.count, c.shared_at-after.ensures.count, c.count_names.ensures.count)

pub overflow_cast-result : goal.overflow_cast-result
overflow_cast-result c =
    let few = c.names_of-names.ensures.lawful.few in
    omega (arith, c.count_names.ensures.count, ap length c.names_of-names.ensures.parts)

pub returns : goal.returns
returns c =
    let registered = c.args.methods.now in
    let at = c.args.at in
    let all = ordered (methods_of registered) in
    let parts = parts_of c.args.address.now in
    let before : c.shared_before-before.result ≡ shared_before all parts at =
    c.shared_before-before.ensures.count ∙ ap (λ l. shared_before (methods_at registered c.args.places.now) l at) c.names_of-names.ensures.parts
    ∙ ap (λ l. shared_before l parts at) c.requires.order.all in
    let after : c.shared_at-after.result ≡ shared_at all parts at =
    c.shared_at-after.ensures.count ∙ ap (λ l. shared_at (methods_at registered c.args.places.now) l at) c.names_of-names.ensures.parts
    ∙ ap (λ l. shared_at l parts at) c.requires.order.all in
    let so : IsSearched c.args.address.now all at at =
    subst (λ (l : List Method). IsSearched c.args.address.now l at at) c.requires.order.all c.requires.searched in
    let long = c.count_names.ensures.count ∙ ap length c.names_of-names.ensures.parts in
    let near : c.max.result ≡ max (shared_before all parts at) (shared_at all parts at) =
    c.max.ensures ∙ ap (λ (n : ℕ). max n c.shared_at-after.result) before ∙ ap (max (shared_before all parts at)) after in
    ap (λ (n : ℕ). n - c.max.result) long ∙ ap (λ (n : ℕ). length parts - n) near
    ∙ sym (new_nodes_beside (methods_of registered) c.args.address.now at c.requires.list c.names_of-names.ensures.lawful.slash c.requires.apart so)
