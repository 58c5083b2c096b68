use Rattle.std.proofs.Common.{List, ◌≡◌, ◌≢◌, ◌==◌, Some, None, find, is_some, refl, sym, ap, subst, ◌∙◌}
use Rattle.std.specs.Option.{option_map, option_copied}
use Rattle.osc_tree.specs.declared.registered.Registered.{Registered}
use Rattle.osc_pattern.specs.Methods.{IsMethodList}
use Rattle.osc_tree.specs.Views.{methods_of}
use Rattle.osc_tree.specs.Registry.{Registry, IsAt, IsNewId, address_by_id}
use Rattle.osc_tree.proofs.Lines.{all_at, no_such_id, such_id, address_by_id-of}
use Rattle.osc_tree.proofs.tree.Tree.address_of.Goals as goal

pub returns-in_err-with_id-clause-none : goal.returns-in_err-with_id-clause-none
returns-in_err-with_id-clause-none c =
    let none : find (λ method. method.id == c.args.id) c.self.inside.methods.items ≡ None =
    ap (find (λ method. method.id == c.args.id)) (sym c.deref.ensures.value) ∙ sym c.with_id.ensures ∙ ap option_copied c.in_err-with_id.was in (
      λ _. subst (λ (tree : Registry). IsNewId tree.methods c.args.id) c.self.view_is (no_such_id c.self.inside.methods.items c.args.id none),
      λ _. ap is_some c.from_residual.ensures,
    )

pub returns-in_err-with_id-clause-read : goal.returns-in_err-with_id-clause-read
returns-in_err-with_id-clause-read c =
    ap option_copied c.from_residual.ensures
    ∙ ap (option_map (λ (method : Registered). method.address))
    (sym (ap (find (λ method. method.id == c.args.id)) (sym c.deref.ensures.value) ∙ sym c.with_id.ensures ∙ ap option_copied c.in_err-with_id.was))
    ∙ sym (address_by_id-of c.self.inside.methods.items c.args.id)
    ∙ ap (λ tree. address_by_id tree.methods c.args.id) c.self.view_is

pub returns-clause-found : goal.returns-clause-found
returns-clause-found c =
    let found : find (λ method. method.id == c.args.id) c.self.inside.methods.items ≡ Some c.in_ok-with_id.field-0.now =
    ap (find (λ method. method.id == c.args.id)) (sym c.deref.ensures.value) ∙ sym c.with_id.ensures ∙ ap option_copied c.in_ok-with_id.was in
    subst (λ (tree : Registry). IsAt tree.methods c.args.id c.in_ok-with_id.field-0.now.address) c.self.view_is
    (such_id c.self.inside.methods.items c.args.id c.in_ok-with_id.field-0.now found)

pub returns-clause-none : goal.returns-clause-none
returns-clause-none c = (
  λ clash. absurd (cc),
  λ new.
      absurd (all_at (λ method. method.id ≢ c.args.id) c.args.self.now.methods c.args.id c.in_ok-with_id.field-0.now.address new (returns-clause-found c) refl),
)

pub returns-clause-read : goal.returns-clause-read
returns-clause-read c =
    ap (option_map (λ (method : Registered). method.address))
    (sym (ap (find (λ method. method.id == c.args.id)) (sym c.deref.ensures.value) ∙ sym c.with_id.ensures ∙ ap option_copied c.in_ok-with_id.was))
    ∙ sym (address_by_id-of c.self.inside.methods.items c.args.id)
    ∙ ap (λ tree. address_by_id tree.methods c.args.id) c.self.view_is

pub with_id-requires : goal.with_id-requires
with_id-requires c = subst (λ (l : List Registered). IsMethodList (methods_of l)) (sym c.deref.ensures.value) c.self.invariant.kept.list
