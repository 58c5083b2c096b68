use Rattle.std.proofs.Common.{◌<◌, ◌≤◌, not, map, All, sym, ap, subst, ◌∙◌}
use Rattle.std.proofs.lemmas.List.Elements.{All-filter}
use Rattle.std.specs.Str.{bytes_eq}
use Rattle.osc_tree.specs.Registry.{Registry}
use Rattle.osc_model.specs.State.{State}
use Rattle.osc_model.proofs.Leaving.{ids_left}
use Rattle.osc_core.specs.Ids.{without}
use Rattle.osc_core.proofs.server.Server.remove.Goals as goal

pub invariant_of-self-2 : goal.invariant_of-self-2
invariant_of-self-2 c = record {
  methods = record {
    lawful = c.remove.ensures.lawful;
    ids = subst (λ (tree : Registry). All (λ method. method.id < c.self.inside.next_id) tree.methods) (sym c.in-Ok.ensures.others)
        (All-filter (λ method. not (bytes_eq method.address c.args.address.now))
        (λ method. method.id < c.self.inside.next_id) c.self.inside.tree.methods c.self.invariant.methods.ids);
    room = subst (λ (tree : Registry). tree.method_limit ≤ c.self.inside.hits.limit) (sym c.in-Ok.ensures.others) c.self.invariant.methods.room;
  };
  units = c.self.invariant.units;
  numbers = c.self.invariant.numbers;
  few_callers = c.self.invariant.few_callers;
}

pub returns-clause-others : goal.returns-clause-others
returns-clause-others c =
    ap (λ (tree : Registry). map (λ method. method.id) tree.methods) c.in-Ok.ensures.others
    ∙ ids_left c.self.inside.tree.methods c.args.address.now c.in-Ok.id c.self.invariant.methods.lawful.list (sym c.in-Ok.ensures.read)
    ∙ ap (λ (state : State). without c.in-Ok.id (map (λ method. method.id) state.methods)) c.self.view_is
