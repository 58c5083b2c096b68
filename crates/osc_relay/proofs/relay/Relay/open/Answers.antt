use Rattle.std.proofs.Common.{◌≡◌, List, length, take, All, Some, sym, ap, ◌∙◌, subst, arith}
use Rattle.std.specs.List.{AllZip}
use Rattle.std.specs.Vec.{with_items}
use Rattle.std.proofs.lemmas.List.{with_items_is}
use Rattle.osc_atoms.specs.Atoms.{string}
use Rattle.osc_relay.specs.Outlets.{IsReset}
use Rattle.osc_relay.specs.Sent.{HasRelayed}
use Rattle.osc_relay.proofs.Relaying.{each_relayed_none}
use Rattle.osc_relay.proofs.relay.Relay.open.Goals as goal

pub invariant_of-result-clause-relayed : goal.invariant_of-result-clause-relayed
invariant_of-result-clause-relayed g c =
    let trace = c.in_ok-open.field-0 in
    let room = length (with_items c.in_ok-space.space c.write_start-start.new.space).items in
    let outlets : (with_items c.args.outlets c.reset_each.new.outlets).items ≡ c.reset_each.new.outlets =
    with_items_is c.args.outlets c.reset_each.new.outlets (omega arith) in
    let resets : AllZip (IsReset g.O.Outlet.sent g.O.Outlet.losses g.O.Outlet.tries g.O.Outlet.mark) c.args.outlets.items c.reset_each.new.outlets =
    subst (λ (l : List g.row.O.Denot). AllZip (IsReset g.O.Outlet.sent g.O.Outlet.losses g.O.Outlet.tries g.O.Outlet.mark) l c.reset_each.new.outlets) c.deref_mut.ensures.value
    c.reset_each.ensures in
    subst (λ (l : List g.row.O.Denot). All (λ outlet. ∥ HasRelayed c.args.address room trace.bytes.capacity (Some trace.bytes.items)
    (g.O.Outlet.sent outlet) (g.O.Outlet.losses outlet) ∥₁) l) (sym outlets)
    (each_relayed_none g.O.Outlet.sent g.O.Outlet.losses g.O.Outlet.tries g.O.Outlet.mark c.args.address room trace.bytes.capacity (Some trace.bytes.items)
    c.args.outlets.items c.reset_each.new.outlets c.in_ok-open.ensures.heard resets)

pub invariant_of-result-clause-written : goal.invariant_of-result-clause-written
invariant_of-result-clause-written g c =
    ap (take c.write_start-start.result) (with_items_is c.in_ok-space.space c.write_start-start.new.space (omega arith)) ∙ c.write_start-start.ensures.start
    ∙ ap string c.bytes.ensures.value
