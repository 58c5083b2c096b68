use Rattle.std.proofs.Common.{◌≡◌, ℕ, List, length, map, All, Some, sym, ap, ◌∙◌, subst, arith}
use Rattle.std.specs.List.{AllZip}
use Rattle.std.specs.Vec.{with_items}
use Rattle.std.proofs.lemmas.List.{with_items_is}
use Rattle.osc_relay.specs.Outlets.{IsReset}
use Rattle.osc_relay.specs.Sent.{HasRelayed}
use Rattle.osc_method.specs.Heard.{Fixed}
use Rattle.osc_relay.proofs.EachOutlet.{all_kept}
use Rattle.osc_relay.proofs.Relaying.{each_relayed_reset}
use Rattle.osc_relay.proofs.relay.RelayMethod.reset.Goals as goal

pub invariant_of-self : goal.invariant_of-self
invariant_of-self g c =
    let old = c.args.self.now in
    let outlets : (with_items old.outlets c.reset_each.new.outlets).items ≡ c.reset_each.new.outlets =
    with_items_is old.outlets c.reset_each.new.outlets (omega arith) in
    let resets : AllZip (IsReset g.O.Outlet.sent g.O.Outlet.losses g.O.Outlet.tries g.O.Outlet.mark) old.outlets.items c.reset_each.new.outlets =
    subst (λ (l : List g.row.O.Denot). AllZip (IsReset g.O.Outlet.sent g.O.Outlet.losses g.O.Outlet.tries g.O.Outlet.mark) l c.reset_each.new.outlets) c.deref_mut.ensures.value
    c.reset_each.ensures in
    record {
      within = old.within;
      written = old.written;
      relayed = subst (λ (l : List g.row.O.Denot). All (λ outlet. ∥ HasRelayed old.address (length old.space.items) c.reset.new.self.bytes.capacity
          (Some c.reset.new.self.bytes.items) (g.O.Outlet.sent outlet) (g.O.Outlet.losses outlet) ∥₁) l) (sym outlets)
          (each_relayed_reset g.O.Outlet.sent g.O.Outlet.losses g.O.Outlet.tries g.O.Outlet.mark old.address (length old.space.items) old.trace.bytes.capacity
          c.reset.new.self.bytes.capacity (Some old.trace.bytes.items) (Some c.reset.new.self.bytes.items) old.outlets.items
          c.reset_each.new.outlets c.reset.ensures.heard old.relayed resets);
    }

pub returns-clause-keep : goal.returns-clause-keep
returns-clause-keep g c =
    let old = c.args.self.now in
    let kept : Fixed → Fixed = λ (k : Fixed). record { most = k.most; name = old.address; outlets = map g.O.Outlet.mark (with_items old.outlets c.reset_each.new.outlets).items } in
    let marks : map g.O.Outlet.mark (with_items old.outlets c.reset_each.new.outlets).items ≡ map g.O.Outlet.mark old.outlets.items =
    ap (map g.O.Outlet.mark) (with_items_is old.outlets c.reset_each.new.outlets (omega arith))
    ∙ all_kept (IsReset g.O.Outlet.sent g.O.Outlet.losses g.O.Outlet.tries g.O.Outlet.mark) g.O.Outlet.mark (λ before after reset. reset.same_mark)
    c.deref_mut.result.now c.reset_each.new.outlets c.reset_each.ensures
    ∙ ap (map g.O.Outlet.mark) c.deref_mut.ensures.value in
    ap kept c.reset.ensures.keep
    ∙ ap (λ (all : List (List ℕ)). record { most = old.trace.bytes.capacity; name = old.address; outlets = all }) marks
