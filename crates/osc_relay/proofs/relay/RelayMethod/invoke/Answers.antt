use Rattle.std.proofs.Common.{◌≡◌, ℕ, List, ◌++◌, length, take, map, All, Option, Some, sym, ap, ◌∙◌, subst, arith}
use Rattle.std.specs.List.{AllZip}
use Rattle.std.specs.Option.{option_map}
use Rattle.std.specs.Vec.{with_items}
use Rattle.std.proofs.lemmas.List.{with_items_is}
use Rattle.osc_atoms.specs.Atoms.{string}
use Rattle.osc_method.specs.Heard.{Fixed}
use Rattle.osc_relay.specs.Outlets.{Takes}
use Rattle.osc_relay.specs.Relayed.{relayed, within}
use Rattle.osc_relay.specs.Sent.{Called, HasRelayed}
use Rattle.osc_relay.proofs.EachOutlet.{all_kept}
use Rattle.osc_relay.proofs.Relaying.{each_relayed_more}
use Rattle.osc_relay.proofs.relay.RelayMethod.invoke.Goals as goal

pub invariant_of-self : goal.invariant_of-self
invariant_of-self g c =
    let old = c.args.self.now in
    let call : Called = record { unit = c.args.call.now.unit; index = c.args.call.now.index; message = c.args.call.now.message } in
    let space : (with_items old.space c.put_after-end.new.space).items ≡ c.put_after-end.new.space =
    with_items_is old.space c.put_after-end.new.space (omega arith) in
    let outlets : (with_items old.outlets c.send_each.new.outlets).items ≡ c.send_each.new.outlets =
    with_items_is old.outlets c.send_each.new.outlets (omega arith) in
    let datagram : Option (List ℕ) = option_map (λ (end : ℕ). take end c.deref.result.now) c.put_after-end.result in
    let fitting : datagram ≡ within (length old.space.items) (relayed old.address c.args.call.now.message) =
    ap (λ (l : List ℕ). option_map (λ (end : ℕ). take end l) c.put_after-end.result) (c.deref.ensures.value ∙ space)
    ∙ c.put_after-end.ensures.put
    ∙ ap (λ (l : List ℕ). within (length l) (take old.start l ++ c.after_pattern.result.now)) c.deref_mut.ensures.value
    ∙ ap (λ (l : List ℕ). within (length old.space.items) (l ++ c.after_pattern.result.now)) old.written
    ∙ ap (λ (l : List ℕ). within (length old.space.items) (string old.address ++ l)) c.after_pattern.ensures.rest in
    let takes : AllZip (Takes g.O.Outlet.sent g.O.Outlet.losses g.O.Outlet.tries g.O.Outlet.mark datagram) old.outlets.items c.send_each.new.outlets =
    subst (λ (l : List g.row.O.Denot). AllZip (Takes g.O.Outlet.sent g.O.Outlet.losses g.O.Outlet.tries g.O.Outlet.mark datagram) l c.send_each.new.outlets) c.deref_mut-2.ensures.value
    c.send_each.ensures in
    let rooms : length (with_items old.space c.put_after-end.new.space).items ≡ length old.space.items =
    ap length space ∙ c.put_after-end.ensures.same ∙ ap length c.deref_mut.ensures.value in
    record {
      within = old.within;
      written = ap (take old.start) space ∙ c.put_after-end.ensures.start ∙ ap (take old.start) c.deref_mut.ensures.value ∙ old.written;
      relayed = subst (λ (l : List g.row.O.Denot). All (λ outlet. ∥ HasRelayed old.address (length (with_items old.space c.put_after-end.new.space).items)
          c.invoke.new.self.bytes.capacity (Some c.invoke.new.self.bytes.items) (g.O.Outlet.sent outlet) (g.O.Outlet.losses outlet) ∥₁) l) (sym outlets)
          (each_relayed_more g.O.Outlet.sent g.O.Outlet.losses g.O.Outlet.tries g.O.Outlet.mark old.address (length old.space.items)
          (length (with_items old.space c.put_after-end.new.space).items) old.trace.bytes.capacity c.invoke.new.self.bytes.capacity call
          (Some old.trace.bytes.items) (Some c.invoke.new.self.bytes.items) datagram old.outlets.items c.send_each.new.outlets
          c.after_pattern.ensures.short rooms (ap (λ (k : Fixed). k.most) c.invoke.ensures.keep) c.invoke.ensures.heard fitting takes old.relayed);
    }

pub returns-clause-marks : goal.returns-clause-marks
returns-clause-marks g c =
    let old = c.args.self.now in
    let datagram : Option (List ℕ) = option_map (λ (end : ℕ). take end c.deref.result.now) c.put_after-end.result in
    ap (map g.O.Outlet.mark) (with_items_is old.outlets c.send_each.new.outlets (omega arith))
    ∙ all_kept (Takes g.O.Outlet.sent g.O.Outlet.losses g.O.Outlet.tries g.O.Outlet.mark datagram) g.O.Outlet.mark (λ before after takes. takes.has_mark)
    c.deref_mut-2.result.now c.send_each.new.outlets c.send_each.ensures
    ∙ ap (map g.O.Outlet.mark) c.deref_mut-2.ensures.value
