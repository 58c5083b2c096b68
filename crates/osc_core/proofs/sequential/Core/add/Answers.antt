use Rattle.std.proofs.Common.{◌≡◌, ℕ, true, List, [], ◌∷◌, ◌++◌, map, refl, sym, ap, subst, ◌∙◌, arith}
use Rattle.osc_model.specs.Events.{add}
use Rattle.osc_model.specs.Refusals.{IsRefusal}
use Rattle.osc_model.specs.History.{state_of, onward}
use Rattle.osc_pattern.specs.Addresses.{is_address}
use Rattle.osc_core.specs.Ids.{is_ascending}
use Rattle.osc_core.proofs.Ascents.{ascending_pushed, ids_below}
use Rattle.osc_core.proofs.Staying.{heard_on, heard_more, still_alike, still_reserved, refusals_refuse}
use Rattle.osc_core.proofs.Telling.{kept_on}
use Rattle.osc_core.proofs.Texts.{stood}
use Rattle.osc_core.proofs.sequential.Core.add.Goals as goal

pub invariant_of-self : goal.invariant_of-self
invariant_of-self g c =
    let old = c.args.self.now in
    let id = c.in-Ok.id in
    let methods = (state_of old.performance).methods in
    let ids = c.keep_box.ensures.ids ∙ ap (λ (l : List ℕ). l ++ id ∷ []) old.alike in
    let ascending = subst (λ (l : List ℕ). is_ascending l ≡ true) old.alike old.ascending in
    let keeps = kept_on old.last old.performance c.add.new.self c.args.caller (add c.args.address) refl c.add.ensures.performance
    (record { within = old.within; calls = old.calls }) in
    record {
      room = old.room;
      places = old.places;
      within = keeps.within;
      calls = keeps.calls;
      alike = ids ∙ sym c.in-Ok.ensures.ids;
      ascending = subst (λ (l : List ℕ). is_ascending l ≡ true) (sym ids)
          (ascending_pushed (map (λ method. method.id) methods) id ascending (ids_below methods id c.in-Ok.ensures.new));
      heard = heard_on c.add.new.self (onward old.performance c.args.caller (add c.args.address)) _ c.add.ensures.performance
          (heard_more _ _ _ c.keep_box.ensures.boxes
          (c.boxes_hear_the_history.ensures.added old.performance c.args.caller c.args.address
          (record { id = id; keep = _; heard = _ }) _ c.add.ensures.legal old.heard c.in-Ok.ensures.added));
      reserved = still_reserved old.performance c.add.new.self (onward old.performance c.args.caller (add c.args.address)) _ c.add.ensures.performance
          (c.boxes_stay.ensures.caps old.performance c.args.caller (add c.args.address)) (omega (arith, old.reserved, c.keep_box.ensures.capacity));
    }

pub invariant_of-self-in-Err-1 : goal.invariant_of-self-in-Err-1
invariant_of-self-in-Err-1 g c =
    let old = c.args.self.now in
    let next = onward old.performance c.args.caller (add c.args.address) in
    let refused = subst IsRefusal (sym c.in-Err.ensures.refused) (refusals_refuse _) in
    let keeps = kept_on old.last old.performance c.add.new.self c.args.caller (add c.args.address) refl c.add.ensures.performance
    (record { within = old.within; calls = old.calls }) in
    record {
      room = old.room;
      places = old.places;
      within = keeps.within;
      calls = keeps.calls;
      alike = still_alike old.performance c.add.new.self next _ c.add.ensures.performance
          (c.boxes_stay.ensures.refused_methods old.performance c.args.caller (add c.args.address) refused) old.alike;
      ascending = old.ascending;
      heard = heard_on c.add.new.self next _ c.add.ensures.performance
          (c.boxes_stay.ensures.refused old.performance c.args.caller (add c.args.address) _ refused old.heard);
      reserved = still_reserved old.performance c.add.new.self next _ c.add.ensures.performance
          (c.boxes_stay.ensures.caps old.performance c.args.caller (add c.args.address)) old.reserved;
    }

pub returns-in-Ok-clause-stands : goal.returns-in-Ok-clause-stands
returns-in-Ok-clause-stands g c texts stands =
    let old = c.args.self.now.performance in
    let event = add c.args.address in
    let lawful : is_address c.args.address ≡ true = subst (λ (a : List ℕ). is_address a ≡ true) c.bytes.ensures.value c.bytes.ensures.test in
    let heard = c.boxes_hear_the_history.ensures.added old c.args.caller c.args.address
    (record { id = c.in-Ok.id; keep = _; heard = _ }) _ c.add.ensures.legal stands.heard c.in-Ok.ensures.added in
    stood _ _ _ _ _ _ c.add.ensures.performance c.keep_box.ensures.boxes
    (c.a_server_stands_for_more.ensures.more old c.args.caller event
    (record { id = c.in-Ok.id; keep = _; heard = _ }) _ texts stands c.requires lawful c.in-Ok.ensures.added heard)

pub returns-in-Err-clause-stands : goal.returns-in-Err-clause-stands
returns-in-Err-clause-stands g c texts stands =
    let old = c.args.self.now.performance in
    let event = add c.args.address in
    let lawful : is_address c.args.address ≡ true = subst (λ (a : List ℕ). is_address a ≡ true) c.bytes.ensures.value c.bytes.ensures.test in
    let refused = subst IsRefusal (sym c.in-Err.ensures.refused) (refusals_refuse _) in
    let heard = c.boxes_stay.ensures.refused old c.args.caller event _ refused stands.heard in
    stood _ _ _ _ _ _ c.add.ensures.performance refl (c.a_server_stands_for_more.ensures.same old c.args.caller event _ texts stands c.requires lawful heard)
