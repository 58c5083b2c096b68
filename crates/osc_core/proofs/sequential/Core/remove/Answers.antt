use Rattle.std.proofs.Common.{◌≡◌, ℕ, true, List, map, refl, sym, ap, subst, ◌∙◌, arith}
use Rattle.osc_model.specs.Events.{remove}
use Rattle.osc_model.specs.Refusals.{IsRefusal}
use Rattle.osc_model.specs.History.{onward}
use Rattle.osc_pattern.specs.Addresses.{is_address}
use Rattle.osc_core.specs.Ids.{is_ascending, without}
use Rattle.osc_core.proofs.Ascents.{ascending_without}
use Rattle.osc_core.proofs.Staying.{heard_on, heard_more, still_alike, still_reserved}
use Rattle.osc_core.proofs.Telling.{kept_on}
use Rattle.osc_core.proofs.Texts.{stood}
use Rattle.osc_core.proofs.sequential.Core.remove.Goals as goal

pub invariant_of-self : goal.invariant_of-self
invariant_of-self g c =
    let old = c.args.self.now in
    let id = c.in-Removed.id in
    let event = remove c.args.address.now in
    let keeps = kept_on old.last old.performance c.remove.new.self c.args.caller (remove c.args.address.now) refl c.remove.ensures.performance
    (record { within = old.within; calls = old.calls }) in
    record {
      room = old.room;
      places = old.places;
      within = keeps.within;
      calls = keeps.calls;
      alike = c.hand_out.ensures.ids ∙ ap (without id) old.alike ∙ sym c.in-Removed.ensures.others;
      ascending = subst (λ (l : List ℕ). is_ascending l ≡ true) (sym c.hand_out.ensures.ids)
          (ascending_without id (map (λ one. one.0) old.boxes.items) old.ascending);
      heard = heard_on c.remove.new.self (onward old.performance c.args.caller event) _ c.remove.ensures.performance (heard_more _ _ _ c.hand_out.ensures.others
          (c.boxes_hear_the_history.ensures.removed old.performance c.args.caller id c.args.address.now _ c.remove.ensures.legal old.heard
          (sym c.in-Removed.ensures.answer)));
      reserved = still_reserved old.performance c.remove.new.self (onward old.performance c.args.caller event) _ c.remove.ensures.performance
          (c.boxes_stay.ensures.caps old.performance c.args.caller event) (omega (arith, old.reserved, c.hand_out.ensures.capacity));
    }

pub invariant_of-self-in-NotThere : goal.invariant_of-self-in-NotThere
invariant_of-self-in-NotThere g c =
    let old = c.args.self.now in
    let event = remove c.args.address.now in
    let next = onward old.performance c.args.caller event in
    let refused = subst IsRefusal c.in-NotThere.ensures.answer tt in
    let keeps = kept_on old.last old.performance c.remove.new.self c.args.caller (remove c.args.address.now) refl c.remove.ensures.performance
    (record { within = old.within; calls = old.calls }) in
    record {
      room = old.room;
      places = old.places;
      within = keeps.within;
      calls = keeps.calls;
      alike = still_alike old.performance c.remove.new.self next _ c.remove.ensures.performance
          (c.boxes_stay.ensures.refused_methods old.performance c.args.caller event refused) old.alike;
      ascending = old.ascending;
      heard = heard_on c.remove.new.self next _ c.remove.ensures.performance
          (c.boxes_stay.ensures.refused old.performance c.args.caller event _ refused old.heard);
      reserved = still_reserved old.performance c.remove.new.self next _ c.remove.ensures.performance
          (c.boxes_stay.ensures.caps old.performance c.args.caller event) old.reserved;
    }

pub returns-in-Removed-clause-stands : goal.returns-in-Removed-clause-stands
returns-in-Removed-clause-stands g c texts stands =
    let old = c.args.self.now.performance in
    let event = remove c.args.address.now in
    let lawful : is_address c.args.address.now ≡ true = subst (λ (a : List ℕ). is_address a ≡ true) c.bytes.ensures.value c.bytes.ensures.test in
    let heard = c.boxes_hear_the_history.ensures.removed old c.args.caller c.in-Removed.id c.args.address.now _ c.remove.ensures.legal stands.heard
    (sym c.in-Removed.ensures.answer) in
    stood _ _ _ _ _ _ c.remove.ensures.performance c.hand_out.ensures.others
    (c.a_server_stands_for_more.ensures.fewer old c.args.caller event c.in-Removed.id _ texts stands c.requires lawful heard)

pub returns-in-NotThere-clause-stands : goal.returns-in-NotThere-clause-stands
returns-in-NotThere-clause-stands g c texts stands =
    let old = c.args.self.now.performance in
    let event = remove c.args.address.now in
    let lawful : is_address c.args.address.now ≡ true = subst (λ (a : List ℕ). is_address a ≡ true) c.bytes.ensures.value c.bytes.ensures.test in
    let refused = subst IsRefusal c.in-NotThere.ensures.answer tt in
    let heard = c.boxes_stay.ensures.refused old c.args.caller event _ refused stands.heard in
    stood _ _ _ _ _ _ c.remove.ensures.performance refl (c.a_server_stands_for_more.ensures.same old c.args.caller event _ texts stands c.requires lawful heard)
