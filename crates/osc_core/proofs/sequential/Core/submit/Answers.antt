use Rattle.std.proofs.Common.{refl}
use Rattle.osc_model.specs.Events.{submit}
use Rattle.osc_model.specs.History.{onward}
use Rattle.osc_core.proofs.Staying.{heard_on, still_alike, still_reserved}
use Rattle.osc_core.proofs.Telling.{kept_on}
use Rattle.osc_core.proofs.Texts.{stood}
use Rattle.osc_core.proofs.sequential.Core.submit.Goals as goal

pub invariant_of-self : goal.invariant_of-self
invariant_of-self g c =
    let old = c.args.self.now in
    let next = onward old.performance c.args.caller (submit c.args.packet.now) in
    let keeps = kept_on old.last old.performance c.submit.new.self c.args.caller (submit c.args.packet.now) refl c.submit.ensures.performance
    (record { within = old.within; calls = old.calls }) in
    record {
      room = old.room;
      places = old.places;
      within = keeps.within;
      calls = keeps.calls;
      alike = still_alike old.performance c.submit.new.self next _ c.submit.ensures.performance
          (c.boxes_stay.ensures.quiet_methods old.performance c.args.caller (submit c.args.packet.now) tt) old.alike;
      ascending = old.ascending;
      heard = heard_on c.submit.new.self next _ c.submit.ensures.performance
          (c.boxes_stay.ensures.quiet old.performance c.args.caller (submit c.args.packet.now) _ tt old.heard);
      reserved = still_reserved old.performance c.submit.new.self next _ c.submit.ensures.performance
          (c.boxes_stay.ensures.caps old.performance c.args.caller (submit c.args.packet.now)) old.reserved;
    }

pub returns-clause-stands : goal.returns-clause-stands
returns-clause-stands g c texts stands =
    let old = c.args.self.now.performance in
    let event = submit c.args.packet.now in
    let heard = c.boxes_stay.ensures.quiet old c.args.caller event _ tt stands.heard in
    stood _ _ _ _ _ _ c.submit.ensures.performance refl
    (c.a_server_stands_for_more.ensures.same old c.args.caller event _ texts stands c.requires c.bytes.ensures.read heard)
