use Rattle.std.proofs.Common.{subst}
use Rattle.osc_model.specs.Refusals.{IsRefusal}
use Rattle.osc_model.specs.History.{onward}
use Rattle.osc_record.specs.Shown.{event_of}
use Rattle.osc_core.proofs.Staying.{heard_on, still_alike, still_reserved}
use Rattle.osc_core.proofs.Telling.{kept_on, no_release}
use Rattle.osc_core.proofs.sequential.Core.refuse.Goals as goal

pub invariant_of-self : goal.invariant_of-self
invariant_of-self g c =
    let old = c.args.self.now in
    let event = event_of c.args.event in
    let next = onward old.performance c.args.caller event in
    let refused = subst IsRefusal c.requires.answer c.requires.refusal in
    let keeps = kept_on old.last old.performance c.refuse.new.self c.args.caller event (no_release event c.requires.no_release) c.refuse.ensures.performance
    (record { within = old.within; calls = old.calls }) in
    record {
      room = old.room;
      places = old.places;
      within = keeps.within;
      calls = keeps.calls;
      alike = still_alike old.performance c.refuse.new.self next _ c.refuse.ensures.performance
          (c.boxes_stay.ensures.refused_methods old.performance c.args.caller event refused) old.alike;
      ascending = old.ascending;
      heard = heard_on c.refuse.new.self next _ c.refuse.ensures.performance
          (c.boxes_stay.ensures.refused old.performance c.args.caller event _ refused old.heard);
      reserved = still_reserved old.performance c.refuse.new.self next _ c.refuse.ensures.performance
          (c.boxes_stay.ensures.caps old.performance c.args.caller event) old.reserved;
    }
