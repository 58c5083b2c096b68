use Rattle.std.proofs.Common.{◌≡◌, ℕ, ◌+◌, ◌*◌, ◌≤◌, List, true, length, sym, ap, subst, ◌∙◌, arith, vec_capacity}
use Rattle.osc_core.specs.Answers.{OnReleased}
use Rattle.osc_core.specs.Frames.{AreFramed}
use Rattle.osc_core.specs.Ids.{is_ascending}
use Rattle.osc_core.specs.declared.answers.Releasing.{Releasing}
use Rattle.osc_core.specs.declared.release.LastRelease.{LastRelease}
use Rattle.osc_core.proofs.Staying.{heard_on, heard_more, still_alike, still_reserved}
use Rattle.osc_core.proofs.Telling.{kept_release, kept_waiting, waits_for, hits_fit}
use Rattle.osc_core.proofs.Texts.{stood}
use Rattle.osc_model.specs.Events.{release}
use Rattle.osc_model.specs.History.{stepped_in, onward}
use Rattle.osc_core.proofs.sequential.Core.release.Goals as goal

pub note-requires-clause-framed : goal.note-requires-clause-framed
note-requires-clause-framed g c =
    let made = c.release-releasing in
    subst (λ (a : Releasing). OnReleased a (λ unit. AreFramed made.new.messages.items)) c.in-Released.is made.ensures.framed

pub note-requires-clause-within : goal.note-requires-clause-within
note-requires-clause-within g c =
    let made = c.release-releasing in
    omega (
      arith,
      hits_fit made.result c.args.self.now.performance made.new.self c.args.caller c.in-Released.unit c.in-Released.calls c.in-Released.is
          made.ensures.answer made.ensures.performance,
      ap length c.bytes-2.ensures.text,
    )

pub invariant_of-self : goal.invariant_of-self
invariant_of-self g c =
    let old = c.args.self.now in
    let made = c.release-releasing in
    let next = made.new.self in
    let later : LastRelease = record old.last { bytes = made.new.messages } in
    let same = waits_for {P = made.new.messages ≡ old.last.bytes} {Q = later ≡ old.last} made.result (λ e i. record old.last { bytes = e i }) made.ensures.kept in
    let keeps = kept_waiting made.result old.last later old.performance next c.args.caller c.in_default.not-Released made.ensures.answer same
    made.ensures.performance (record { within = old.within; calls = old.calls }) in
    record {
      room = made.ensures.reserved;
      places = old.places;
      within = keeps.within;
      calls = keeps.calls;
      alike = still_alike old.performance next (onward old.performance c.args.caller release) _ made.ensures.performance
          (c.boxes_stay.ensures.release_methods old.performance c.args.caller) (made.ensures.ids ∙ old.alike);
      ascending = subst (λ (l : List ℕ). is_ascending l ≡ true) (sym made.ensures.ids) old.ascending;
      heard = heard_on next _ _ made.ensures.performance
          (heard_more _ _ _ made.ensures.boxes (c.boxes_hear_the_history.ensures.released old.performance c.args.caller _ old.heard));
      reserved = still_reserved old.performance next (onward old.performance c.args.caller release) _ made.ensures.performance
          (c.boxes_stay.ensures.caps old.performance c.args.caller release) (omega (arith, old.reserved, made.ensures.capacity));
    }

pub invariant_of-self-2 : goal.invariant_of-self-2
invariant_of-self-2 g c =
    let old = c.args.self.now in
    let made = c.release-releasing in
    let next = made.new.self in
    let keeps = kept_release made.result c.note.new.self c.in-Released.unit c.in-Released.calls made.new.messages.items old.performance next c.args.caller
    c.in-Released.is made.ensures.answer made.ensures.messages made.ensures.framed made.ensures.performance
    (λ adds. c.a_legal_history_is_recordable.ensures.next old.performance c.args.caller release c.bytes.ensures.legal c.requires tt adds)
    c.note.ensures.unit c.note.ensures.calls (λ i. (c.note.ensures.bytes i).items) c.note.ensures.starts
    (c.note.ensures.place ∙ ap length c.bytes-2.ensures.text) in
    record {
      room = subst (λ v. 65508 ≤ vec_capacity v) (sym c.note.ensures.bytes) made.ensures.reserved;
      places = omega (arith, old.places, c.note.ensures.room);
      within = keeps.within;
      calls = keeps.calls;
      alike = still_alike old.performance next (onward old.performance c.args.caller release) _ made.ensures.performance
          (c.boxes_stay.ensures.release_methods old.performance c.args.caller) (made.ensures.ids ∙ old.alike);
      ascending = subst (λ (l : List ℕ). is_ascending l ≡ true) (sym made.ensures.ids) old.ascending;
      heard = heard_on next _ _ made.ensures.performance
          (heard_more _ _ _ made.ensures.boxes (c.boxes_hear_the_history.ensures.released old.performance c.args.caller _ old.heard));
      reserved = still_reserved old.performance next (onward old.performance c.args.caller release) _ made.ensures.performance
          (c.boxes_stay.ensures.caps old.performance c.args.caller release) (omega (arith, old.reserved, made.ensures.capacity));
    }

pub returns-in_default-clause-stands : goal.returns-in_default-clause-stands
returns-in_default-clause-stands g c texts stands =
    let old = c.args.self.now.performance in
    let made = c.release-releasing in
    let heard = c.boxes_hear_the_history.ensures.released old c.args.caller _ stands.heard in
    stood _ _ _ _ _ _ made.ensures.performance made.ensures.boxes
    (c.a_server_stands_for_more.ensures.called old c.args.caller release (stepped_in old release).invocations _ texts stands c.requires tt heard)

pub returns-clause-stands : goal.returns-clause-stands
returns-clause-stands g c texts stands =
    let old = c.args.self.now.performance in
    let made = c.release-releasing in
    let heard = c.boxes_hear_the_history.ensures.released old c.args.caller _ stands.heard in
    stood _ _ _ _ _ _ made.ensures.performance made.ensures.boxes
    (c.a_server_stands_for_more.ensures.called old c.args.caller release (stepped_in old release).invocations _ texts stands c.requires tt heard)
