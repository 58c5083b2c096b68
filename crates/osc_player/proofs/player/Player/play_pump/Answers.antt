use Rattle.std.proofs.Common.{◌<◌, length, sym, ap, subst, ◌∙◌, arith}
use Rattle.std.proofs.lemmas.List.{append-nil}
use Rattle.osc_model.specs.State.{State}
use Rattle.osc_model.specs.Events.{release}
use Rattle.osc_model.specs.History.{Performance, state_of}
use Rattle.osc_model.proofs.Onward.{onward_state}
use Rattle.osc_model.specs.Events.{room_in}
use Rattle.osc_player.specs.Plain.{pump, stop_at}
use Rattle.osc_player.proofs.Hearing.{HearsCalls}
use Rattle.osc_player.proofs.Onward.{one_caller}
use Rattle.osc_player.proofs.Places.{at_over}
use Rattle.osc_player.proofs.Pumps.{pump_on, pump_over, state_over, not_due, no_room, is_taken, turn_at}
use Rattle.osc_player.proofs.player.Player.play_pump.Goals as goal

pub loop-room-smaller : goal.loop-room-smaller
loop-room-smaller g c =
    let performance = c.loop-room.self.core.performance in
    (pump_on performance c.release.new.self.performance c.release.ensures.performance
    (is_taken performance c.in-Released.unit c.in-Released.calls c.in-Released.ensures.answer)).shorter

pub loop-room-preserved : goal.loop-room-preserved
loop-room-preserved g c =
    let before = c.loop-room.invariant in
    let done = c.release.ensures in
    let performance = c.loop-room.self.core.performance in
    let law : HearsCalls = record { fresh = c.a_box_hears_its_calls.ensures.fresh; on = c.a_box_hears_its_calls.ensures.on } in
    record {
      caller = subst (λ (s : State). 0 < s.callers) (sym (ap (λ (p : Performance). state_of p) done.performance ∙ onward_state performance 0 release))
          (one_caller (state_of performance) release before.caller);
      end = (pump_on performance c.release.new.self.performance done.performance
          (is_taken performance c.in-Released.unit c.in-Released.calls c.in-Released.ensures.answer)).same_end ∙ before.end;
      faults = before.faults;
      waiting = before.waiting;
      boxes = λ bank at. turn_at _ bank performance _ law
          (c.invocations_are_of_registered_methods.ensures.step (state_of performance) release) done.performance _ _ _ _ _ done.boxes
          c.loop-room.self.core.heard (before.boxes bank at);
    }

pub returns-in-NothingDue : goal.returns-in-NothingDue
returns-in-NothingDue g c =
    let done = c.release.ensures in
    let performance = c.loop-room.self.core.performance in
    let initial = c.args.self.now.core.performance in
    let law : HearsCalls = record { fresh = c.a_box_hears_its_calls.ensures.fresh; on = c.a_box_hears_its_calls.ensures.on } in
    record {
      performance = pump_over performance _ done.performance (not_due performance c.in-NothingDue.next c.in-NothingDue.ensures.answer)
          ∙ c.loop-room.invariant.end;
      faults = c.loop-room.invariant.faults ∙ sym (append-nil c.args.self.now.faults);
      stop = sym (ap room_in c.in-NothingDue.ensures.answer)
          ∙ ap (λ (s : State). stop_at s release)
          (state_over performance initial (pump (state_of initial))
          (not_due performance c.in-NothingDue.next c.in-NothingDue.ensures.answer) c.loop-room.invariant.end);
      waiting = omega (arith, ap length c.loop-room.invariant.waiting);
      boxes = λ bank at. turn_at _ bank performance _ law (c.invocations_are_of_registered_methods.ensures.step (state_of performance) release)
          done.performance _ _ _ _ _ done.boxes c.loop-room.self.core.heard (c.loop-room.invariant.boxes bank at);
    }

pub returns-in-RecordFull : goal.returns-in-RecordFull
returns-in-RecordFull g c =
    let done = c.release.ensures in
    let performance = c.loop-room.self.core.performance in
    let initial = c.args.self.now.core.performance in
    let law : HearsCalls = record { fresh = c.a_box_hears_its_calls.ensures.fresh; on = c.a_box_hears_its_calls.ensures.on } in
    record {
      performance = pump_over performance _ done.performance (no_room performance _ c.in-RecordFull.ensures.answer) ∙ c.loop-room.invariant.end;
      faults = c.loop-room.invariant.faults ∙ sym (append-nil c.args.self.now.faults);
      stop = sym (ap room_in c.in-RecordFull.ensures.answer)
          ∙ ap (λ (s : State). stop_at s release)
          (state_over performance initial (pump (state_of initial)) (no_room performance _ c.in-RecordFull.ensures.answer) c.loop-room.invariant.end);
      waiting = omega (arith, ap length c.loop-room.invariant.waiting);
      boxes = λ bank at. at_over _ bank _ _ _ _ _
          (turn_at _ bank performance _ law (c.invocations_are_of_registered_methods.ensures.step (state_of performance) release) done.performance
          _ _ _ _ _ done.boxes c.loop-room.self.core.heard (c.loop-room.invariant.boxes bank at));
    }
