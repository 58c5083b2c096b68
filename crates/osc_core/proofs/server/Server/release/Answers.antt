use Rattle.std.proofs.Common.{◌≡◌, ℕ, ◌+◌, ◌*◌, Some, List, length, map, refl, sym, ap, subst, ◌∙◌, arith}
use Rattle.osc_model.specs.State.{State}
use Rattle.osc_model.specs.Events.{release}
use Rattle.osc_model.specs.Step.{decided, calls_from, hits_of, invocations_of}
use Rattle.osc_record.specs.Writing.{with_release}
use Rattle.osc_core.specs.Calls.{hit_by}
use Rattle.osc_core.specs.Due.{IsDue}
use Rattle.osc_core.specs.Frames.{messages_in}
use Rattle.osc_core.specs.Recorded.{TellsRoom, with_hits}
use Rattle.osc_core.specs.Views.{units_of, FirstIsDue, first_messages}
use Rattle.osc_core.specs.contracts.server.Server.{the_view}
use Rattle.osc_core.proofs.Calling.{length-hits_of}
use Rattle.osc_core.proofs.Firsts.{hits_by}
use Rattle.osc_core.proofs.Waits.{is_head, head_waits}
use Rattle.osc_core.proofs.Hearing.{hear_same, hears_nothing}
use Rattle.osc_core.proofs.server.Server.release.Goals as goal

pub returns-in_default-clause-boxes : goal.returns-in_default-clause-boxes
returns-in_default-clause-boxes g c = hears_nothing _ _ refl

pub returns-then-due-self-clause-answer : goal.returns-then-due-self-clause-answer
returns-then-due-self-clause-answer g c =
    let s = c.self.inside in
    let none = head_waits (the_view s) (units_of s.waiting) c.in-Some.due c.in-Some.unit refl c.in-Some.ensures.head (omega (arith, c.if-due-self.true)) in
    record { none = ap (λ (state : State). (decided state release).answer) (sym c.self.view_is) ∙ none; state = refl; recorder = refl }

pub returns-then-due-self-clause-boxes : goal.returns-then-due-self-clause-boxes
returns-then-due-self-clause-boxes g c = hears_nothing _ _ refl

pub read-requires-clause-some : goal.read-requires-clause-some
read-requires-clause-some g c =
    let s = c.self.inside in
    (is_head (the_view s) (units_of s.waiting) c.in-Some.due c.in-Some.unit s.next_unit refl c.in-Some.ensures.head c.self.invariant.numbers
    (omega (arith, c.if-due-self.false))).some

pub release_unit-requires-clause-unit : goal.release_unit-requires-clause-unit
release_unit-requires-clause-unit g c =
    let s = c.self.inside in
    let item = is_head (the_view s) (units_of s.waiting) c.in-Some.due c.in-Some.unit s.next_unit refl c.in-Some.ensures.head c.self.invariant.numbers
    (omega (arith, c.if-due-self.false)) in
    omega (arith, item.below, c.requires.units, ap (λ (state : State). state.next_unit) c.self.view_is)

pub take-requires-clause-due : goal.take-requires-clause-due
take-requires-clause-due g c =
    let s = c.self.inside in
    let item = is_head (the_view s) (units_of s.waiting) c.in-Some.due c.in-Some.unit s.next_unit refl c.in-Some.ensures.head c.self.invariant.numbers
    (omega (arith, c.if-due-self.false)) in
    subst (FirstIsDue s.clock) (sym c.read.ensures.units) item.due

pub returns-in-Ok-clause-answer : goal.returns-in-Ok-clause-answer
returns-in-Ok-clause-answer g c =
    let s = c.self.inside in
    let unit = c.in-Some.unit in
    let calls = calls_from s.tree.methods 0 (first_messages (units_of s.waiting)) in
    let item = is_head (the_view s) (units_of s.waiting) c.in-Some.due c.in-Some.unit s.next_unit refl c.in-Some.ensures.head c.self.invariant.numbers
    (omega (arith, c.if-due-self.false)) in
    let kept = c.new-read.ensures.value ∙ ap messages_in c.as_slice.ensures.value ∙ c.read.ensures.messages in
    let begun = with_release c.args.recorder.now c.args.caller unit c.in-Ok.calls in
    let invocations = ap (λ (state : State). (decided state release).invocations) (sym c.self.view_is) ∙ item.invocations_are in
    record {
      hits = hits_of calls;
      due = subst (λ (state : State). IsDue state unit (hits_of calls)) c.self.view_is item.answer;
      many = c.in-Ok.ensures.recorder.0 ∙ ap (λ (l : List (List ℕ)). length (calls_from s.tree.methods 0 l)) kept ∙ sym (length-hits_of calls);
      fits = c.in-Ok.ensures.recorder.1;
      state = rw (
        c.take.ensures.units,
        c.take.ensures.places,
        c.take.ensures.limit,
        c.read.ensures.units,
        c.read.ensures.places,
        c.read.ensures.limit,
      )
          (sym (ap (λ (state : State). (decided state release).state) (sym c.self.view_is) ∙ item.state_is));
      recorder = c.in-Ok.ensures.recorder.2 ∙ ap (λ (l : List (List ℕ)). with_hits begun (hits_of (calls_from s.tree.methods 0 l))) kept
          ∙ ap (with_hits begun) (sym (ap (map hit_by) invocations ∙ hits_by unit calls));
    }

pub returns-in-Ok-clause-boxes : goal.returns-in-Ok-clause-boxes
returns-in-Ok-clause-boxes g c =
    let s = c.self.inside in
    let unit = c.in-Some.unit in
    let item = is_head (the_view s) (units_of s.waiting) c.in-Some.due c.in-Some.unit s.next_unit refl c.in-Some.ensures.head c.self.invariant.numbers
    (omega (arith, c.if-due-self.false)) in
    let invocations = ap (λ (state : State). (decided state release).invocations) (sym c.self.view_is) ∙ item.invocations_are in
    let kept = c.new-read.ensures.value ∙ ap messages_in c.as_slice.ensures.value ∙ c.read.ensures.messages in
    hear_same _ _ _ _ c.in-Ok.ensures.boxes
    (ap (λ (l : List (List ℕ)). invocations_of unit (calls_from s.tree.methods 0 l)) kept ∙ sym invocations)

pub returns-in-Err-clause-answer : goal.returns-in-Err-clause-answer
returns-in-Err-clause-answer g c =
    let s = c.self.inside in
    let unit = c.in-Some.unit in
    let calls = calls_from s.tree.methods 0 (first_messages (units_of s.waiting)) in
    let item = is_head (the_view s) (units_of s.waiting) c.in-Some.due c.in-Some.unit s.next_unit refl c.in-Some.ensures.head c.self.invariant.numbers
    (omega (arith, c.if-due-self.false)) in
    let kept = c.new-read.ensures.value ∙ ap messages_in c.as_slice.ensures.value ∙ c.read.ensures.messages in
    let many : length (calls_from s.tree.methods 0 c.new-read.result) ≡ length (hits_of calls) =
    ap (λ (l : List (List ℕ)). length (calls_from s.tree.methods 0 l)) kept ∙ sym (length-hits_of calls) in
    record {
      unit = unit;
      hits = hits_of calls;
      due = subst (λ (state : State). IsDue state unit (hits_of calls)) c.self.view_is item.answer;
      wanting = subst (λ (n : ℕ). TellsRoom (Some c.in-Err.room) c.args.recorder.now (44 + 8 * n)) many c.in-Err.ensures.recorder.0;
      state = rw (c.read.ensures.units, c.read.ensures.places, c.read.ensures.limit) c.self.view_is;
      recorder = c.in-Err.ensures.recorder.1;
    }

pub returns-in-Err-clause-boxes : goal.returns-in-Err-clause-boxes
returns-in-Err-clause-boxes g c = rw c.in-Err.ensures.silent (hears_nothing _ _ refl)

pub returns-in-Ok-clause-messages : goal.returns-in-Ok-clause-messages
returns-in-Ok-clause-messages g c =
    let s = c.self.inside in
    let unit = c.in-Some.unit in
    let item = is_head (the_view s) (units_of s.waiting) c.in-Some.due c.in-Some.unit s.next_unit refl c.in-Some.ensures.head c.self.invariant.numbers
    (omega (arith, c.if-due-self.false)) in
    let read : (decided c.args.self.now release).invocations
    ≡ invocations_of unit (calls_from c.args.self.now.methods 0 (messages_in c.read.new.self.bytes.items)) =
    ap (λ (state : State). (decided state release).invocations) (sym c.self.view_is) ∙ item.invocations_are
    ∙ ap (λ (l : List (List ℕ)). invocations_of unit (calls_from s.tree.methods 0 l)) (sym c.read.ensures.messages)
    ∙ ap (λ (state : State). invocations_of unit (calls_from state.methods 0 (messages_in c.read.new.self.bytes.items))) c.self.view_is in
    rw c.take.ensures.messages read

pub returns-in-Ok-clause-framed : goal.returns-in-Ok-clause-framed
returns-in-Ok-clause-framed g c = rw c.take.ensures.messages c.read.ensures.framed
