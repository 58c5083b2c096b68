-- A history that is legal within a recording is legal within a larger one, and prints the same lines.
use Rattle.std.proofs.Common.{◌≡◌, ℕ, ◌≤◌, true, List, [], ◌∷◌, ◌++◌, refl, sym, ap, subst, ◌∙◌, arith}
use Rattle.std.specs.List.{flat_map}
use Rattle.osc_print.specs.Entries.{event_line, invocation_text}
use Rattle.osc_model.specs.Limits.{Limits, IsWithin}
use Rattle.osc_model.specs.Samples.{least_limits}
use Rattle.osc_model.specs.State.{State, opening}
use Rattle.osc_model.specs.Events.{Event, enrol, Entry, number, callers_full, adds_entry}
use Rattle.osc_model.specs.Recordings.{entry_size}
use Rattle.osc_model.specs.Step.{Stepped, step, decided}
use Rattle.osc_model.specs.History.{AddsEntry, LegalFrom, Legal, after}
use Rattle.osc_model.proofs.Onward.{entered, is_adds}
use Rattle.osc_model.proofs.Recordable.{after_caps}
use Rattle.osc_model.proofs.Refusals.{room_records}
use Rattle.osc_model.proofs.Stepping.{noted}
use Rattle.osc_replay.specs.Printed.{printed, printed_from}
use Rattle.osc_replay.specs.Room.{with_room, in_room, PrintsTheSameIn}
use Rattle.osc_replay.proofs.Older.{roomed, decided_roomy}
use Rattle.osc_replay.proofs.Printing.{printed-append}

abbrev pub stepped_in_room : ℕ → Stepped → Stepped
stepped_in_room room stepped = record { answer = stepped.answer; state = in_room room stepped.state; invocations = stepped.invocations }

-- an entry that is added in the one is added in the other
pub steps_alike : (room : ℕ) (state : State) (event : Event) → state.caps.recording ≤ room → adds_entry (step state event).answer ≡ true
    → step (in_room room state) event ≡ stepped_in_room room (step state event)
steps_alike room state event more adds =
    let on = entered state event adds in
    let same : decided (in_room room state) event ≡ roomed room state.recorded (decided state event) = decided_roomy room state.recorded state event in
    let answer : (decided (in_room room state) event).answer ≡ (decided state event).answer = ap (λ (s : Stepped). s.answer) same in
    let size : entry_size event (decided (in_room room state) event).answer ≡ entry_size event (decided state event).answer = ap (entry_size event) answer in
    let fits = on.room in
    room_records (in_room room state) event (ap adds_entry answer ∙ on.adds) (omega (arith, size, fits, more))
    ∙ (λ i. noted (in_room room state) (size i) (same i))
    ∙ sym (ap (stepped_in_room room) on.is)

-- a legal history goes on alike
pub record GoesAlike (room : ℕ) (state : State) (history : List Entry) : Type 0 where
  pub legal : LegalFrom (in_room room state) history
  pub state_is : after (in_room room state) history ≡ in_room room (after state history)
  pub lines : printed_from (in_room room state) history ≡ printed_from state history

pub goes_alike : (room : ℕ) (history : List Entry) (state : State) → state.caps.recording ≤ room → LegalFrom state history → GoesAlike room state history
goes_alike room [] state more legal = record { legal = tt; state_is = refl; lines = refl }
goes_alike room (entry ∷ history) state more legal =
    let adds = is_adds (step state entry.event).answer (subst AddsEntry legal.3 legal.2) in
    let same = steps_alike room state entry.event more adds in
    let caps : (step state entry.event).state.caps.recording ≤ room =
    subst (λ (l : Limits). l.recording ≤ room) (sym (after_caps state (entry ∷ []))) more in
    let rest = goes_alike room history (step state entry.event).state caps legal.4 in
    record {
      legal = (
        legal.0,
        legal.1,
        legal.2,
        legal.3 ∙ ap (λ (s : Stepped). s.answer) (sym same),
        subst (λ (s : Stepped). LegalFrom s.state history) (sym same) rest.legal,
      );
      state_is = ap (λ (s : Stepped). after s.state history) same ∙ rest.state_is;
      lines = ap (λ (s : Stepped). event_line entry ++ flat_map invocation_text s.invocations ++ printed_from s.state history) same
          ∙ ap (λ (l : List ℕ). event_line entry ++ flat_map invocation_text (step state entry.event).invocations ++ l) rest.lines;
    }

-- so it prints the same in a larger recording
pub prints_the_same_in : (room : ℕ) (caps : Limits) (history : List Entry) → caps.recording ≤ room → room ≤ 1073741824 → Legal caps history
    → PrintsTheSameIn room caps history
prints_the_same_in room caps history more most legal =
    let r = legal.0 in
    let least = r.recording.above in
    let all = goes_alike room history (opening caps) more legal.1 in
    record {
      legal = (
        record {
          units = r.units;
          blocks = r.blocks;
          methods = r.methods;
          nodes = r.nodes;
          callers = r.callers;
          recording = record { above = omega (arith, least, more); below = most };
        },
        all.legal,
      );
      state = all.state_is;
      lines = all.lines;
      onward = λ since. printed-append (opening (with_room room caps)) history since
          ∙ ap (λ (l : List ℕ). l ++ printed_from (after (opening (with_room room caps)) history) since) all.lines
          ∙ ap (λ (s : State). printed caps history ++ printed_from s since) all.state_is;
    }

-- An enrolment for which there was no place isn't answered so where there is one.

abbrev refused_enrolment : List Entry
refused_enrolment = record { caller = 0; event = enrol; answer = callers_full } ∷ []

within : (least most n : ℕ) → least ≤ n → n ≤ most → IsWithin least most n
within least most n above below = record { above = above; below = below }

pub refused_with_one : Legal (least_limits 1 1000) refused_enrolment
refused_with_one = (
  record {
    units = within 1 1048576 1 (omega arith) (omega arith);
    blocks = within 1 1048576 1 (omega arith) (omega arith);
    methods = within 1 65536 1 (omega arith) (omega arith);
    nodes = within 1 1048576 1 (omega arith) (omega arith);
    callers = within 1 1024 1 (omega arith) (omega arith);
    recording = within 60 1073741824 1000 (omega arith) (omega arith);
  },
  (omega arith, tt, tt, refl, tt),
)

pub not_with_two : ¬ Legal (least_limits 2 1000) refused_enrolment
not_with_two legal = clash legal.1.3 where
  clash : callers_full ≡ number 1 → ⊥
  clash is = cc
