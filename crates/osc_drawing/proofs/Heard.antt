-- The marks of calls are all that a history invoked.
use Rattle.std.proofs.Common.{◌≡◌, ℕ, ◌+◌, ◌-◌, Bool, true, false, List, [], ◌∷◌, ◌++◌, refl, sym, ap, ◌∙◌, append_assoc, append-nil, Option}
use Rattle.std.proofs.lemmas.Grind.{flat_map-append}
use Rattle.std.proofs.lemmas.List.{map-append}
use Rattle.std.specs.Prelude.{map, nat_lt, if◌then◌else◌}
use Rattle.std.specs.List.{flat_map, AllByRecursion}
use Rattle.osc_atoms.specs.declared.limits.TheConstants.{MAX_PACKET}
use Rattle.osc_packet.specs.Reading.{is_packet, units_read}
use Rattle.osc_packet.specs.Units.{TimedUnit}
use Rattle.osc_pattern.specs.Methods.{Method}
use Rattle.osc_queue.specs.Timed.{Item}
use Rattle.osc_model.specs.Events.{Event, enrol, submit, add, remove, tick, release, Answer, queued, units_full, pool_full, removed, released, Call, Entry}
use Rattle.osc_model.specs.Recordings.{FitsRow, row_of, IsRecordable}
use Rattle.osc_model.specs.Step.{is_kept, invocations_of}
use Rattle.osc_story.specs.Standings.{Standing, Handed, seen, calls_told, first_messages, called, all_called}
use Rattle.osc_story.specs.Totals.{more}
use Rattle.osc_drawing.specs.declared.arrival.Arrival.{Arrival}
use Rattle.osc_drawing.specs.declared.carried.Carried.{Carried}
use Rattle.osc_drawing.specs.declared.mark.Draft.{Draft}
use Rattle.osc_drawing.specs.declared.mark.Form.TheVariants.{Called, Unheard, Crossed, Removed}
use Rattle.osc_drawing.specs.declared.mark.Mark.{Mark}
use Rattle.osc_drawing.specs.declared.mark.Owner.{Owner}
use Rattle.osc_drawing.specs.declared.mark.Owner.TheVariants as owner
use Rattle.osc_drawing.specs.declared.mark.Stamp.{Stamp}
use Rattle.osc_drawing.specs.Calls.{call_in, calls_in, shown_call}
use Rattle.osc_drawing.specs.Carried.{nothing, carried_of}
use Rattle.osc_drawing.specs.Endings.{waiting_draft, waiting_marks, standing_marks}
use Rattle.osc_drawing.specs.Gatherings.{Gathered, drafted, next_stamp, with_crosses, with_queued, all_queued, all_refused, with_units, with_packet, with_event, released_marks}
use Rattle.osc_drawing.specs.Marks.{mark_of, meets, met_marks, pattern_marks, or_else, target_marks, all_targets, call_marks, is_heard, unheard_marks, arrival_of}
use Rattle.osc_drawing.specs.Rows.{is_call}
use Rattle.osc_drawing.specs.Sketches.{Sketched, with_entry, with_entries, next_moment, finished, end_stamp}

quiet : (draft : Draft) (own : Owner) (address : List ℕ) → is_call draft.form ≡ false → calls_in (mark_of draft own address ∷ []) ≡ []
quiet draft own address is = ap (λ (b : Bool). (if b then (address, nothing) ∷ [] else []) ++ []) is

none_met : (draft : Draft) (message : List ℕ) (methods : List Method) → is_call draft.form ≡ false → calls_in (met_marks draft message methods) ≡ []
none_met draft message [] is = refl
none_met draft message (method ∷ methods) is = go (meets message method.address) (none_met draft message methods is) where
  go : (b : Bool) → calls_in (met_marks draft message methods) ≡ []
      → calls_in ((if b then mark_of draft owner.Method method.address ∷ [] else []) ++ met_marks draft message methods) ≡ []
  go true rest =
      flat_map-append call_in (mark_of draft owner.Method method.address ∷ []) (met_marks draft message methods)
      ∙ ap (λ (l : List (List ℕ × Carried)). l ++ calls_in (met_marks draft message methods)) (quiet draft owner.Method method.address is) ∙ rest
  go false rest = rest

none_or_else : (marks others : List Mark) → calls_in marks ≡ [] → calls_in others ≡ [] → calls_in (or_else marks others) ≡ []
none_or_else [] others one other = other
none_or_else (mark ∷ marks) others one other = one

none_target : (draft : Draft) (methods : List Method) (message : List ℕ) → is_call draft.form ≡ false → calls_in (target_marks draft methods message) ≡ []
none_target draft methods message is =
    none_or_else (met_marks draft message methods) (pattern_marks draft message) (none_met draft message methods is) (quiet draft owner.Pattern _ is)

none_targets : (draft : Draft) (methods : List Method) (messages : List (List ℕ)) → is_call draft.form ≡ false → calls_in (all_targets draft methods messages) ≡ []
none_targets draft methods [] is = refl
none_targets draft methods (message ∷ messages) is =
    flat_map-append call_in (target_marks draft methods message) (all_targets draft methods messages)
    ∙ ap (λ (l : List (List ℕ × Carried)). l ++ calls_in (all_targets draft methods messages)) (none_target draft methods message is)
    ∙ none_targets draft methods messages is

none_unheard : (draft : Draft) (calls : List Call) (index : ℕ) (messages : List (List ℕ)) → is_call draft.form ≡ false
    → calls_in (unheard_marks draft calls index messages) ≡ []
none_unheard draft calls index [] is = refl
none_unheard draft calls index (message ∷ messages) is = go (is_heard calls index) (none_unheard draft calls (index + 1) messages is) where
  go : (b : Bool) → calls_in (unheard_marks draft calls (index + 1) messages) ≡ []
      → calls_in ((if b then [] else pattern_marks draft message) ++ unheard_marks draft calls (index + 1) messages) ≡ []
  go true rest = rest
  go false rest =
      flat_map-append call_in (pattern_marks draft message) (unheard_marks draft calls (index + 1) messages)
      ∙ ap (λ (l : List (List ℕ × Carried)). l ++ calls_in (unheard_marks draft calls (index + 1) messages)) (quiet draft owner.Pattern _ is) ∙ rest

calls_made : (came : Option Stamp) (at : Stamp) (unit : ℕ) (calls : List Call)
    → calls_in (flat_map (call_marks (drafted Called came at)) calls) ≡ map shown_call (invocations_of unit calls)
calls_made came at unit [] = refl
calls_made came at unit (call ∷ calls) =
    ap (λ (l : List (List ℕ × Carried)). (call.address, carried_of call.message) ∷ l) (calls_made came at unit calls)

released_calls : (came : Option Stamp) (at : Stamp) (unit : ℕ) (calls : List Call) (messages : List (List ℕ))
    → calls_in (released_marks came at calls messages) ≡ map shown_call (invocations_of unit calls)
released_calls came at unit calls messages =
    let one = flat_map (call_marks (drafted Called came at)) calls in
    let other = unheard_marks (drafted Unheard came at) calls 0 messages in
    flat_map-append call_in one other
    ∙ ap (λ (l : List (List ℕ × Carried)). calls_in one ++ l) (none_unheard (drafted Unheard came at) calls 0 messages refl)
    ∙ append-nil (calls_in one) ∙ calls_made came at unit calls

no_more : (marks others : List Mark) → calls_in others ≡ [] → calls_in (marks ++ others) ≡ calls_in marks
no_more marks others none =
    flat_map-append call_in marks others ∙ ap (λ (l : List (List ℕ × Carried)). calls_in marks ++ l) none ∙ append-nil (calls_in marks)

crosses_same : (gathered : Gathered) (moment : ℕ) (methods : List Method) (messages : List (List ℕ))
    → calls_in (with_crosses gathered moment methods messages).marks ≡ calls_in gathered.marks
crosses_same gathered moment methods messages =
    no_more gathered.marks _ (none_targets (drafted Crossed _ (next_stamp gathered moment)) methods messages refl)

unit_same : (standing : Standing) (moment number : ℕ) (unit : TimedUnit) (gathered : Gathered)
    → calls_in (with_queued standing moment number unit gathered).marks ≡ calls_in gathered.marks
unit_same standing moment number unit gathered = go (is_kept standing.late standing.clock unit) (nat_lt moment unit.tag) where
  go : (b t : Bool) → calls_in (if b then (if t then record gathered { units = gathered.units ++ record { number = number; at = record { moment = moment; order = gathered.count - 1 } } ∷ [] } else gathered)
      else with_crosses gathered moment standing.methods unit.messages).marks ≡ calls_in gathered.marks
  go true true = refl
  go true false = refl
  go false t = crosses_same gathered moment standing.methods unit.messages

queued_same : (standing : Standing) (moment number : ℕ) (units : List TimedUnit) (gathered : Gathered)
    → calls_in (all_queued standing moment number units gathered).marks ≡ calls_in gathered.marks
queued_same standing moment number [] gathered = refl
queued_same standing moment number (unit ∷ units) gathered =
    queued_same standing moment (more number 1) units (with_queued standing moment number unit gathered)
    ∙ unit_same standing moment number unit gathered

refused_same : (standing : Standing) (moment : ℕ) (units : List TimedUnit) (gathered : Gathered)
    → calls_in (all_refused standing moment units gathered).marks ≡ calls_in gathered.marks
refused_same standing moment [] gathered = refl
refused_same standing moment (unit ∷ units) gathered =
    refused_same standing moment units (with_crosses gathered moment standing.methods unit.messages)
    ∙ crosses_same gathered moment standing.methods unit.messages

units_same : (standing : Standing) (moment : ℕ) (units : List TimedUnit) (answer : Answer) (gathered : Gathered)
    → calls_in (with_units standing moment units answer gathered).marks ≡ calls_in gathered.marks
units_same standing moment units (queued first count late) gathered = queued_same standing moment first units gathered
units_same standing moment units (units_full room) gathered = refused_same standing moment units gathered
units_same standing moment units (pool_full room) gathered = refused_same standing moment units gathered
units_same standing moment units _ gathered = refl

packet_same : (standing : Standing) (moment : ℕ) (packet : List ℕ) (answer : Answer) (gathered : Gathered)
    → calls_in (with_packet standing moment packet answer gathered).marks ≡ calls_in gathered.marks
packet_same standing moment packet answer gathered = go (is_packet MAX_PACKET packet) where
  go : (b : Bool) → calls_in (if b then with_units standing moment (units_read packet) answer gathered else gathered).marks ≡ calls_in gathered.marks
  go true = units_same standing moment (units_read packet) answer gathered
  go false = refl

-- an event adds the calls that its answer tells
event_step : (standing : Standing) (moment caller : ℕ) (event : Event) (answer : Answer) (gathered : Gathered) → FitsRow (row_of caller event answer)
    → calls_in (with_event standing moment event answer gathered).marks ≡ calls_in gathered.marks ++ map shown_call (called standing answer)
event_step standing moment caller enrol (released unit hits) gathered fits = absurd fits
event_step standing moment caller enrol answer gathered fits = sym (append-nil (calls_in gathered.marks))
event_step standing moment caller (submit packet) (released unit hits) gathered fits = absurd fits
event_step standing moment caller (submit packet) answer gathered fits =
    packet_same standing moment packet answer gathered ∙ sym (append-nil (calls_in gathered.marks))
event_step standing moment caller (add address) (released unit hits) gathered fits = absurd fits
event_step standing moment caller (add address) answer gathered fits = sym (append-nil (calls_in gathered.marks))
event_step standing moment caller (remove address) (released unit hits) gathered fits = absurd fits
event_step standing moment caller (remove address) (removed id) gathered fits =
    no_more gathered.marks _ (quiet (drafted Removed (arrival_of id gathered.methods) (record { moment = moment; order = gathered.count - 1 })) owner.Method address refl)
    ∙ sym (append-nil (calls_in gathered.marks))
event_step standing moment caller (remove address) answer gathered fits = sym (append-nil (calls_in gathered.marks))
event_step standing moment caller (tick now) (released unit hits) gathered fits = absurd fits
event_step standing moment caller (tick now) answer gathered fits = sym (append-nil (calls_in gathered.marks))
event_step standing moment caller release (released unit hits) gathered fits =
    let marks = released_marks (arrival_of unit gathered.units) (next_stamp gathered moment) (calls_told standing (released unit hits)) (first_messages standing.waiting) in
    flat_map-append call_in gathered.marks marks
    ∙ ap (λ (l : List (List ℕ × Carried)). calls_in gathered.marks ++ l)
    (released_calls (arrival_of unit gathered.units) (next_stamp gathered moment) unit (calls_told standing (released unit hits)) (first_messages standing.waiting))
event_step standing moment caller release answer gathered fits = sym (append-nil (calls_in gathered.marks))

-- and entries add all that they called
pub entries_step : (sketch : Sketched) (moment : ℕ) (entries : List Entry) → AllByRecursion (λ entry. IsRecordable entry.caller entry.event entry.answer) entries
    → calls_in (with_entries sketch moment entries).gathered.marks ≡ calls_in sketch.gathered.marks ++ map shown_call (all_called sketch.standing entries)
entries_step sketch moment [] can = sym (append-nil (calls_in sketch.gathered.marks))
entries_step sketch moment (entry ∷ entries) can =
    let now = called sketch.standing entry.answer in
    let later = all_called (seen sketch.standing entry) entries in
    entries_step (with_entry sketch moment entry) (next_moment (seen sketch.standing entry).clock moment entry.event entries) entries can.1
    ∙ ap (λ (l : List (List ℕ × Carried)). l ++ map shown_call later)
    (event_step sketch.standing moment entry.caller entry.event entry.answer sketch.gathered can.0.fits)
    ∙ append_assoc (calls_in sketch.gathered.marks) (map shown_call now) (map shown_call later)
    ∙ ap (λ (l : List (List ℕ × Carried)). calls_in sketch.gathered.marks ++ l) (sym (map-append shown_call now later))

none_waiting : (end : Stamp) (came : List Arrival) (methods : List Method) (items : List (Item Handed)) → calls_in (waiting_marks end came methods items) ≡ []
none_waiting end came methods [] = refl
none_waiting end came methods (item ∷ items) =
    no_more (all_targets (waiting_draft end came item) methods item.2.unit.messages) (waiting_marks end came methods items) (none_waiting end came methods items)
    ∙ none_targets (waiting_draft end came item) methods item.2.unit.messages refl

none_standing : (end : Stamp) (came : List Arrival) (methods : List Method) → calls_in (standing_marks end came methods) ≡ []
none_standing end came [] = refl
none_standing end came (method ∷ methods) = none_standing end came methods

pub finish_same : (sketch : Sketched) → calls_in (finished sketch).gathered.marks ≡ calls_in sketch.gathered.marks
finish_same sketch =
    let end = end_stamp sketch in
    let waiting = waiting_marks end sketch.gathered.units sketch.standing.methods sketch.standing.waiting in
    let standing = standing_marks end sketch.gathered.methods sketch.standing.methods in
    no_more (sketch.gathered.marks ++ waiting) standing (none_standing end sketch.gathered.methods sketch.standing.methods)
    ∙ no_more sketch.gathered.marks waiting (none_waiting end sketch.gathered.units sketch.standing.methods sketch.standing.waiting)
