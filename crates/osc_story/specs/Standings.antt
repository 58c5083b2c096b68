-- What stands after entries of a recording, and what each entry does to it.
use Rattle.osc_atoms.specs.declared.limits.TheConstants.{MAX_PACKET}
use Rattle.std.specs.Prelude.{◌≡◌, ℕ, ◌+◌, ◌-◌, ◌^◌, ◌==◌, ◌&&◌, nat_lt, Bool, if◌then◌else◌}
use Rattle.std.specs.Prelude.{List, [], ◌∷◌, ◌++◌, length, map, filter, drop, Option, Some}
use Rattle.std.specs.Prelude.{None, is_some, unwrap_or, slice_index_or}
use Rattle.std.specs.List.{list_all}
use Rattle.osc_packet.specs.Reading.{is_packet, units_read}
use Rattle.osc_packet.specs.Units.{TimedUnit}
use Rattle.osc_pattern.specs.Methods.{Method}
use Rattle.osc_tree.specs.Registry.{without, address_by_id}
use Rattle.osc_queue.specs.Timed.{Item, unit_of, enter}
use Rattle.osc_model.specs.declared.late.Late.{Late}
use Rattle.osc_model.specs.State.{State, Queued}
use Rattle.osc_model.specs.Events.{Event, enrol, submit, add, remove, tick, release, Answer, Hit}
use Rattle.osc_model.specs.Events.{queued, added, removed, ticked, released, Entry, Call}
use Rattle.osc_model.specs.Events.{Invocation}
use Rattle.osc_model.specs.Step.{is_kept, kept, waiting, invocations_of}
use Rattle.osc_story.specs.declared.totals.Totals.{Totals}
use Rattle.osc_story.specs.Totals.{none, with_entry, with_packet, with_release}
use Rattle.osc_story.specs.declared.disagreement.Disagreement.{Disagreement}
use Rattle.osc_story.specs.declared.disagreement.Disagreement.TheVariants.{NoPacket, OtherCount}
use Rattle.osc_story.specs.declared.disagreement.Disagreement.TheVariants.{NotFirst, NoSuchCall}

-- a unit as it was handed in: by whom, and its effective tag and messages
pub record Handed : Type 0 where
  pub caller : ℕ
  pub unit : TimedUnit

-- What stands: what becomes of late units, the clock, the methods in the order of adding, the units
-- that wait, in the order of their release: due moment, number, and as they were handed in; and how
-- much was told.
pub record Standing : Type 0 where
  pub late : Late
  pub clock : ℕ
  pub methods : List Method
  pub waiting : List (Item Handed)
  pub totals : Totals

-- before the first entry
abbrev pub opened : Late → Standing
opened late = record { late = late; clock = 1; methods = []; waiting = []; totals = none }

-- the units that wait, as the rules of the server have them
abbrev pub queue_of : List (Item Handed) → List Queued
queue_of items = map (λ item. (item.0, item.1, item.2.unit)) items

-- what stands is what a state of the server has
pub record Shows (standing : Standing) (state : State) : Type 0 where
  pub late : standing.late ≡ state.caps.late
  pub clock : standing.clock ≡ state.clock
  pub methods : standing.methods ≡ state.methods
  pub queue : queue_of standing.waiting ≡ state.queue

-- a caller's unit, which waits under its number, and is due at its effective tag or at the clock,
-- whichever is greater
abbrev pub handed : ℕ → ℕ → ℕ → TimedUnit → Item Handed
handed caller clock number unit =
    let item = waiting clock number unit in
    (item.0, item.1, record { caller = caller; unit = item.2 })

-- units take the next numbers in their order
abbrev pub all_handed : ℕ → ℕ → ℕ → List TimedUnit → List (Item Handed)
all_handed caller clock next [] = []
all_handed caller clock next (unit ∷ units) =
    handed caller clock next unit ∷ all_handed caller clock (next + 1) units

-- those of them that are kept
abbrev pub kept_handed : Standing → ℕ → ℕ → List TimedUnit → List (Item Handed)
kept_handed standing caller first units =
    filter (λ item. is_kept standing.late standing.clock item.2.unit)
    (all_handed caller standing.clock first units)

-- units enter the queue one after another
abbrev pub all_enter : List (Item Handed) → List (Item Handed) → List (Item Handed)
all_enter [] items = items
all_enter (unit ∷ units) items = all_enter units (enter unit items)

-- the units of a packet, which a caller handed in, where they were queued
abbrev pub submitted : Standing → ℕ → List TimedUnit → Answer → Standing
submitted standing caller units (queued first count late) =
    record standing {
      waiting = all_enter (kept_handed standing caller first units) standing.waiting;
    }
submitted standing caller units _ = standing

-- the method of an address, where it was added
abbrev pub with_method : Standing → List ℕ → Answer → Standing
with_method standing address (added id) =
    record standing { methods = standing.methods ++ record { id = id; address = address } ∷ [] }
with_method standing address _ = standing

-- without it, where it was removed
abbrev pub without_method : Standing → List ℕ → Answer → Standing
without_method standing address (removed id) =
    record standing { methods = without standing.methods address }
without_method standing address _ = standing

-- the clock goes on, where it did
abbrev pub at_moment : Standing → ℕ → Answer → Standing
at_moment standing now ticked = record standing { clock = now }
at_moment standing now _ = standing

-- the first unit that waits leaves, where one was released
abbrev pub without_first : Standing → Answer → Standing
without_first standing (released unit hits) =
    record standing { waiting = drop 1 standing.waiting }
without_first standing _ = standing

-- what stands after an event of a caller and its answer
abbrev pub seen_by : Standing → ℕ → Event → Answer → Standing
seen_by standing caller enrol answer = standing
seen_by standing caller (submit packet) answer =
    submitted standing caller (units_read packet) answer
seen_by standing caller (add address) answer = with_method standing address answer
seen_by standing caller (remove address) answer = without_method standing address answer
seen_by standing caller (tick now) answer = at_moment standing now answer
seen_by standing caller release answer = without_first standing answer

-- the messages of the first unit that waits
abbrev pub first_messages : List (Item Handed) → List (List ℕ)
first_messages [] = []
first_messages (first ∷ others) = first.2.unit.messages

-- how much was told after an event and its answer
abbrev pub told_by : Standing → Event → Answer → Totals
told_by standing (submit packet) answer =
    with_packet standing.totals standing.late standing.clock (units_read packet) answer
told_by standing release answer =
    with_release standing.totals (length (first_messages standing.waiting)) answer
told_by standing _ answer = standing.totals

-- what stands after an entry
abbrev pub seen : Standing → Entry → Standing
seen standing entry =
    record (seen_by standing entry.caller entry.event entry.answer) {
      totals = with_entry (told_by standing entry.event entry.answer);
    }

-- and after entries
abbrev pub seen_all : Standing → List Entry → Standing
seen_all standing [] = standing
seen_all standing (entry ∷ entries) = seen_all (seen standing entry) entries

-- what stands after the entries of a whole recording
abbrev pub standing_after : Late → List Entry → Standing
standing_after late entries = seen_all (opened late) entries

-- whether a hit is of a message of the unit, and of a method that is there
abbrev pub is_call : List Method → List (List ℕ) → Hit → Bool
is_call methods messages hit =
    nat_lt hit.index (length messages) && is_some (address_by_id methods hit.id)

-- why a unit can't have been released, where it can't
abbrev pub release_fault : List Method → List (Item Handed) → ℕ → List Hit → Option Disagreement
release_fault methods [] unit hits = Some NotFirst
release_fault methods (first ∷ others) unit hits =
    if unit_of first == unit
    then (if list_all (is_call methods first.2.unit.messages) hits then None else Some NoSuchCall)
    else Some NotFirst

abbrev pub released_fault : Standing → Answer → Option Disagreement
released_fault standing (released unit hits) =
    release_fault standing.methods standing.waiting unit hits
released_fault standing _ = None

-- whether so many units, of which so many weren't kept, are these, and their numbers end in time
abbrev pub are_counted : Standing → List TimedUnit → ℕ → ℕ → ℕ → Bool
are_counted standing units first count late =
    count == length units
    && late == length units - length (kept standing.late standing.clock units)
    && nat_lt (first + length units) (2 ^ 64)

-- why units can't have been queued, where they can't
abbrev pub queued_fault : Standing → List TimedUnit → Answer → Option Disagreement
queued_fault standing units (queued first count late) =
    if are_counted standing units first count late then None else Some OtherCount
queued_fault standing units _ = None

abbrev pub packet_fault : Standing → List ℕ → Answer → Option Disagreement
packet_fault standing packet answer =
    if is_packet MAX_PACKET packet then queued_fault standing (units_read packet) answer
    else Some NoPacket

-- why an event can't have had its answer after what stands, as far as that tells: whether a message
-- was to call other methods, and why an event was refused, isn't looked at
abbrev pub fault_of : Standing → Event → Answer → Option Disagreement
fault_of standing (submit packet) answer = packet_fault standing packet answer
fault_of standing release answer = released_fault standing answer
fault_of standing _ answer = None

abbrev pub disagreement : Standing → Entry → Option Disagreement
disagreement standing entry = fault_of standing entry.event entry.answer

-- no entry disagrees with what stands after those before it
abbrev pub AgreesAll : Standing → List Entry → Type 0
AgreesAll standing [] = Unit {0}
AgreesAll standing (entry ∷ entries) =
    (disagreement standing entry ≡ None) × AgreesAll (seen standing entry) entries

-- an entry agrees, and is seen
pub record Follows (old : Standing) (entry : Entry) (new : Standing) : Type 0 where
  pub agrees : disagreement old entry ≡ None
  pub becomes : new ≡ seen old entry

-- the call of a hit: the method's address and the message
abbrev pub call_of : List Method → List (List ℕ) → Hit → Call
call_of methods messages hit =
    record {
      index = hit.index;
      id = hit.id;
      address = unwrap_or (address_by_id methods hit.id) [];
      message = slice_index_or messages hit.index [];
    }

-- the calls that an answer tells, after what stands
abbrev pub calls_told : Standing → Answer → List Call
calls_told standing (released unit hits) =
    map (call_of standing.methods (first_messages standing.waiting)) hits
calls_told standing _ = []

-- each with its unit's number
abbrev pub called : Standing → Answer → List Invocation
called standing (released unit hits) =
    invocations_of unit (calls_told standing (released unit hits))
called standing _ = []

-- what the answers of entries called
abbrev pub all_called : Standing → List Entry → List Invocation
all_called standing [] = []
all_called standing (entry ∷ entries) =
    called standing entry.answer ++ all_called (seen standing entry) entries
