-- What holds of a server at every moment.
use Rattle.std.proofs.Common.{◌≡◌, ◌≢◌, ◌↔◌, ℕ, ◌+◌, ◌-◌, ◌<◌, ◌≤◌, ◌==◌, Bool, true, false, cond, nat_le, nat_lt, IsTrue, List, [], ◌∷◌, ◌++◌, length, not}
use Rattle.std.proofs.Common.{Option, Some, None, All, refl, arith}
use Rattle.std.specs.Str.{bytes_eq}
use Rattle.std.proofs.lemmas.Bool.Decides.{nat_tests}
use Rattle.std.proofs.lemmas.List.Elements.{All-nil, All-push, All-weaker, All-filter}
use Rattle.std.proofs.lemmas.Bool.{ltb-false}
use Rattle.osc_packet.specs.Units.{TimedUnit, blocks_of}
use Rattle.osc_packet.specs.Reading.{units_read}
use Rattle.osc_pattern.specs.Addresses.{IsAddress, is_address}
use Rattle.osc_pattern.specs.Methods.{Method}
use Rattle.osc_queue.specs.Timed.{due_of}
use Rattle.osc_tree.specs.Registry.{Registry, IsLawful as IsLawfulRegistry, IsNewId, id_at}
use Rattle.osc_tree.specs.Adding.{Refusal, IsAddable, add_refusal}
use Rattle.osc_tree.proofs.Refusing.{none_addable}
use Rattle.osc_model.specs.Limits.{Limits, AreInRange}
use Rattle.osc_model.specs.State.{State, Queued, opening, registry}
use Rattle.osc_model.specs.Counts.{queued_blocks, free_places, free_blocks}
use Rattle.osc_model.specs.Recordings.{entry_size}
use Rattle.osc_model.specs.Events.{Event, enrol, submit, add, remove, tick, release, units_full, pool_full, queued, number, callers_full, ticked, clock_back}
use Rattle.osc_model.specs.Events.{nothing_due, Entry}
use Rattle.osc_model.specs.Step.{step, decided, leaves, kept_units, kept_numbered, submit_kept, after_submit, add_at, remove_at, releases, release_first}
use Rattle.osc_model.specs.History.{IsLawful, LegalFrom, Legal, IsSound, after}
use Rattle.osc_model.proofs.Stepping.{step_so}
use Rattle.osc_model.proofs.Queues.{all_counted, kept_length, all_blocks, all_ordered, all_numbered}
use Rattle.osc_model.proofs.Registries.{AddsNodes, without_lawful}

-- an address that can be added, with a new id, leaves methods as lawful as they were
abbrev pub StaysLawful : Type 0
StaysLawful = (tree : Registry) (id : ℕ) (address : List ℕ) → IsLawfulRegistry tree → IsNewId tree.methods id → IsAddress address → IsAddable tree address
    → IsLawfulRegistry (record tree { methods = tree.methods ++ record { id = id; address = address } ∷ [] })

-- the test of an address says what an address is
abbrev pub TellsAddresses : Type 0
TellsAddresses = (bytes : List ℕ) → (IsTrue (is_address bytes) ↔ IsAddress bytes)

-- what is known of methods and their addresses
pub record OfMethods : Type 0 where
  pub lawful : StaysLawful
  pub nodes : AddsNodes
  pub spelled : TellsAddresses

-- no methods are a lawful list
none_lawful : (method_limit node_limit : ℕ) → IsLawfulRegistry (record { methods = []; method_limit = method_limit; node_limit = node_limit })
none_lawful method_limit node_limit = record {
  list = record {
    ids = λ i j d less within. absurd (omega arith);
    lawful = All-nil (λ method. IsAddress method.address);
    addresses = λ i j d less within. absurd (omega arith);
    apart = λ i j d less within. absurd (omega arith);
  };
  few_methods = omega arith;
  few_nodes = omega arith;
}

pub opening_sound : (caps : Limits) → AreInRange caps → IsSound (opening caps)
opening_sound caps ranges =
    let callers = ranges.callers in
    record {
      caps = ranges;
      methods = none_lawful caps.methods caps.nodes;
      ids = All-nil (λ method. method.id < 0);
      ordered = tt;
      numbers = tt;
      few_units = omega arith;
      few_blocks = omega arith;
      callers = (omega arith, omega arith);
    }

-- One event.

with_callers : (state : State) (callers : ℕ) → IsSound state → (1 ≤ callers) × (callers ≤ state.caps.callers) → IsSound (record state { callers = callers })
with_callers state callers sound few =
    record {
      caps = sound.caps;
      methods = sound.methods;
      ids = sound.ids;
      ordered = sound.ordered;
      numbers = sound.numbers;
      few_units = sound.few_units;
      few_blocks = sound.few_blocks;
      callers = few;
    }

with_clock : (state : State) (clock : ℕ) → IsSound state → IsSound (record state { clock = clock })
with_clock state clock sound =
    record {
      caps = sound.caps;
      methods = sound.methods;
      ids = sound.ids;
      ordered = sound.ordered;
      numbers = sound.numbers;
      few_units = sound.few_units;
      few_blocks = sound.few_blocks;
      callers = sound.callers;
    }

with_recorded : (state : State) (recorded : ℕ) → IsSound state → IsSound (record state { recorded = recorded })
with_recorded state recorded sound =
    record {
      caps = sound.caps;
      methods = sound.methods;
      ids = sound.ids;
      ordered = sound.ordered;
      numbers = sound.numbers;
      few_units = sound.few_units;
      few_blocks = sound.few_blocks;
      callers = sound.callers;
    }

enrolled : (state : State) → IsSound state → IsSound (decided state enrol).state
enrolled state sound = go (state.callers == state.caps.callers) refl where
  go : (t : Bool) → (state.callers == state.caps.callers) ≡ t
      → IsSound (cond t (leaves state callers_full) (leaves (record state { callers = state.callers + 1 }) (number state.callers))).state
  go true e = sound
  go false e = let few = sound.callers in with_callers state (state.callers + 1) sound (omega arith, grind (arith, nat_tests))

submitted : (state : State) (units : List TimedUnit) → IsSound state → nat_lt (free_places state) (length (kept_units state units)) ≡ false
    → nat_lt (free_blocks state) (blocks_of (kept_units state units)) ≡ false → IsSound (after_submit state units)
submitted state units sound places room =
    let late = state.caps.late in
    let few_units = sound.few_units in
    let few_blocks = sound.few_blocks in
    let fit : length (kept_units state units) ≤ state.caps.units - length state.queue = ltb-false _ _ places in
    let hold : blocks_of (kept_units state units) ≤ state.caps.blocks - queued_blocks state.queue = ltb-false _ _ room in
    record {
      caps = sound.caps;
      methods = sound.methods;
      ids = sound.ids;
      ordered = all_ordered late state.clock state.next_unit units state.queue sound.numbers sound.ordered;
      numbers = all_numbered late state.clock state.next_unit units state.queue sound.numbers;
      few_units = omega (
        arith,
        all_counted (kept_numbered late state.clock state.next_unit units) state.queue,
        kept_length late state.clock state.next_unit units,
      );
      few_blocks = omega (arith, all_blocks late state.clock state.next_unit units state.queue);
      callers = sound.callers;
    }

submits : (state : State) (packet : List ℕ) → IsSound state → IsSound (decided state (submit packet)).state
submits state packet sound = go (units_read packet) (kept_units state (units_read packet)) (submitted state (units_read packet) sound) where
  go : (units keeps : List TimedUnit)
      → (nat_lt (free_places state) (length keeps) ≡ false → nat_lt (free_blocks state) (blocks_of keeps) ≡ false → IsSound (after_submit state units))
      → IsSound (submit_kept state units keeps).state
  go units keeps fit = cases (nat_lt (free_places state) (length keeps)) refl (nat_lt (free_blocks state) (blocks_of keeps)) refl where
    cases : (t : Bool) → nat_lt (free_places state) (length keeps) ≡ t → (u : Bool) → nat_lt (free_blocks state) (blocks_of keeps) ≡ u
        → IsSound (cond t (leaves state (units_full (record { need = length keeps; free = free_places state })))
        (cond u (leaves state (pool_full (record { need = blocks_of keeps; free = free_blocks state })))
        (leaves (after_submit state units) (queued state.next_unit (length units) (length units - length keeps))))).state
    cases true e u f = sound
    cases false e true f = sound
    cases false e false f = fit e f

pub new_id : (next : ℕ) (methods : List Method) → All (λ method. method.id < next) methods → IsNewId methods next
new_id next methods given = All-weaker (λ method. method.id < next) (λ method. method.id ≢ next) (λ method. differs method.id) methods given where
  differs : (n : ℕ) → n < next → n ≢ next
  differs n below same = omega arith

ids_later : (next : ℕ) (methods : List Method) → All (λ method. method.id < next) methods → All (λ method. method.id < next + 1) methods
ids_later next methods given = All-weaker (λ method. method.id < next) (λ method. method.id < next + 1) (λ method. later method.id) methods given where
  later : (n : ℕ) → n < next → n < next + 1
  later n below = omega arith

-- ids stay below the next one where a method is added under it
pub one_more_given : (next : ℕ) (methods : List Method) (address : List ℕ) → All (λ method. method.id < next) methods
    → All (λ method. method.id < next + 1) (methods ++ record { id = next; address = address } ∷ [])
one_more_given next methods address given =
    All-push (λ method. method.id < next + 1) methods (record { id = next; address = address }) (ids_later next methods given) (omega arith)

adds : OfMethods → (state : State) (address : List ℕ) → IsTrue (is_address address) → IsSound state → IsSound (decided state (add address)).state
adds of state address spelled sound = go (add_refusal (registry state) address) refl where
  go : (refusal : Option Refusal) → add_refusal (registry state) address ≡ refusal → IsSound (add_at state address refusal).state
  go (Some refusal) e = sound
  go None e =
      let few_methods = sound.methods.few_methods in
      let can = none_addable (registry state) address few_methods e in
      record {
        caps = sound.caps;
        methods = of.lawful (registry state) state.next_id address sound.methods (new_id state.next_id state.methods sound.ids)
            ((of.spelled address).0 spelled) can;
        ids = one_more_given state.next_id state.methods address sound.ids;
        ordered = sound.ordered;
        numbers = sound.numbers;
        few_units = sound.few_units;
        few_blocks = sound.few_blocks;
        callers = sound.callers;
      }

removes : OfMethods → (state : State) (address : List ℕ) → IsSound state → IsSound (decided state (remove address)).state
removes of state address sound = go (id_at state.methods address) where
  go : (found : Option ℕ) → IsSound (remove_at state address found).state
  go None = sound
  go (Some id) =
      record {
        caps = sound.caps;
        methods = without_lawful of.nodes (registry state) address sound.methods;
        ids = All-filter (λ method. not (bytes_eq method.address address)) (λ method. method.id < state.next_id) state.methods sound.ids;
        ordered = sound.ordered;
        numbers = sound.numbers;
        few_units = sound.few_units;
        few_blocks = sound.few_blocks;
        callers = sound.callers;
      }

ticks : (state : State) (now : ℕ) → IsSound state → IsSound (decided state (tick now)).state
ticks state now sound = go (nat_lt now state.clock) where
  go : (t : Bool) → IsSound (cond t (leaves state (clock_back state.clock)) (leaves (record state { clock = now }) ticked)).state
  go true = sound
  go false = with_clock state now sound

released_sound : (state : State) (queue : List Queued) → IsSound (record state { queue = queue })
    → IsSound (release_first (record state { queue = queue }) queue).state
released_sound state [] sound = sound
released_sound state (unit ∷ units) sound = go (nat_le (due_of unit) state.clock) where
  go : (t : Bool)
      → IsSound (cond t (releases (record state { queue = unit ∷ units }) unit units)
      (leaves (record state { queue = unit ∷ units }) (nothing_due (Some (due_of unit))))).state
  go true =
      let few_units = sound.few_units in
      let few_blocks = sound.few_blocks in
      record {
        caps = sound.caps;
        methods = sound.methods;
        ids = sound.ids;
        ordered = sound.ordered.1;
        numbers = sound.numbers.1;
        few_units = omega arith;
        few_blocks = omega arith;
        callers = sound.callers;
      }
  go false = sound

decided_sound : OfMethods → (state : State) (event : Event) → IsLawful event → IsSound state → IsSound (decided state event).state
decided_sound of state enrol lawful sound = enrolled state sound
decided_sound of state (submit packet) lawful sound = submits state packet sound
decided_sound of state (add address) lawful sound = adds of state address lawful sound
decided_sound of state (remove address) lawful sound = removes of state address sound
decided_sound of state (tick now) lawful sound = ticks state now sound
decided_sound of state release lawful sound = released_sound state state.queue sound

pub step_sound : OfMethods → (state : State) (event : Event) → IsLawful event → IsSound state → IsSound (step state event).state
step_sound of state event lawful sound =
    let decides : IsSound (decided state event).state = decided_sound of state event lawful sound in
    step_so (λ stepped. IsSound stepped.state) state event
    (record {
      silent = λ none. decides;
      full = λ some full. sound;
      room = λ some fits. with_recorded (decided state event).state (state.recorded + entry_size event (decided state event).answer) decides;
    })

-- A history.

after_sound : OfMethods → (state : State) (history : List Entry) → LegalFrom state history → IsSound state → IsSound (after state history)
after_sound of state [] legal sound = sound
after_sound of state (entry ∷ entries) legal sound =
    after_sound of (step state entry.event).state entries legal.4 (step_sound of state entry.event legal.1 sound)

pub history_sound : OfMethods → (caps : Limits) (history : List Entry) → Legal caps history → IsSound (after (opening caps) history)
history_sound of caps history legal = after_sound of (opening caps) history legal.1 (opening_sound caps legal.0)
