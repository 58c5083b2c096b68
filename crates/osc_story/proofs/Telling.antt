-- What the entries tell: what was called, and that none disagrees.
use Rattle.osc_atoms.specs.declared.limits.TheConstants.{MAX_PACKET}
use Rattle.std.proofs.Common.{◌≡◌, ℕ, ◌+◌, ◌-◌, ◌<◌, ◌^◌, ◌==◌, ◌&&◌, Bool, true, false, cond, List, [], ◌∷◌, ◌++◌, map, length, Option, Some}
use Rattle.std.proofs.Common.{None, is_some, unwrap_or}
use Rattle.std.proofs.Common.{slice_index_or, nat_lt, pos, refl, sym, ap, subst, ◌∙◌, arith}
use Rattle.std.specs.Prelude.{FitsSigned}
use Rattle.std.specs.Int.{w32, w64}
use Rattle.std.specs.List.{AllByRecursion, Contains, list_all}
use Rattle.std.proofs.lemmas.Bool.{lt-ltb, eq-eqb}
use Rattle.osc_packet.specs.Reading.{is_packet, units_read}
use Rattle.osc_packet.specs.Units.{TimedUnit}
use Rattle.osc_pattern.specs.Methods.{Method, IsMethodList}
use Rattle.osc_tree.specs.Registry.{address_by_id}
use Rattle.osc_queue.specs.Timed.{Item, unit_of}
use Rattle.osc_model.specs.State.{Queued, State}
use Rattle.osc_model.specs.Events.{Event, enrol, submit, add, remove, tick, release, Answer, Hit, Call, Invocation, Entry, record_full, number, callers_full}
use Rattle.osc_model.specs.Events.{queued}
use Rattle.osc_model.specs.Events.{units_full, pool_full, added, refused, removed, not_there, ticked, clock_back, released, nothing_due}
use Rattle.osc_model.specs.Recordings.{IsRecordable}
use Rattle.osc_model.specs.Refusals.{IsRefusal}
use Rattle.osc_model.specs.Releases.{IsCallIn}
use Rattle.osc_model.specs.History.{invocations, IsLawful, IsSound, LegalFrom}
use Rattle.osc_model.specs.Step.{Stepped, step, decided, kept, late_count, calls_of_unit, hits_of, invocations_of}
use Rattle.osc_model.proofs.Stepping.{step_so, decided_so}
use Rattle.osc_model.proofs.Calls.{MatchesExactly, unit_calls}
use Rattle.osc_story.specs.declared.disagreement.Disagreement.{Disagreement}
use Rattle.osc_story.specs.declared.disagreement.Disagreement.TheVariants.{NoPacket, OtherCount, NotFirst, NoSuchCall}
use Rattle.osc_story.specs.Standings.{Handed, Standing, Shows, queue_of, call_of, first_messages, called, all_called, is_call, are_counted, queued_fault}
use Rattle.osc_story.specs.Standings.{fault_of, release_fault, AgreesAll, seen, disagreement}
use Rattle.osc_story.proofs.Showing.{entry_shown}

-- a method's id finds its address
abbrev pub FindsByIds : Type 0
FindsByIds = (methods : List Method) (method : Method) → IsMethodList methods → Contains methods method → address_by_id methods method.id ≡ Some method.address

-- what the laws of the crates below say
pub record Given : Type 0 where
  pub matches : MatchesExactly
  pub found : FindsByIds
  pub sound : (state : State) (event : Event) → IsLawful event → IsSound state → IsSound (step state event).state

-- The hits of a unit's calls.

-- a call is of a message that the unit has, and of a method that is there
record IsOwn (methods : List Method) (messages : List (List ℕ)) (call : Call) : Type 0 where
  within : call.index < length messages
  message : slice_index_or messages call.index [] ≡ call.message
  address : address_by_id methods call.id ≡ Some call.address

all_own : FindsByIds → (state : State) (unit : Queued) (n : ℕ) → IsMethodList state.methods → (calls : List Call)
    → AllByRecursion (IsCallIn state unit) (invocations_of n calls) → AllByRecursion (IsOwn state.methods unit.2.messages) calls
all_own found state unit n lawful [] all = tt
all_own found state unit n lawful (call ∷ calls) all = (
  record {
    within = all.0.within;
    message = all.0.message;
    address = found state.methods (record { id = call.id; address = call.address }) lawful all.0.registered;
  },
  all_own found state unit n lawful calls all.1,
)

own_calls : Given → (state : State) (unit : Queued) → IsSound state → AllByRecursion (IsOwn state.methods unit.2.messages) (calls_of_unit state.methods unit)
own_calls given state unit sound =
    all_own given.found state unit (unit_of unit) sound.methods.list (calls_of_unit state.methods unit) (unit_calls given.matches state unit)

-- each hit is of its call
calls_again : (methods : List Method) (messages : List (List ℕ)) (calls : List Call) → AllByRecursion (IsOwn methods messages) calls
    → map (call_of methods messages) (hits_of calls) ≡ calls
calls_again methods messages [] own = refl
calls_again methods messages (call ∷ calls) own =
    ap (λ (o : Option (List ℕ)). record { index = call.index; id = call.id; address = unwrap_or o []; message = slice_index_or messages call.index [] }
    ∷ map (call_of methods messages) (hits_of calls)) own.0.address
    ∙ ap (λ (m : List ℕ). record { index = call.index; id = call.id; address = call.address; message = m } ∷ map (call_of methods messages) (hits_of calls))
    own.0.message
    ∙ ap (λ (l : List Call). call ∷ l) (calls_again methods messages calls own.1)

all_true : (a b c : Bool) → a ≡ true → b ≡ true → c ≡ true → ((a && b) && c) ≡ true
all_true true true true p q r = refl
all_true true true false p q r = absurd (cc)
all_true true false c p q r = absurd (cc)
all_true false b c p q r = absurd (cc)

are_calls : (methods : List Method) (messages : List (List ℕ)) (calls : List Call) → AllByRecursion (IsOwn methods messages) calls
    → list_all (is_call methods messages) (hits_of calls) ≡ true
are_calls methods messages [] own = refl
are_calls methods messages (call ∷ calls) own =
    all_true (nat_lt call.index (length messages)) (is_some (address_by_id methods call.id)) (list_all (is_call methods messages) (hits_of calls))
    (lt-ltb call.index (length messages) own.0.within) (ap is_some own.0.address) (are_calls methods messages calls own.1)

-- What was called.

heads : List Queued → List (List ℕ)
heads [] = []
heads (unit ∷ units) = unit.2.messages

first_is : (items : List (Item Handed)) (unit : Queued) (units : List Queued) → queue_of items ≡ unit ∷ units → first_messages items ≡ unit.2.messages
unfolding heads
first_is [] unit units is = absurd (cc)
first_is (item ∷ items) unit units is = ap heads is

refusal_calls : (standing : Standing) (answer : Answer) → IsRefusal answer → called standing answer ≡ []
refusal_calls standing (number n) un = absurd un
refusal_calls standing callers_full un = refl
refusal_calls standing (queued first count late) un = absurd un
refusal_calls standing (units_full room) un = refl
refusal_calls standing (pool_full room) un = refl
refusal_calls standing (added id) un = absurd un
refusal_calls standing (refused why) un = refl
refusal_calls standing (removed id) un = absurd un
refusal_calls standing not_there un = refl
refusal_calls standing ticked un = absurd un
refusal_calls standing (clock_back kept) un = refl
refusal_calls standing (released unit hits) un = absurd un
refusal_calls standing (nothing_due next) un = refl
refusal_calls standing (record_full room) un = refl

-- the calls of the hits, after what stands
released_calls : Given → (state : State) (standing : Standing) (unit : Queued) (units : List Queued) → IsSound state → Shows standing state
    → state.queue ≡ unit ∷ units
    → map (call_of standing.methods (first_messages standing.waiting)) (hits_of (calls_of_unit state.methods unit)) ≡ calls_of_unit state.methods unit
released_calls given state standing unit units sound shows is =
    ap (λ (methods : List Method). map (call_of methods (first_messages standing.waiting)) (hits_of (calls_of_unit state.methods unit))) shows.methods
    ∙ ap (λ (messages : List (List ℕ)). map (call_of state.methods messages) (hits_of (calls_of_unit state.methods unit)))
    (first_is standing.waiting unit units (shows.queue ∙ is))
    ∙ calls_again state.methods unit.2.messages (calls_of_unit state.methods unit) (own_calls given state unit sound)

abbrev IsTold : Standing → Event → Stepped → Type 0
IsTold standing event stepped = called standing stepped.answer ≡ stepped.invocations

decided_told : Given → (state : State) (standing : Standing) → IsSound state → Shows standing state → (event : Event)
    → IsTold standing event (decided state event)
decided_told given state standing sound shows event =
    decided_so (IsTold standing) state event (record {
      refused = λ asked answer un. refusal_calls standing answer un;
      enrolled = refl;
      queued = λ packet. refl;
      added = λ address. refl;
      removed = λ address id. refl;
      ticked = λ now later. refl;
      released = λ unit units is. ap (invocations_of (unit_of unit)) (released_calls given state standing unit units sound shows is);
    })

step_told : Given → (state : State) (standing : Standing) → IsSound state → Shows standing state → (event : Event) → IsTold standing event (step state event)
step_told given state standing sound shows event =
    step_so (IsTold standing event) state event (record {
      silent = λ none. decided_told given state standing sound shows event;
      full = λ some few. refl;
      room = λ some fits. decided_told given state standing sound shows event;
    })

-- and by a history
pub history_told : Given → (state : State) (standing : Standing) (entries : List Entry) → LegalFrom state entries → IsSound state → Shows standing state
    → all_called standing entries ≡ invocations state entries
history_told given state standing [] legal sound shows = refl
history_told given state standing (entry ∷ entries) legal sound shows =
    let told = ap (called standing) legal.3 ∙ step_told given state standing sound shows entry.event in
    let more = history_told given (step state entry.event).state (seen standing entry) entries legal.4
    (given.sound state entry.event legal.1 sound) (entry_shown state standing entry legal.3 shows) in
    ap (λ (l : List Invocation). l ++ all_called (seen standing entry) entries) told
    ∙ ap (λ (l : List Invocation). (step state entry.event).invocations ++ l) more

-- That none disagrees.

when : (test : Bool) (one other : Option Disagreement) → test ≡ true → one ≡ None → cond test one other ≡ None
when true one other is none = none
when false one other is none = absurd (cc)

refusal_queues : (standing : Standing) (units : List TimedUnit) (answer : Answer) → IsRefusal answer → queued_fault standing units answer ≡ None
refusal_queues standing units (number n) un = absurd un
refusal_queues standing units callers_full un = refl
refusal_queues standing units (queued first count late) un = absurd un
refusal_queues standing units (units_full room) un = refl
refusal_queues standing units (pool_full room) un = refl
refusal_queues standing units (added id) un = absurd un
refusal_queues standing units (refused why) un = refl
refusal_queues standing units (removed id) un = absurd un
refusal_queues standing units not_there un = refl
refusal_queues standing units ticked un = absurd un
refusal_queues standing units (clock_back kept) un = refl
refusal_queues standing units (released unit hits) un = absurd un
refusal_queues standing units (nothing_due next) un = refl
refusal_queues standing units (record_full room) un = refl

refusal_releases : (standing : Standing) (answer : Answer) → IsRefusal answer → fault_of standing release answer ≡ None
refusal_releases standing (number n) un = absurd un
refusal_releases standing callers_full un = refl
refusal_releases standing (queued first count late) un = absurd un
refusal_releases standing (units_full room) un = refl
refusal_releases standing (pool_full room) un = refl
refusal_releases standing (added id) un = absurd un
refusal_releases standing (refused why) un = refl
refusal_releases standing (removed id) un = absurd un
refusal_releases standing not_there un = refl
refusal_releases standing ticked un = absurd un
refusal_releases standing (clock_back kept) un = refl
refusal_releases standing (released unit hits) un = absurd un
refusal_releases standing (nothing_due next) un = refl
refusal_releases standing (record_full room) un = refl

refusal_agrees : (standing : Standing) (event : Event) (answer : Answer) → IsRefusal answer → IsLawful event → fault_of standing event answer ≡ None
refusal_agrees standing enrol answer un lawful = refl
refusal_agrees standing (submit packet) answer un lawful =
    when (is_packet MAX_PACKET packet) (queued_fault standing (units_read packet) answer) (Some NoPacket) lawful
    (refusal_queues standing (units_read packet) answer un)
refusal_agrees standing (add address) answer un lawful = refl
refusal_agrees standing (remove address) answer un lawful = refl
refusal_agrees standing (tick now) answer un lawful = refl
refusal_agrees standing release answer un lawful = refusal_releases standing answer un

-- the numbers of units that were queued end in time
ends_in_time : (caller : ℕ) (packet : List ℕ) (first count late : ℕ) → IsRecordable caller (submit packet) (queued first count late) → first + count < 2 ^ 64
ends_in_time caller packet first count late can_be =
    let fits : FitsSigned w32 (pos caller) × ((length packet < 2 ^ 31) × (FitsSigned w32 (pos 0) × (FitsSigned w64 (pos first) × (FitsSigned w32 (pos count)
    × (FitsSigned w32 (pos late) × Unit {0}))))) = can_be.fits in
    omega (arith, fits.1.1.1.0.sfits, fits.1.1.1.1.0.sfits)

counted : (state : State) (standing : Standing) (units : List TimedUnit) → Shows standing state → state.next_unit + length units < 2 ^ 64
    → are_counted standing units state.next_unit (length units) (late_count state units) ≡ true
counted state standing units shows below =
    counts (length units == length units) (late_count state units == length units - length (kept standing.late standing.clock units))
    (nat_lt (state.next_unit + length units) (2 ^ 64)) (eq-eqb (length units) (length units) refl)
    (eq-eqb (late_count state units) (length units - length (kept standing.late standing.clock units))
    (λ i. length units - length (kept (sym shows.late i) (sym shows.clock i) units))) (lt-ltb (state.next_unit + length units) (2 ^ 64) below)
  where
    counts : (a b c : Bool) → a ≡ true → b ≡ true → c ≡ true → (a && b && c) ≡ true
    counts true true true p q r = refl
    counts true true false p q r = absurd (cc)
    counts true false c p q r = absurd (cc)
    counts false b c p q r = absurd (cc)

-- a unit that was released is the first
first_agrees : (methods : List Method) (items : List (Item Handed)) (unit : Queued) (units : List Queued) (hits : List Hit) → queue_of items ≡ unit ∷ units
    → list_all (is_call methods unit.2.messages) hits ≡ true → release_fault methods items (unit_of unit) hits ≡ None
first_agrees methods [] unit units hits is all = absurd (cc)
first_agrees methods (item ∷ items) unit units hits is all =
    when (unit_of item == unit_of unit) (cond (list_all (is_call methods item.2.unit.messages) hits) None (Some NoSuchCall)) (Some NotFirst)
    (eq-eqb (unit_of item) (unit_of unit) (ap number_of is))
    (when (list_all (is_call methods item.2.unit.messages) hits) None (Some NoSuchCall)
    (subst (λ (messages : List (List ℕ)). list_all (is_call methods messages) hits ≡ true) (sym (first_is (item ∷ items) unit units is)) all) refl)
  where
    number_of : List Queued → ℕ
    number_of [] = 0
    number_of (first ∷ others) = first.1

abbrev IsAgreed : ℕ → Standing → Event → Stepped → Type 0
IsAgreed caller standing event stepped = IsLawful event → IsRecordable caller event stepped.answer → fault_of standing event stepped.answer ≡ None

decided_agrees : Given → (caller : ℕ) (state : State) (standing : Standing) → IsSound state → Shows standing state → (event : Event)
    → IsAgreed caller standing event (decided state event)
decided_agrees given caller state standing sound shows event =
    decided_so (IsAgreed caller standing) state event (record {
      refused = λ asked answer un lawful can_be. refusal_agrees standing asked answer un lawful;
      enrolled = λ lawful can_be. refl;
      queued = λ packet lawful can_be.
          when (is_packet MAX_PACKET packet)
          (queued_fault standing (units_read packet) (queued state.next_unit (length (units_read packet)) (late_count state (units_read packet))))
          (Some NoPacket) lawful
          (when (are_counted standing (units_read packet) state.next_unit (length (units_read packet)) (late_count state (units_read packet))) None
          (Some OtherCount)
          (counted state standing (units_read packet) shows
          (ends_in_time caller packet state.next_unit (length (units_read packet)) (late_count state (units_read packet)) can_be)) refl);
      added = λ address lawful can_be. refl;
      removed = λ address id lawful can_be. refl;
      ticked = λ now later lawful can_be. refl;
      released = λ unit units is lawful can_be.
          first_agrees standing.methods standing.waiting unit units (hits_of (calls_of_unit state.methods unit)) (shows.queue ∙ is)
          (subst (λ (methods : List Method). list_all (is_call methods unit.2.messages) (hits_of (calls_of_unit state.methods unit)) ≡ true)
          (sym shows.methods)
          (are_calls state.methods unit.2.messages (calls_of_unit state.methods unit) (own_calls given state unit sound)));
    })

step_agrees : Given → (caller : ℕ) (state : State) (standing : Standing) → IsSound state → Shows standing state → (event : Event)
    → IsAgreed caller standing event (step state event)
step_agrees given caller state standing sound shows event =
    step_so (IsAgreed caller standing event) state event (record {
      silent = λ none. decided_agrees given caller state standing sound shows event;
      full = λ some few lawful can_be. refusal_agrees standing event _ tt lawful;
      room = λ some fits. decided_agrees given caller state standing sound shows event;
    })

pub history_agrees : Given → (state : State) (standing : Standing) (entries : List Entry) → LegalFrom state entries
    → AllByRecursion (λ (entry : Entry). IsRecordable entry.caller entry.event entry.answer) entries → IsSound state → Shows standing state
    → AgreesAll standing entries
history_agrees given state standing [] legal can_be sound shows = tt
history_agrees given state standing (entry ∷ entries) legal can_be sound shows =
    let answer = (step state entry.event).answer in
    let agrees : disagreement standing entry ≡ None =
    subst (λ (a : Answer). IsRecordable entry.caller entry.event a → fault_of standing entry.event a ≡ None) (sym legal.3)
    (λ (can : IsRecordable entry.caller entry.event answer). step_agrees given entry.caller state standing sound shows entry.event legal.1 can) can_be.0 in (
      agrees,
      history_agrees given (step state entry.event).state (seen standing entry) entries legal.4 can_be.1
          (given.sound state entry.event legal.1 sound) (entry_shown state standing entry legal.3 shows),
    )
