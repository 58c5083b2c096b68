-- What a server answers fits into the messages of its recording.
use Rattle.std.proofs.Common.{◌≡◌, ◌↔◌, ℕ, ◌+◌, ◌-◌, ◌*◌, ◌<◌, ◌≤◌, ◌/◌, ◌^◌, ◌==◌, ◌&&◌, Bool, true, false, not, cond, nat_le, nat_lt, IsTrue, pos, List, []}
use Rattle.std.proofs.Common.{◌∷◌}
use Rattle.std.proofs.Common.{◌++◌, length, find, Option, Some, None, refl, sym, ap, ◌∙◌, arith, eqb-true}
use Rattle.std.specs.Prelude.{IfSome, FitsSigned}
use Rattle.std.specs.Option.{option_map, option_or}
use Rattle.std.specs.Int.{w32, w64}
use Rattle.std.specs.List.{AllByRecursion, list_any, slice_split, join_with_byte}
use Rattle.std.specs.Str.{bytes_eq}
use Rattle.std.proofs.Math.Facts.{sfits_lit}
use Rattle.std.proofs.lemmas.Bool.{ltb-true, and_from, or_parts}
use Rattle.std.proofs.lemmas.List.Elements.{recursion_from_All, All-contains}
use Rattle.std.proofs.lemmas.List.{length-map}
use Rattle.std.proofs.lemmas.Bool.Decides.{nat_tests}
use Rattle.std.proofs.lemmas.List.Folds.{list_all-append}
use Rattle.std.proofs.lemmas.List.Splits.{join_with_byte-slice_split}
use Rattle.std.proofs.lemmas.List.Sums.{count_by-le-length}
use Rattle.osc_atoms.specs.Atoms.{has_no_zero}
use Rattle.osc_pattern.specs.Items.{is_slash}
use Rattle.osc_pattern.specs.Addresses.{IsAddress, is_address, is_bad_byte, is_proper_prefix}
use Rattle.osc_pattern.specs.Methods.{Method, prefixes_of, runs_of}
use Rattle.osc_pattern.specs.Patterns.{parts_of}
use Rattle.osc_packet.specs.Units.{TimedUnit, stored_size, blocks_of}
use Rattle.osc_packet.specs.Reading.{is_packet, packet_fault, units_read}
use Rattle.osc_packet.proofs.Few.{sound, units_few}
use Rattle.osc_packet.proofs.Bodies.{count_stored}
use Rattle.osc_queue.specs.Timed.{due_of, unit_of}
use Rattle.osc_message.specs.Messages.{AllFit}
use Rattle.osc_tree.specs.Registry.{Registry, id_at, id_above}
use Rattle.osc_tree.specs.Nodes.{has_node, new_nodes, free_nodes}
use Rattle.osc_tree.specs.Adding.{Refusal, taken, under_method, is_container, methods_full, nodes_full, full_refusal, add_refusal}
use Rattle.osc_model.specs.State.{State, Queued, AreNumbered, registry}
use Rattle.osc_model.specs.Counts.{queued_blocks, free_places, free_blocks, free_bytes}
use Rattle.osc_model.specs.Recordings.{IsHit, IsRecordable, IsSound as IsSoundAnswer, entry_size, refusing, submit_row}
use Rattle.osc_model.specs.Events.{Event, enrol, submit, add, remove, tick, release, number, callers_full, queued, units_full, pool_full, refused, ticked}
use Rattle.osc_model.specs.Events.{clock_back, nothing_due, adds_entry, Call}
use Rattle.osc_model.specs.Step.{decided, leaves, kept_units, submit_kept, after_submit, add_at, remove_at, releases, release_first, calls_of_unit, hits_of}
use Rattle.osc_model.specs.Step.{invocations_of}
use Rattle.osc_model.specs.History.{IsLawful, IsSound, IsCounted}
use Rattle.osc_model.proofs.Calls.{MatchesExactly, all_more, unit_calls}
use Rattle.osc_model.proofs.Blocks.{packet_few, no_fault}
use Rattle.osc_model.proofs.Queues.{kept_few, kept_blocks_few}
use Rattle.osc_model.specs.declared.late.Late.{Late}
use Rattle.osc_model.proofs.Sizes.{length-hits_text}

-- what is known of a server's numbers
pub record IsSmall (state : State) : Type 0 where
  pub sound : IsSound state
  pub counted : IsCounted state
  pub clock : state.clock < 2 ^ 64

int_fits : (n : ℕ) → n < 2 ^ 31 → FitsSigned w32 (pos n)
int_fits n small = record { sfits = small }

long_fits : (n : ℕ) → n < 2 ^ 63 → FitsSigned w64 (pos n)
long_fits n small = record { sfits = small }

-- Numbers that are given.

pub record Given (state : State) : Type 0 where
  pub ids : state.next_id < 2 ^ 31
  pub units : state.next_unit < 2 ^ 31

given : (state : State) → IsSmall state → Given state
given state small =
    let recording = small.sound.caps.recording.below in
    let within = small.counted.within in
    let ids = small.counted.ids in
    let units = small.counted.units in
    record { ids = omega arith; units = omega arith }

ids_fit : (state : State) → IsSmall state → AllByRecursion (λ method. method.id < 2 ^ 31) state.methods
ids_fit state small =
    all_more _ _ (λ method below. let most = (given state small).ids in omega arith) state.methods
    (recursion_from_All (λ method. method.id < state.next_id) state.methods small.sound.ids)

-- The answers to an enrolling caller.

enrol_fits : (caller : ℕ) (state : State) → caller < 2 ^ 31 → state.callers < 2 ^ 31 → IsRecordable caller enrol (decided state enrol).answer
enrol_fits caller state few many = go (state.callers == state.caps.callers) where
  go : (t : Bool)
      → IsRecordable caller enrol (cond t (leaves state callers_full) (leaves (record state { callers = state.callers + 1 }) (number state.callers))).answer
  go true = record { fits = (int_fits caller few, (sfits_lit tt, tt)); sound = tt }
  go false = record { fits = (int_fits caller few, (int_fits state.callers many, tt)); sound = tt }

-- The answers to a packet.

submit_row_fits : (caller : ℕ) (packet : List ℕ) (code first count late : ℕ) → caller < 2 ^ 31 → length packet ≤ 65504 → code < 2 ^ 31 → first < 2 ^ 63
    → count < 2 ^ 31 → late < 2 ^ 31 → AllFit (submit_row caller packet (code, first, count, late)).arguments
submit_row_fits caller packet code first count late few short small big fits last =
    (int_fits caller few, (omega arith, (int_fits code small, (long_fits first big, (int_fits count fits, (int_fits late last, tt))))))

submit_fits : (caller : ℕ) (state : State) (packet : List ℕ) → caller < 2 ^ 31 → IsSmall state → IsTrue (is_packet 65504 packet)
    → IsRecordable caller (submit packet) (decided state (submit packet)).answer
submit_fits caller state packet few small lawful =
    go units (kept_units state units) (units_few packet silent) (kept_few late state.clock units)
    (at_most _ _ _ (kept_blocks_few late state.clock units) (packet_few packet silent))
  where
    units : List TimedUnit
    units = units_read packet

    late : Late
    late = state.caps.late

    at_most : (a b c : ℕ) → a ≤ b → b ≤ c → a ≤ c
    at_most a b c first second = omega arith

    silent : packet_fault 65504 packet ≡ None
    silent = no_fault packet lawful

    short : length packet ≤ 65504
    short = (sound packet silent).short

    places : state.caps.units ≤ 1048576
    places = small.sound.caps.units.below

    most : state.caps.blocks ≤ 1048576
    most = small.sound.caps.blocks.below

    go : (units keeps : List TimedUnit) → length units ≤ 65504 → length keeps ≤ length units → blocks_of keeps ≤ 65508
        → IsRecordable caller (submit packet) (submit_kept state units keeps).answer
    go units keeps count fewer size = cases (nat_lt (free_places state) (length keeps)) refl (nat_lt (free_blocks state) (blocks_of keeps)) refl where
      cases : (t : Bool) → nat_lt (free_places state) (length keeps) ≡ t → (u : Bool) → nat_lt (free_blocks state) (blocks_of keeps) ≡ u
          → IsRecordable caller (submit packet) (cond t (leaves state (units_full (record { need = length keeps; free = free_places state })))
          (cond u (leaves state (pool_full (record { need = blocks_of keeps; free = free_blocks state })))
          (leaves (after_submit state units) (queued state.next_unit (length units) (length units - length keeps))))).answer
      cases true is u fits =
          record {
            fits = submit_row_fits caller packet 1 (length keeps) (free_places state) 0 few short (omega arith) (omega arith) (omega arith) (omega arith);
            sound = ltb-true _ _ is;
          }
      cases false is true fits =
          record {
            fits = submit_row_fits caller packet 2 (blocks_of keeps) (free_blocks state) 0 few short (omega arith) (omega arith) (omega arith) (omega arith);
            sound = ltb-true _ _ fits;
          }
      cases false is false fits =
          let units_given = (given state small).units in
          record {
            fits = submit_row_fits caller packet 0 state.next_unit (length units) (length units - length keeps) few short (omega arith) (omega arith)
                (omega arith) (omega arith);
            sound = omega arith;
          }

-- The answers to an address.

some_mapped : {X Y : Type 0} (P : Y → Type 0) (f : X → Y) (o : Option X) → IfSome o (λ x. P (f x)) → IfSome (option_map f o) P
some_mapped P f None is = tt
some_mapped P f (Some x) is = is

some_or : {X : Type 0} (P : X → Type 0) (o more : Option X) → IfSome o P → IfSome more P → IfSome (option_or o more) P
some_or P None more is other = other
some_or P (Some x) more is other = is

some_found : {X : Type 0} (P : X → Type 0) (test : X → Bool) (xs : List X) → AllByRecursion P xs → IfSome (find test xs) P
some_found P test [] all = tt
some_found {X} P test (x ∷ xs) all = go (test x) (some_found P test xs all.1) where
  go : (t : Bool) → IfSome (find test xs) P → IfSome (cond t (Some x) (find test xs)) P
  go true more = all.0
  go false more = more

-- the numbers of a refusal fit, and more is needed than is free
record FitsRefusal (why : Refusal) : Type 0 where
  pub code : (refusing why).0 < 2 ^ 31
  pub first : (refusing why).1 < 2 ^ 31
  pub second : (refusing why).2 < 2 ^ 31
  pub sound : IsSoundAnswer (refused why)

length-runs : (names : List (List ℕ)) → length (runs_of names) ≡ length names
length-runs [] = refl
length-runs (name ∷ names) = omega (arith, length-runs names, length-map (runs_of names) (λ (more : List ℕ). (47 ∷ name) ++ more))

few_nodes : (methods : List Method) (address : List ℕ) → IsAddress address → new_nodes methods address ≤ 16
few_nodes methods address spelled =
    omega (arith, count_by-le-length (λ prefix. not (has_node methods prefix)) (prefixes_of address), length-runs (parts_of address), spelled.few)

full_fits : (tree : Registry) (address : List ℕ) → tree.method_limit ≤ 65536 → tree.node_limit ≤ 1048576 → IsAddress address
    → IfSome (full_refusal tree address) FitsRefusal
full_fits tree address methods nodes_most spelled =
    go (length tree.methods == tree.method_limit) (nat_lt (free_nodes tree) (new_nodes tree.methods address)) refl where
      go : (t u : Bool) → nat_lt (free_nodes tree) (new_nodes tree.methods address) ≡ u
          → IfSome (cond t (Some (methods_full tree.method_limit)) (cond u (Some (nodes_full (new_nodes tree.methods address) (free_nodes tree))) None))
          FitsRefusal
      go true u is = record { code = omega arith; first = omega arith; second = omega arith; sound = tt }
      go false true is = record {
        code = omega arith;
        first = omega (arith, few_nodes tree.methods address spelled);
        second = omega arith;
        sound = ltb-true _ _
            is;
      }
      go false false is = tt

refusal_fits : (state : State) (address : List ℕ) → IsSmall state → IsAddress address → IfSome (add_refusal (registry state) address) FitsRefusal
refusal_fits state address small spelled =
    some_or FitsRefusal (option_map taken (id_at state.methods address)) _
    (some_mapped FitsRefusal taken (id_at state.methods address)
    (some_mapped (λ id. FitsRefusal (taken id)) (λ method. method.id) _
    (some_found (λ method. FitsRefusal (taken method.id)) (λ method. bytes_eq method.address address) state.methods
    (all_more _ _ (λ method below. record { code = omega arith; first = below; second = omega arith; sound = tt }) state.methods (ids_fit state small)))))
    (some_or FitsRefusal (option_map under_method (id_above state.methods address)) _
    (some_mapped FitsRefusal under_method (id_above state.methods address)
    (some_mapped (λ id. FitsRefusal (under_method id)) (λ method. method.id) _
    (some_found (λ method. FitsRefusal (under_method method.id)) (λ method. is_proper_prefix method.address address) state.methods
    (all_more _ _ (λ method below. record { code = omega arith; first = below; second = omega arith; sound = tt }) state.methods (ids_fit state small)))))
    (container (list_any (λ method. is_proper_prefix address method.address) state.methods)))
  where
    container : (t : Bool) → IfSome (cond t (Some is_container) (full_refusal (registry state) address)) FitsRefusal
    container true = record { code = omega arith; first = omega arith; second = omega arith; sound = tt }
    container false = full_fits (registry state) address small.sound.caps.methods.below small.sound.caps.nodes.below spelled

-- an address has no zero byte

name_byte : (b : ℕ) → is_bad_byte b ≡ false → not (b == 0) ≡ true
name_byte b good = let range = (or_parts (not (nat_le 0x21 b && nat_le b 0x7e)) _ good).0 in grind (arith, nat_tests)

name_nonzero : (name : List ℕ) → list_any is_bad_byte name ≡ false → has_no_zero name ≡ true
name_nonzero [] good = refl
name_nonzero (b ∷ name) good =
    let both = or_parts (is_bad_byte b) (list_any is_bad_byte name) good in
    and_from _ _ (name_byte b both.0) (name_nonzero name both.1)

names_nonzero : (names : List (List ℕ)) → AllByRecursion (λ name. list_any is_bad_byte name ≡ false) names → has_no_zero (join_with_byte 47 names) ≡ true
names_nonzero [] good = refl
names_nonzero (name ∷ []) good = name_nonzero name good.0
names_nonzero (name ∷ next ∷ names) good =
    list_all-append (λ byte. not (byte == 0)) name (47 ∷ join_with_byte 47 (next ∷ names))
    ∙ and_from _ _ (name_nonzero name good.0) (names_nonzero (next ∷ names) good.1)

address_nonzero : (address : List ℕ) → IsAddress address → has_no_zero address ≡ true
address_nonzero [] spelled = absurd (let slash = spelled.slash in cc)
address_nonzero (x ∷ rest) spelled =
    let first : x ≡ 47 = eqb-true x 47 spelled.slash in
    let names = names_nonzero (slice_split is_slash rest)
    (recursion_from_All (λ name. list_any is_bad_byte name ≡ false) (slice_split is_slash rest) spelled.spelled) in
    let behind : has_no_zero rest ≡ true = sym (ap has_no_zero (join_with_byte-slice_split 47 rest)) ∙ names in
    and_from _ _ (ap (λ (b : ℕ). not (b == 0)) first) behind

add_fits : (caller : ℕ) (state : State) (address : List ℕ) → caller < 2 ^ 31 → IsSmall state → IsAddress address
    → IsRecordable caller (add address) (decided state (add address)).answer
add_fits caller state address few small spelled = go (add_refusal (registry state) address) (refusal_fits state address small spelled) where
  go : (refusal : Option Refusal) → IfSome refusal FitsRefusal → IsRecordable caller (add address) (add_at state address refusal).answer
  go None fits =
      record {
        fits = (
          int_fits caller few,
          (address_nonzero address spelled, (int_fits 0 (omega arith), (int_fits state.next_id (given state small).ids, (int_fits 0 (omega arith), tt)))),
        );
        sound = tt;
      }
  go (Some why) fits =
      record {
        fits = (
          int_fits caller few,
          (
            address_nonzero address spelled,
            (int_fits (refusing why).0 fits.code, (int_fits (refusing why).1 fits.first, (int_fits (refusing why).2 fits.second, tt))),
          ),
        );
        sound = fits.sound;
      }

remove_fits : (caller : ℕ) (state : State) (address : List ℕ) → caller < 2 ^ 31 → IsSmall state → IsAddress address
    → IsRecordable caller (remove address) (decided state (remove address)).answer
remove_fits caller state address few small spelled = go (id_at state.methods address) found where
  found : IfSome (id_at state.methods address) (λ id. id < 2 ^ 31)
  found = some_mapped (λ id. id < 2 ^ 31) (λ method. method.id) _
      (some_found (λ method. method.id < 2 ^ 31) (λ method. bytes_eq method.address address) state.methods (ids_fit state small))

  go : (at : Option ℕ) → IfSome at (λ id. id < 2 ^ 31) → IsRecordable caller (remove address) (remove_at state address at).answer
  go None fits =
      record { fits = (int_fits caller few, (address_nonzero address spelled, (int_fits 1 (omega arith), (int_fits 0 (omega arith), tt)))); sound = tt }
  go (Some id) fits = record { fits = (int_fits caller few, (address_nonzero address spelled, (int_fits 0 (omega arith), (int_fits id fits, tt)))); sound = tt }

-- The answers to a moment.

tick_fits : (caller : ℕ) (state : State) (now : ℕ) → caller < 2 ^ 31 → state.clock < 2 ^ 64 → now < 2 ^ 64
    → IsRecordable caller (tick now) (decided state (tick now)).answer
tick_fits caller state now few clock moment = go (nat_lt now state.clock) where
  go : (t : Bool) → IsRecordable caller (tick now) (cond t (leaves state (clock_back state.clock)) (leaves (record state { clock = now }) ticked)).answer
  go true = record { fits = (int_fits caller few, (moment, (int_fits 1 (omega arith), (clock, tt)))); sound = tt }
  go false = record { fits = (int_fits caller few, (moment, (int_fits 0 (omega arith), (moment, tt)))); sound = tt }

-- The answers to a release.

-- a queued unit has few messages
few_messages : (unit : Queued) (units : List Queued) → queued_blocks (unit ∷ units) ≤ 1048576 → length unit.2.messages < 2 ^ 31
few_messages unit units few = let stored = count_stored unit.2.messages in let size = whole_blocks (stored_size unit.2.messages) in omega arith where
  whole_blocks : (size : ℕ) → size ≤ 64 * ((size + 63) / 64)
  whole_blocks size = omega arith

hits_fit : (unit : ℕ) (calls : List Call)
    → AllByRecursion (λ invocation. (invocation.call.index < 2 ^ 32) × (invocation.call.id < 2 ^ 32)) (invocations_of unit calls)
    → AllByRecursion IsHit (hits_of calls)
hits_fit unit [] fit = tt
hits_fit unit (call ∷ calls) fit = (record { index_fits = fit.0.0; id_fits = fit.0.1 }, hits_fit unit calls fit.1)

unit_hits : MatchesExactly → (state : State) (unit : Queued) → IsSmall state → length unit.2.messages < 2 ^ 31
    → AllByRecursion IsHit (hits_of (calls_of_unit state.methods unit))
unit_hits exactly state unit small few =
    let ids : state.next_id < 2 ^ 31 = (given state small).ids in
    hits_fit (unit_of unit) (calls_of_unit state.methods unit)
    (all_more _ _ (λ invocation call.
    let within = call.within in
    let below = All-contains (λ method. method.id < state.next_id) state.methods
    (record { id = invocation.call.id; address = invocation.call.address }) small.sound.ids call.registered in
    (omega arith, omega arith))
    (invocations_of (unit_of unit) (calls_of_unit state.methods unit)) (unit_calls exactly state unit))

release_fits : MatchesExactly → (caller : ℕ) (state : State) → caller < 2 ^ 31 → IsSmall state → adds_entry (decided state release).answer ≡ true
    → entry_size release (decided state release).answer ≤ 1073741824
    → IsRecordable caller release (decided state release).answer
release_fits exactly caller state few small adds room = go state.queue small.sound.numbers small.sound.few_blocks adds room where
  most : state.caps.blocks ≤ 1048576
  most = small.sound.caps.blocks.below

  go : (queue : List Queued) → AreNumbered state.next_unit queue → queued_blocks queue ≤ state.caps.blocks
      → adds_entry (release_first state queue).answer ≡ true → entry_size release (release_first state queue).answer ≤ 1073741824
      → IsRecordable caller release (release_first state queue).answer
  go [] numbers size some fits = absurd (cc)
  go (unit ∷ units) numbers size some fits = due (nat_le (due_of unit) state.clock) some fits where
    due : (t : Bool) → adds_entry (cond t (releases state unit units) (leaves state (nothing_due (Some (due_of unit))))).answer ≡ true
        → entry_size release (cond t (releases state unit units) (leaves state (nothing_due (Some (due_of unit))))).answer ≤ 1073741824
        → IsRecordable caller release (cond t (releases state unit units) (leaves state (nothing_due (Some (due_of unit))))).answer
    due false some fits = absurd (cc)
    due true some fits =
        let hits = hits_of (calls_of_unit state.methods unit) in
        let below : unit_of unit < state.next_unit = numbers.0 in
        let last : state.next_unit < 2 ^ 31 = (given state small).units in
        let entry : 44 + 8 * length hits ≤ 1073741824 = fits in
        record {
          fits = (int_fits caller few, (long_fits (unit_of unit) (omega arith), (omega (arith, length-hits_text hits), tt)));
          sound = unit_hits exactly state unit small (few_messages unit units (omega arith));
        }

-- what is known of addresses and of matching
pub record OfAnswers : Type 0 where
  pub spelled : (bytes : List ℕ) → (IsTrue (is_address bytes) ↔ IsAddress bytes)
  pub exactly : MatchesExactly

-- an answer whose entry isn't larger than a recording can be recorded
pub sized_fits : OfAnswers → (caller : ℕ) (state : State) (event : Event) → caller < state.callers → IsSmall state → IsLawful event
    → adds_entry (decided state event).answer ≡ true → entry_size event (decided state event).answer ≤ 1073741824
    → IsRecordable caller event (decided state event).answer
sized_fits of caller state event enrolled small lawful adds room = go event lawful adds room where
  many : state.callers ≤ 1024
  many = let callers = small.sound.callers in let most = small.sound.caps.callers.below in omega arith

  few : caller < 2 ^ 31
  few = omega arith

  go : (event : Event) → IsLawful event → adds_entry (decided state event).answer ≡ true → entry_size event (decided state event).answer ≤ 1073741824
      → IsRecordable caller event (decided state event).answer
  go enrol lawful adds room = enrol_fits caller state few (omega arith)
  go (submit packet) lawful adds room = submit_fits caller state packet few small lawful
  go (add address) lawful adds room = add_fits caller state address few small ((of.spelled address).0 lawful)
  go (remove address) lawful adds room = remove_fits caller state address few small ((of.spelled address).0 lawful)
  go (tick now) lawful adds room = tick_fits caller state now few small.clock lawful
  go release lawful adds room = release_fits of.exactly caller state few small adds room

-- where the answer adds an entry for which there is room, it can be recorded
pub decided_fits : OfAnswers → (caller : ℕ) (state : State) (event : Event) → caller < state.callers → IsSmall state → IsLawful event
    → adds_entry (decided state event).answer ≡ true → entry_size event (decided state event).answer ≤ free_bytes state
    → IsRecordable caller event (decided state event).answer
decided_fits of caller state event enrolled small lawful adds room =
    let most = small.sound.caps.recording.below in
    sized_fits of caller state event enrolled small lawful adds (omega arith)
