-- What servers that are alike answer, and where they go.
use Rattle.std.proofs.Common.{◌≡◌, ℕ, ◌+◌, ◌-◌, ◌==◌, nat_le, nat_lt, Bool, true, false, cond, List, [], ◌∷◌, ◌++◌, length, map, Option, Some, None, is_some}
use Rattle.std.proofs.Common.{refl, sym, ap, ◌∙◌, subst, arith}
use Rattle.std.specs.Prelude.{option_map}
use Rattle.std.specs.Option.{option_or}
use Rattle.std.specs.List.{list_any}
use Rattle.std.proofs.lemmas.List.{map-append}
use Rattle.osc_pattern.specs.Addresses.{is_proper_prefix}
use Rattle.osc_pattern.specs.Methods.{Method}
use Rattle.osc_message.specs.Reading.{pattern_of}
use Rattle.osc_message.specs.Arguments.{unknown_of}
use Rattle.osc_packet.specs.Units.{TimedUnit, blocks_of}
use Rattle.osc_packet.specs.Reading.{units_read}
use Rattle.osc_tree.specs.Registry.{Registry, id_at, id_above}
use Rattle.osc_tree.specs.Nodes.{new_nodes, free_nodes}
use Rattle.osc_tree.specs.Adding.{Refusal, taken, under_method, is_container, methods_full, nodes_full, full_refusal, add_refusal}
use Rattle.osc_tree.specs.Matching.{matching}
use Rattle.osc_queue.specs.Timed.{due_of}
use Rattle.osc_model.specs.declared.late.Late.{Late}
use Rattle.osc_model.specs.Limits.{Limits}
use Rattle.osc_model.specs.State.{State, Queued, AreNumbered, registry}
use Rattle.osc_model.specs.Counts.{queued_blocks, free_places, free_blocks}
use Rattle.osc_model.specs.Recordings.{entry_size}
use Rattle.osc_model.specs.Events.{Event, enrol, submit, add, remove, tick, release, Answer, number, callers_full, queued, units_full, pool_full, refused}
use Rattle.osc_model.specs.Events.{not_there, ticked, clock_back, released, nothing_due, Hit, Call, Invocation, room_in, adds_entry}
use Rattle.osc_model.specs.Step.{Stepped, step, decided, leaves, kept, kept_units, kept_numbered, enter_all, after_submit, add_at, remove_at, calls_of}
use Rattle.osc_model.specs.Step.{calls_from, hits_of, invocations_of, releases, release_first, recorded_as}
use Rattle.osc_model.proofs.Stepping.{no_room, noted, step_so, decided_so}
use Rattle.osc_model.proofs.Queues.{all_numbered}
use Rattle.osc_alike.specs.Alike.{address_of, Bare, bare_unit, AreAlike, bare_refusal, bare_hit, bare_answer, bare_call, StepAlike, HaveRoom, invoked_by}
use Rattle.osc_alike.specs.Alike.{after_events, ideal_by, ideal_after, PlaysAlike}
use Rattle.osc_alike.proofs.Tables.{Same, SameUnits, same_length, same_nodes, same_new, blank, same_at, same_above, same_any, same_without, same_on}
use Rattle.osc_alike.proofs.Tables.{same_matching, units_length, units_blocks, same_entered}

-- Calls.

abbrev called : ℕ → List ℕ → Method → Invocation
called index message method =
    record { unit = 0; call = record { index = index; id = 0; address = method.address; message = message } }

abbrev call_at : ℕ → List ℕ → List ℕ → Invocation
call_at index message address = record { unit = 0; call = record { index = index; id = 0; address = address; message = message } }

calls_in : (own index : ℕ) (message : List ℕ) (methods : List Method)
    → map bare_call (invocations_of own (map (λ
    (m : Method). let c : Call = record { index = index; id = m.id; address = m.address; message = message } in c) methods))
    ≡ map (call_at index message) (map address_of methods)
calls_in own index message [] = refl
calls_in own index message (method ∷ methods) =
    ap (λ (l : List Invocation). call_at index message method.address ∷ l) (calls_in own index message methods)

invoked_on : (own : ℕ) (first more : List Call)
    → map bare_call (invocations_of own (first ++ more)) ≡ map bare_call (invocations_of own first) ++ map bare_call (invocations_of own more)
invoked_on own first more =
    let with : Call → Invocation = λ call. record { unit = own; call = call } in
    ap (map bare_call) (map-append with first more) ∙ map-append bare_call (map with first) (map with more)

same_calls_of : (one two index : ℕ) (message : List ℕ) (xs ys : List Method) → Same xs ys
    → map bare_call (invocations_of one (calls_of xs index message)) ≡ map bare_call (invocations_of two (calls_of ys index message))
same_calls_of one two index message xs ys same = go (is_some (unknown_of message)) where
  pattern : List ℕ
  pattern = pattern_of message

  called_by : List Method → List Call
  called_by methods = map (λ (m : Method). let c : Call = record { index = index; id = m.id; address = m.address; message = message } in c)
      (matching pattern methods)

  both : map bare_call (invocations_of one (called_by xs)) ≡ map bare_call (invocations_of two (called_by ys))
  both = calls_in one index message (matching pattern xs) ∙ ap (map (call_at index message)) (same_matching pattern xs ys same)
      ∙ sym (calls_in two index message (matching pattern ys))

  go : (t : Bool) → map bare_call (invocations_of one (cond t [] (called_by xs))) ≡ map bare_call (invocations_of two (cond t [] (called_by ys)))
  go true = refl
  go false = both

same_calls : (one two index : ℕ) (messages : List (List ℕ)) (xs ys : List Method) → Same xs ys
    → map bare_call (invocations_of one (calls_from xs index messages)) ≡ map bare_call (invocations_of two (calls_from ys index messages))
same_calls one two index [] xs ys same = refl
same_calls one two index (message ∷ messages) xs ys same =
    invoked_on one (calls_of xs index message) (calls_from xs (index + 1) messages)
    ∙ ap (λ (l : List Invocation). l ++ map bare_call (invocations_of one (calls_from xs (index + 1) messages)))
    (same_calls_of one two index message xs ys same)
    ∙ ap (λ (l : List Invocation). map bare_call (invocations_of two (calls_of ys index message)) ++ l) (same_calls one two (index + 1) messages xs ys same)
    ∙ sym (invoked_on two (calls_of ys index message) (calls_from ys (index + 1) messages))

abbrev hit_in : Invocation → Hit
hit_in invocation = record { index = invocation.call.index; id = 0 }

hits_in_calls : (unit : ℕ) (calls : List Call) → map bare_hit (hits_of calls) ≡ map hit_in (map bare_call (invocations_of unit calls))
hits_in_calls unit [] = refl
hits_in_calls unit (call ∷ calls) = ap (λ (l : List Hit). record { index = call.index; id = 0 } ∷ l) (hits_in_calls unit calls)

same_hits : (one two index : ℕ) (messages : List (List ℕ)) (xs ys : List Method) → Same xs ys
    → map bare_hit (hits_of (calls_from xs index messages)) ≡ map bare_hit (hits_of (calls_from ys index messages))
same_hits one two index messages xs ys same =
    hits_in_calls one (calls_from xs index messages) ∙ ap (map hit_in) (same_calls one two index messages xs ys same)
    ∙ sym (hits_in_calls two (calls_from ys index messages))

-- Adding.

abbrev bare_or : Option Refusal → Option Refusal
bare_or refusal = option_map bare_refusal refusal

same_by : (at at2 above above2 : Option ℕ) (any any2 : Bool) (full full2 : Option Refusal) → blank at ≡ blank at2 → blank above ≡ blank above2 → any ≡ any2
    → bare_or full ≡ bare_or full2
    → bare_or (option_or (option_map taken at) (option_or (option_map under_method above) (cond any (Some is_container) full)))
    ≡ bare_or (option_or (option_map taken at2) (option_or (option_map under_method above2) (cond any2 (Some is_container) full2)))
same_by (Some x) (Some y) above above2 any any2 full full2 e f g h = refl
same_by (Some x) None above above2 any any2 full full2 e f g h = absurd (cc)
same_by None (Some y) above above2 any any2 full full2 e f g h = absurd (cc)
same_by None None (Some x) (Some y) any any2 full full2 e f g h = refl
same_by None None (Some x) None any any2 full full2 e f g h = absurd (cc)
same_by None None None (Some y) any any2 full full2 e f g h = absurd (cc)
same_by None None None None true true full full2 e f g h = refl
same_by None None None None true false full full2 e f g h = absurd (cc)
same_by None None None None false true full full2 e f g h = absurd (cc)
same_by None None None None false false full full2 e f g h = h

abbrev full_by : ℕ → ℕ → ℕ → ℕ → Option Refusal
full_by count limit free new =
    cond (count == limit) (Some (methods_full limit)) (cond (nat_lt free new) (Some (nodes_full new free)) None)

same_full : (one other : Registry) (address : List ℕ) → Same one.methods other.methods → one.method_limit ≡ other.method_limit
    → one.node_limit ≡ other.node_limit
    → full_refusal one address ≡ full_refusal other address
same_full one other address same methods nodes =
    let count : length one.methods ≡ length other.methods = same_length one.methods other.methods same in
    let new : new_nodes one.methods address ≡ new_nodes other.methods address = same_new one.methods other.methods address same in
    let free : free_nodes one ≡ free_nodes other = omega (arith, same_nodes one.methods other.methods same, nodes) in
    ap (λ (n : ℕ). full_by n one.method_limit (free_nodes one) (new_nodes one.methods address)) count
    ∙ ap (λ (n : ℕ). full_by (length other.methods) n (free_nodes one) (new_nodes one.methods address)) methods
    ∙ ap (λ (n : ℕ). full_by (length other.methods) other.method_limit n (new_nodes one.methods address)) free
    ∙ ap (λ (n : ℕ). full_by (length other.methods) other.method_limit (free_nodes other) n) new

same_refusal : (one other : Registry) (address : List ℕ) → Same one.methods other.methods → one.method_limit ≡ other.method_limit
    → one.node_limit ≡ other.node_limit → bare_or (add_refusal one address) ≡ bare_or (add_refusal other address)
same_refusal one other address same methods nodes =
    same_by (id_at one.methods address) (id_at other.methods address) (id_above one.methods address) (id_above other.methods address)
    (list_any (λ (m : Method). is_proper_prefix address m.address) one.methods) (list_any (λ (m : Method). is_proper_prefix address m.address) other.methods)
    (full_refusal one address) (full_refusal other address) (same_at one.methods other.methods address same) (same_above one.methods other.methods address same)
    (same_any (is_proper_prefix address) one.methods other.methods same) (ap bare_or (same_full one other address same methods nodes))

-- One event.

stays : (event : Event) (one other : State) (a b : Answer) → AreAlike one other → bare_answer a ≡ bare_answer b
    → StepAlike event (leaves one a) (leaves other b)
stays event one other a b alike same = record { answer = λ no. same; invocations = refl; state = alike }

enrol_alike : (one other : State) → AreAlike one other → StepAlike enrol (decided one enrol) (decided other enrol)
enrol_alike one other alike = go (one.callers == one.caps.callers) (other.callers == other.caps.callers) where
  go : (t u : Bool) → StepAlike enrol (cond t (leaves one callers_full) (leaves (record one { callers = one.callers + 1 }) (number one.callers)))
      (cond u (leaves other callers_full) (leaves (record other { callers = other.callers + 1 }) (number other.callers)))
  go true true = record { answer = λ no. absurd (no refl); invocations = refl; state = alike }
  go true false = record {
    answer = λ no. absurd (no refl);
    invocations = refl;
    state = record { caps = alike.caps; methods = alike.methods; queue = alike.queue; clock = alike.clock };
  }
  go false true = record {
    answer = λ no. absurd (no refl);
    invocations = refl;
    state = record { caps = alike.caps; methods = alike.methods; queue = alike.queue; clock = alike.clock };
  }
  go false false = record {
    answer = λ no. absurd (no refl);
    invocations = refl;
    state = record { caps = alike.caps; methods = alike.methods; queue = alike.queue; clock = alike.clock };
  }

submit_alike : (packet : List ℕ) (one other : State) → AreNumbered one.next_unit one.queue → AreNumbered other.next_unit other.queue → AreAlike one other
    → StepAlike (submit packet) (decided one (submit packet)) (decided other (submit packet))
submit_alike packet one other s1 s2 alike =
    go (nat_lt (free_places one) (length keeps)) (nat_lt (free_blocks one) (blocks_of keeps)) (nat_lt (free_places other) (length keeps2))
    (nat_lt (free_blocks other) (blocks_of keeps2))
    (ap (λ (n : ℕ). nat_lt n (length keeps)) places ∙ ap (λ (l : List TimedUnit). nat_lt (free_places other) (length l)) same)
    (ap (λ (n : ℕ). nat_lt n (blocks_of keeps)) room ∙ ap (λ (l : List TimedUnit). nat_lt (free_blocks other) (blocks_of l)) same) where
      units : List TimedUnit
      units = units_read packet

      keeps : List TimedUnit
      keeps = kept_units one units

      keeps2 : List TimedUnit
      keeps2 = kept_units other units

      late : one.caps.late ≡ other.caps.late
      late = ap (λ (c : Limits). c.late) alike.caps

      same : keeps ≡ keeps2
      same = ap (λ (l : Late). kept l one.clock units) late ∙ ap (λ (n : ℕ). kept other.caps.late n units) alike.clock

      places : free_places one ≡ free_places other
      places = ap (λ (n : ℕ). n - length one.queue) (ap (λ (c : Limits). c.units) alike.caps)
          ∙ ap (λ (n : ℕ). other.caps.units - n) (units_length one.queue other.queue alike.queue)

      room : free_blocks one ≡ free_blocks other
      room = ap (λ (n : ℕ). n - queued_blocks one.queue) (ap (λ (c : Limits). c.blocks) alike.caps)
          ∙ ap (λ (n : ℕ). other.caps.blocks - n) (units_blocks one.queue other.queue alike.queue)

      after : AreAlike (after_submit one units) (after_submit other units)
      after = record {
        caps = alike.caps;
        methods = alike.methods;
        queue = same_entered one.caps.late one.clock one.next_unit other.next_unit units one.queue other.queue s1 s2 alike.queue
            ∙ ap (λ (l : Late). map bare_unit (entering l one.clock)) late
            ∙ ap (λ (n : ℕ). map bare_unit (entering other.caps.late n)) alike.clock;
        clock = alike.clock;
      } where
        entering : Late → ℕ → List Queued
        entering l n = enter_all (kept_numbered l n other.next_unit units) other.queue

      go : (t u v w : Bool) → t ≡ v → u ≡ w → StepAlike (submit packet)
          (cond t (leaves one (units_full (record { need = length keeps; free = free_places one })))
          (cond u (leaves one (pool_full (record { need = blocks_of keeps; free = free_blocks one })))
          (leaves (after_submit one units) (queued one.next_unit (length units) (length units - length keeps)))))
          (cond v (leaves other (units_full (record { need = length keeps2; free = free_places other })))
          (cond w (leaves other (pool_full (record { need = blocks_of keeps2; free = free_blocks other })))
          (leaves (after_submit other units) (queued other.next_unit (length units) (length units - length keeps2)))))
      go true u true w e f = stays (submit packet) one other _ _ alike
          (ap (λ (n : ℕ). units_full (record { need = n; free = free_places one })) (ap length same)
          ∙ ap (λ (n : ℕ). units_full (record { need = length keeps2; free = n })) places)
      go false true false true e f = stays (submit packet) one other _ _ alike
          (ap (λ (n : ℕ). pool_full (record { need = n; free = free_blocks one })) (ap blocks_of same)
          ∙ ap (λ (n : ℕ). pool_full (record { need = blocks_of keeps2; free = n })) room)
      go false false false false e f = record {
        answer = λ no. ap (λ (n : ℕ). queued 0 (length units) (length units - n)) (ap length same);
        invocations = refl;
        state = after;
      }
      go true u false w e f = absurd (cc)
      go false u true w e f = absurd (cc)
      go false true false false e f = absurd (cc)
      go false false false true e f = absurd (cc)

add_alike : (address : List ℕ) (one other : State) → AreAlike one other → StepAlike (add address) (decided one (add address)) (decided other (add address))
add_alike address one other alike =
    go (add_refusal (registry one) address) (add_refusal (registry other) address)
    (same_refusal (registry one) (registry other) address alike.methods (ap (λ (c : Limits). c.methods) alike.caps) (ap (λ
    (c : Limits). c.nodes) alike.caps)) where
      go : (r q : Option Refusal) → bare_or r ≡ bare_or q → StepAlike (add address) (add_at one address r) (add_at other address q)
      go None None e = record {
        answer = λ no. refl;
        invocations = refl;
        state = record {
          caps = alike.caps;
          methods = same_on one.methods other.methods (record { id = one.next_id; address = address })
              (record { id = other.next_id; address = address }) alike.methods refl;
          queue = alike.queue;
          clock = alike.clock;
        };
      }
      go (Some x) (Some y) e = stays (add address) one other (refused x) (refused y) alike (ap refused (some_same e)) where
        some_same : {a b : Refusal} → Some a ≡ Some b → a ≡ b
        some_same e = cc
      go None (Some y) e = absurd (cc)
      go (Some x) None e = absurd (cc)

remove_alike : (address : List ℕ) (one other : State) → AreAlike one other
    → StepAlike (remove address) (decided one (remove address)) (decided other (remove address))
remove_alike address one other alike = go (id_at one.methods address) (id_at other.methods address)
    (same_at one.methods other.methods address alike.methods) where
      go : (r q : Option ℕ) → blank r ≡ blank q → StepAlike (remove address) (remove_at one address r) (remove_at other address q)
      go None None e = stays (remove address) one other not_there not_there alike refl
      go (Some x) (Some y) e = record {
        answer = λ no. refl;
        invocations = refl;
        state = record { caps = alike.caps; methods = same_without one.methods other.methods address alike.methods; queue = alike.queue; clock = alike.clock };
      }
      go None (Some y) e = absurd (cc)
      go (Some x) None e = absurd (cc)

tick_alike : (now : ℕ) (one other : State) → AreAlike one other → StepAlike (tick now) (decided one (tick now)) (decided other (tick now))
tick_alike now one other alike = go (nat_lt now one.clock) (nat_lt now other.clock) (ap (λ (n : ℕ). nat_lt now n) alike.clock) where
  go : (t u : Bool) → t ≡ u → StepAlike (tick now) (cond t (leaves one (clock_back one.clock)) (leaves (record one { clock = now }) ticked))
      (cond u (leaves other (clock_back other.clock)) (leaves (record other { clock = now }) ticked))
  go true true e = stays (tick now) one other (clock_back one.clock) (clock_back other.clock) alike (ap clock_back alike.clock)
  go false false e = record {
    answer = λ no. refl;
    invocations = refl;
    state = record { caps = alike.caps; methods = alike.methods; queue = alike.queue; clock = refl };
  }
  go true false e = absurd (cc)
  go false true e = absurd (cc)

abbrev head_bare : Bare → List Bare → Bare
head_bare default [] = default
head_bare default (bare ∷ bares) = bare

abbrev tail_bare : List Bare → List Bare
tail_bare [] = []
tail_bare (bare ∷ bares) = bares

release_alike : (one other : State) → AreAlike one other → StepAlike release (decided one release) (decided other release)
release_alike one other alike = go one.queue other.queue alike.queue where
  go : (xs ys : List Queued) → SameUnits xs ys → StepAlike release (release_first one xs) (release_first other ys)
  go [] [] e = stays release one other (nothing_due None) (nothing_due None) alike refl
  go [] (y ∷ ys) e = absurd (cc)
  go (x ∷ xs) [] e = absurd (cc)
  go (x ∷ xs) (y ∷ ys) e = cases (nat_le (due_of x) one.clock) (nat_le (due_of y) other.clock)
      (ap (λ (n : ℕ). nat_le n one.clock) due ∙ ap (λ (n : ℕ). nat_le (due_of y) n) alike.clock) where
        heads : bare_unit x ≡ bare_unit y
        heads = ap (head_bare (bare_unit x)) e

        rest : SameUnits xs ys
        rest = ap tail_bare e

        due : due_of x ≡ due_of y
        due = ap (λ (b : Bare). b.due) heads

        messages : (x.2).messages ≡ (y.2).messages
        messages = ap (λ (b : Bare). b.unit.messages) heads

        called_alike : map bare_call (invocations_of x.1 (calls_from one.methods 0 (x.2).messages))
            ≡ map bare_call (invocations_of y.1 (calls_from other.methods 0 (y.2).messages))
        called_alike = same_calls x.1 y.1 0 (x.2).messages one.methods other.methods alike.methods
            ∙ ap (λ (l : List (List ℕ)). map bare_call (invocations_of y.1 (calls_from other.methods 0 l))) messages

        hits_alike : map bare_hit (hits_of (calls_from one.methods 0 (x.2).messages)) ≡ map bare_hit (hits_of (calls_from other.methods 0 (y.2).messages))
        hits_alike = same_hits x.1 y.1 0 (x.2).messages one.methods other.methods alike.methods
            ∙ ap (λ (l : List (List ℕ)). map bare_hit (hits_of (calls_from other.methods 0 l))) messages

        cases : (t u : Bool) → t ≡ u → StepAlike release (cond t (releases one x xs) (leaves one (nothing_due (Some (due_of x)))))
            (cond u (releases other y ys) (leaves other (nothing_due (Some (due_of y)))))
        cases true true e = record {
          answer = λ no. ap (released 0) hits_alike;
          invocations = called_alike;
          state = record { caps = alike.caps; methods = alike.methods; queue = rest; clock = alike.clock };
        }
        cases false false e = stays release one other (nothing_due (Some (due_of x))) (nothing_due (Some (due_of y))) alike (ap (λ (n : ℕ). nothing_due
            (Some n)) due)
        cases true false e = absurd (cc)
        cases false true e = absurd (cc)

pub decided_alike : (event : Event) (one other : State) → AreNumbered one.next_unit one.queue → AreNumbered other.next_unit other.queue → AreAlike one other
    → StepAlike event (decided one event) (decided other event)
decided_alike enrol one other s1 s2 alike = enrol_alike one other alike
decided_alike (submit packet) one other s1 s2 alike = submit_alike packet one other s1 s2 alike
decided_alike (add address) one other s1 s2 alike = add_alike address one other alike
decided_alike (remove address) one other s1 s2 alike = remove_alike address one other alike
decided_alike (tick now) one other s1 s2 alike = tick_alike now one other alike
decided_alike release one other s1 s2 alike = release_alike one other alike

-- where there is room, a step is what was decided, but for what is recorded

abbrev with_recorded : Stepped → ℕ → Stepped
with_recorded d n = record d { state = record d.state { recorded = n } }

step_kept : (state : State) (event : Event) → room_in (step state event).answer ≡ None
    → (n : ℕ) × (step state event ≡ with_recorded (decided state event) n)
step_kept state event room = go (decided state event) (adds_entry (decided state event).answer) room where
  size : ℕ
  size = entry_size event (decided state event).answer

  go : (d : Stepped) (t : Bool) → room_in (cond t (recorded_as state size d) d).answer ≡ None
      → (n : ℕ) × (cond t (recorded_as state size d) d ≡ with_recorded d n)
  go d false room = (d.state.recorded, refl)
  go d true room = cases (nat_lt (state.caps.recording - state.recorded) size) room where
    cases : (u : Bool) → room_in (cond u (no_room state size) (noted state size d)).answer ≡ None
        → (n : ℕ) × (cond u (no_room state size) (noted state size d) ≡ with_recorded d n)
    cases true room = absurd (cc)
    cases false room = (state.recorded + size, refl)

with_alike : (event : Event) (d e : Stepped) (n : ℕ) → StepAlike event d e → StepAlike event d (with_recorded e n)
with_alike event d e n alike =
    let state = alike.state in
    record {
      answer = alike.answer;
      invocations = alike.invocations;
      state = record { caps = state.caps; methods = state.methods; queue = state.queue; clock = state.clock };
    }

pub step_alike : (ideal real : State) (event : Event) → AreNumbered ideal.next_unit ideal.queue → AreNumbered real.next_unit real.queue → AreAlike ideal real
    → room_in (step real event).answer ≡ None → StepAlike event (decided ideal event) (step real event)
step_alike ideal real event n1 n2 alike room =
    let kept = step_kept real event room in
    subst (λ (e : Stepped). StepAlike event (decided ideal event) e) (sym kept.1)
    (with_alike event (decided ideal event) (decided real event) kept.0 (decided_alike event ideal real n1 n2 alike))

-- numbers that were given stay below the next one

abbrev Numbers : Event → Stepped → Type 0
Numbers event stepped = AreNumbered stepped.state.next_unit stepped.state.queue

decided_numbers : (state : State) (event : Event) → AreNumbered state.next_unit state.queue → Numbers event (decided state event)
decided_numbers state event below = decided_so Numbers state event (record {
  refused = λ event answer is. below;
  enrolled = below;
  queued = λ packet. all_numbered state.caps.late state.clock state.next_unit (units_read packet) state.queue below;
  added = λ address. below;
  removed = λ address id. below;
  ticked = λ now up. below;
  released = λ unit units is. (subst (AreNumbered state.next_unit) is below).1;
})

step_numbers : (state : State) (event : Event) → AreNumbered state.next_unit state.queue → Numbers event (step state event)
step_numbers state event below =
    let done = decided_numbers state event below in
    step_so (Numbers event) state event (record { silent = λ is. done; full = λ is less. below; room = λ is less. done })

pub ideal_numbers : (state : State) (events : List Event) → AreNumbered state.next_unit state.queue
    → AreNumbered (ideal_after state events).next_unit (ideal_after state events).queue
ideal_numbers state [] below = below
ideal_numbers state (event ∷ events) below = ideal_numbers (decided state event).state events (decided_numbers state event below)

pub real_numbers : (state : State) (events : List Event) → AreNumbered state.next_unit state.queue
    → AreNumbered (after_events state events).next_unit (after_events state events).queue
real_numbers state [] below = below
real_numbers state (event ∷ events) below = real_numbers (step state event).state events (step_numbers state event below)

pub events_alike : (ideal real : State) (events : List Event) → AreNumbered ideal.next_unit ideal.queue → AreNumbered real.next_unit real.queue
    → AreAlike ideal real → HaveRoom real events → PlaysAlike ideal real events
events_alike ideal real [] n1 n2 alike room = record { invocations = refl; state = alike }
events_alike ideal real (event ∷ events) n1 n2 alike room =
    let here : StepAlike event (decided ideal event) (step real event) = step_alike ideal real event n1 n2 alike room.0 in
    let rest : PlaysAlike (decided ideal event).state (step real event).state events =
    events_alike (decided ideal event).state (step real event).state events (decided_numbers ideal event n1) (step_numbers real event n2) here.state room.1 in
    record {
      invocations = map-append bare_call (decided ideal event).invocations (ideal_by (decided ideal event).state events)
          ∙ ap (λ (l : List Invocation). l ++ map bare_call (ideal_by (decided ideal event).state events)) here.invocations
          ∙ ap (λ (l : List Invocation). map bare_call (step real event).invocations ++ l) rest.invocations
          ∙ sym (map-append bare_call (step real event).invocations (invoked_by (step real event).state events));
      state = rest.state;
    }
