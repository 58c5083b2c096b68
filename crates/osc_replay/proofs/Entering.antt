-- What the rules give where an entry is added, and where it isn't.
use Rattle.std.proofs.Common.{◌≡◌, ℕ, ◌+◌, ◌%◌, ◌<◌, ◌≤◌, Bool, true, false, List, ◌∷◌, length, Some, refl, sym, ap, ◌∙◌, arith, le-leb}
use Rattle.std.proofs.lemmas.Bool.{cond-true}
use Rattle.std.specs.List.{flat_map, AllByRecursion}
use Rattle.osc_print.specs.Entries.{invocation_text}
use Rattle.osc_packet.specs.Units.{TimedUnit}
use Rattle.osc_queue.specs.Timed.{TimedQueue, due_of, unit_of}
use Rattle.osc_tree.specs.Registry.{Registry}
use Rattle.osc_model.specs.declared.late.Late.{Late}
use Rattle.osc_model.specs.State.{State, Queued, registry}
use Rattle.osc_model.specs.Counts.{free_bytes}
use Rattle.osc_model.specs.Events.{Event, add, release, released, refused, adds_entry, Hit, Call}
use Rattle.osc_model.specs.Recordings.{IsHit, hits_in, entry_size}
use Rattle.osc_model.specs.Step.{Stepped, leaves, add_at, decided, step, release_first, releases, calls_of_unit, hits_of}
use Rattle.osc_model.proofs.Sizes.{length-hits_text}
use Rattle.osc_model.proofs.Refusals.{full_refuses, room_records, none_decided}
use Rattle.osc_tree.specs.Adding.{Refusal, add_refusal}
use Rattle.osc_record.specs.declared.event.Answer.{Answer as Given}
use Rattle.osc_record.specs.Shown.{answer_of, HasWholeHits}
use Rattle.osc_record.proofs.Lawful.{hits_again}
use Rattle.osc_replay.specs.Calls.{hits_bytes, line_where, call_lines}
use Rattle.osc_replay.specs.Playing.{Decides, Enters}

-- the state of a server with these parts
abbrev pub server_state : Registry → TimedQueue TimedUnit → (blocks clock next_id next_unit callers caller_limit recorded record_limit : ℕ) → Late → State
server_state tree queue blocks clock next_id next_unit callers caller_limit recorded record_limit late = record {
  caps = record {
    units = queue.limit;
    blocks = blocks;
    methods = tree.method_limit;
    nodes = tree.node_limit;
    callers = caller_limit;
    recording = record_limit;
    late = late;
  };
  methods = tree.methods;
  queue = queue.items;
  clock = clock;
  next_id = next_id;
  next_unit = next_unit;
  callers = callers;
  recorded = recorded;
}

-- where there is no room for its entry, an event adds none
pub full_adds_none : (state : State) (event : Event) → free_bytes state < entry_size event (decided state event).answer
    → adds_entry (step state event).answer ≡ false
full_adds_none state event full = go (adds_entry (decided state event).answer) refl where
  go : (t : Bool) → adds_entry (decided state event).answer ≡ t → adds_entry (step state event).answer ≡ false
  go true adds = ap (λ (s : Stepped). adds_entry s.answer) (full_refuses state event adds full)
  go false adds = ap (λ (s : Stepped). adds_entry s.answer) (none_decided state event adds) ∙ adds

-- an address that is refused is answered so, and all stays
pub add_refuses : (old new : State) (given address : List ℕ) (answer : Given) (why : Refusal) → given ≡ address → Some why ≡ add_refusal (registry old) given
    → answer_of answer ≡ refused why → HasWholeHits answer → new ≡ old → Decides answer old (add address) new
add_refuses old new given address answer why same is told whole stays =
    let stepped : decided old (add address) ≡ leaves old (refused why) = ap (add_at old address) (ap (add_refusal (registry old)) (sym same) ∙ sym is) in
    record {
      answer_is = told ∙ sym (ap (λ (s : Stepped). s.answer) stepped);
      whole = whole;
      state_is = stays ∙ sym (ap (λ (s : Stepped). s.state) stepped);
      silent = ap (λ (s : Stepped). s.invocations) stepped;
      adds = ap adds_entry told;
      recorded = ap (λ (s : State). s.recorded) stays;
    }

-- the first unit is released where it is due
pub first_released : (state : State) (unit : Queued) (others : List Queued) → state.queue ≡ unit ∷ others → due_of unit ≤ state.clock
    → decided state release ≡ releases state unit others
first_released state unit others first due = ap (release_first state) first ∙ cond-true _ _ _ (le-leb (due_of unit) state.clock due)

release_size : (state : State) (unit : Queued) (others : List Queued) (hits : List ℕ) → state.queue ≡ unit ∷ others → due_of unit ≤ state.clock
    → hits ≡ hits_bytes (calls_of_unit state.methods unit)
    → entry_size release (decided state release).answer ≡ 44 + length hits
release_size state unit others hits first due is =
    ap (λ (s : Stepped). entry_size release s.answer) (first_released state unit others first due)
    ∙ omega (arith, ap length is, length-hits_text (hits_of (calls_of_unit state.methods unit)))

-- a release for whose entry there is no room adds none
pub release_full : (state : State) (unit : Queued) (others : List Queued) (hits : List ℕ) → state.queue ≡ unit ∷ others → due_of unit ≤ state.clock
    → hits ≡ hits_bytes (calls_of_unit state.methods unit)
    → free_bytes state < 44 + length hits → adds_entry (step state release).answer ≡ false
release_full state unit others hits first due is full = full_adds_none state release (omega (arith, release_size state unit others hits first due is))

-- a release for whose entry there is room
pub release_enters : (state after : State) (unit : Queued) (others : List Queued) (hits lines : List ℕ) (prints : Bool) → state.queue ≡ unit ∷ others
    → due_of unit ≤ state.clock
    → hits ≡ hits_bytes (calls_of_unit state.methods unit) → lines ≡ call_lines prints (unit_of unit) (calls_of_unit state.methods unit)
    → (adds_entry (step state release).answer ≡ true → (u : ℕ) (hs : List Hit) → (step state release).answer ≡ released u hs → AllByRecursion IsHit hs)
    → 44 + length hits ≤ free_bytes state → after ≡ record state { queue = others; recorded = state.recorded + (44 + length hits) }
    → (length hits % 8 ≡ 0)
    × Enters (released (unit_of unit) (hits_in hits)) (flat_map invocation_text (step state release).invocations) state release after
    × (lines ≡ flat_map (line_where prints) (step state release).invocations)
release_enters state after unit others hits lines prints first due hits_are lines_are fit room ends =
    let calls : List Call = calls_of_unit state.methods unit in
    let is = first_released state unit others first due in
    let size = release_size state unit others hits first due hits_are in
    let adds : adds_entry (decided state release).answer ≡ true = ap (λ (s : Stepped). adds_entry s.answer) is in
    let stepped = room_records state release adds (omega (arith, size)) in
    let answer : (step state release).answer ≡ released (unit_of unit) (hits_of calls) =
    ap (λ (s : Stepped). s.answer) stepped ∙ ap (λ (s : Stepped). s.answer) is in
    let whole = fit (ap adds_entry answer) (unit_of unit) (hits_of calls) answer in (
      omega (arith, ap length hits_are, length-hits_text (hits_of calls)),
      record {
        answer_is = ap (released (unit_of unit)) (ap hits_in hits_are ∙ hits_again (hits_of calls) whole) ∙ sym answer;
        adds = ap adds_entry answer;
        state_is = ends ∙ ap (λ (n : ℕ). record state { queue = others; recorded = state.recorded + n }) (sym size)
            ∙ sym (ap (λ (s : Stepped). s.state) stepped
            ∙ ap (λ (s : Stepped). record s.state { recorded = state.recorded + entry_size release (decided state release).answer }) is);
        lines_are = refl;
      },
      lines_are
          ∙ sym (ap (λ (s : Stepped). flat_map (line_where prints) s.invocations) stepped
          ∙ ap (λ (s : Stepped). flat_map (line_where prints) s.invocations) is),
    )
