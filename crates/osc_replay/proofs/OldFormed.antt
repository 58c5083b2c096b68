-- A history that the first version's server gave can be recorded, so its recording is one of that version.
use Rattle.std.proofs.Common.{◌≡◌, ℕ, ◌+◌, ◌<◌, ◌≤◌, ◌^◌, Bool, true, false, List, [], ◌∷◌, length, length-append, Option, Some, None}
use Rattle.std.proofs.Common.{sym, ap, subst, ◌∙◌, arith}
use Rattle.std.specs.Option.{option_map}
use Rattle.std.specs.List.{AllByRecursion}
use Rattle.osc_packet.specs.Units.{TimedUnit}
use Rattle.osc_packet.specs.Reading.{units_read}
use Rattle.osc_model.specs.declared.late.Late.TheVariants.{Deliver}
use Rattle.osc_model.specs.Limits.{Limits, AreInRange}
use Rattle.osc_model.specs.State.{State, opening}
use Rattle.osc_model.specs.Counts.{free_bytes}
use Rattle.osc_model.specs.Events.{Event, enrol, submit, add, remove, tick, release, Answer, Entry, callers_full, units_full, pool_full, refused, not_there}
use Rattle.osc_model.specs.Events.{clock_back, nothing_due, record_full, adds_entry}
use Rattle.osc_model.specs.Recordings.{FitsRow, IsRecordable, submitted, row_of, submit_row, entry_size}
use Rattle.osc_model.specs.Refusals.{IsRefusal}
use Rattle.osc_model.specs.Step.{Stepped, step, decided, late_count}
use Rattle.osc_model.specs.History.{IsLawful, IsSound, AddsEntry}
use Rattle.osc_model.proofs.Counted.{units_fit}
use Rattle.osc_model.proofs.Fitting.{OfAnswers, IsSmall, sized_fits}
use Rattle.osc_model.proofs.Onward.{is_adds}
use Rattle.osc_model.proofs.Sizes.{sizes_are}
use Rattle.osc_model.proofs.Stepping.{noted, recorded_so, decided_so}
use Rattle.osc_record.specs.declared.version.Version.TheVariants.{First}
use Rattle.osc_record.specs.Versions.{header_text_in, old_row_of, old_submit_row, unlimited, AreInOldRange, DropsNone, IsOldRecordable}
use Rattle.osc_record.proofs.Written.{header_length}
use Rattle.osc_replay.specs.Old.{IsOldFormed, OldGives, OldLegalFrom, OldLegal, old_entry_size, old_opening, old_step}
use Rattle.osc_replay.proofs.Older.{roomy, given_decided, decided_given, decided_roomy, old_sizes_are, text_of, old_text_of, old_texts}
use Rattle.osc_replay.proofs.Older.{FitsBoth, steps_over}

-- what is known of a server, and of its answers
pub record OfOld : Type 0 where
  pub answers : OfAnswers
  pub opens : (caps : Limits) → AreInRange caps → IsSound (opening caps)
  pub steps : (state : State) (event : Event) → IsLawful event → IsSound state → IsSound (step state event).state
  pub delivers : (state : State) (units : List TimedUnit) → state.caps.late ≡ Deliver → late_count state units ≡ 0

-- what holds of a server of the first version at every moment
record IsOldSmall (state : State) : Type 0 where
  pub range : AreInOldRange state.caps
  pub sound : IsSound (roomy 1073741824 0 state)
  pub clock : state.clock < 2 ^ 64
  pub header : 56 ≤ state.recorded
  pub within : state.recorded ≤ state.caps.recording
  pub ids : state.next_id ≤ state.recorded
  pub units : state.next_unit ≤ state.recorded

-- how much is recorded doesn't matter
other_room : (some more : ℕ) (state : State) → IsSound (roomy 1073741824 some state) → IsSound (roomy 1073741824 more state)
other_room some more state sound = record {
  caps = sound.caps;
  methods = sound.methods;
  ids = sound.ids;
  ordered = sound.ordered;
  numbers = sound.numbers;
  few_units = sound.few_units;
  few_blocks = sound.few_blocks;
  callers = sound.callers;
}

small_today : (state : State) → IsOldSmall state → IsSmall (roomy 1073741824 1073741824 state)
small_today state small =
    let below = small.range.recording.below in
    let within = small.within in
    let ids = small.ids in
    let units = small.units in
    record {
      sound = other_room 0 1073741824 state small.sound;
      counted = record { header = omega arith; within = omega arith; ids = omega arith; units = omega arith };
      clock = small.clock;
    }

-- An event gives no more numbers than its entry has bytes, and drops no unit.

record OldGrows (state : State) (event : Event) (stepped : Stepped) : Type 0 where
  pub ids : stepped.state.next_id ≤ state.next_id + old_entry_size event stepped.answer
  pub units : stepped.state.next_unit ≤ state.next_unit + old_entry_size event stepped.answer
  pub clock : state.clock < 2 ^ 64 → IsLawful event → stepped.state.clock < 2 ^ 64
  pub drops : state.caps.late ≡ Deliver → DropsNone stepped.answer

more : (number size : ℕ) → number ≤ number + size
more number size = omega arith

refusal_drops : (answer : Answer) → IsRefusal answer → DropsNone answer
refusal_drops callers_full is = tt
refusal_drops (units_full room) is = tt
refusal_drops (pool_full room) is = tt
refusal_drops (refused why) is = tt
refusal_drops not_there is = tt
refusal_drops (clock_back clock) is = tt
refusal_drops (nothing_due next) is = tt
refusal_drops (record_full room) is = tt
refusal_drops _ is = absurd is

old_grows : ((state : State) (units : List TimedUnit) → state.caps.late ≡ Deliver → late_count state units ≡ 0) → (state : State) (event : Event)
    → OldGrows state event (decided state event)
old_grows delivers state event =
    decided_so (λ event stepped. OldGrows state event stepped) state event
    (record {
      refused = λ event answer is. record {
        ids = more state.next_id (old_entry_size event answer);
        units = more state.next_unit (old_entry_size event answer);
        clock = λ small lawful. small;
        drops = λ all. refusal_drops answer is;
      };
      enrolled = record { ids = omega arith; units = omega arith; clock = λ small lawful. small; drops = λ all. tt };
      queued = λ packet. record {
        ids = more state.next_id _;
        units = omega (arith, units_fit packet);
        clock = λ small lawful. small;
        drops = λ all. delivers state (units_read packet) all;
      };
      added = λ address. record { ids = omega arith; units = omega arith; clock = λ small lawful. small; drops = λ all. tt };
      removed = λ address id. record { ids = omega arith; units = omega arith; clock = λ small lawful. small; drops = λ all. tt };
      ticked = λ now later. record { ids = omega arith; units = omega arith; clock = λ small lawful. lawful; drops = λ all. tt };
      released = λ unit units first. record { ids = omega arith; units = omega arith; clock = λ small lawful. small; drops = λ all. tt };
    })

-- What fits today's row fits the first version's.

old_row : (caller : ℕ) (event : Event) (answer : Answer) → FitsRow (row_of caller event answer) → FitsRow (old_row_of caller event answer)
old_row caller (submit packet) answer fits = go (submitted answer) fits where
  go : (o : Option (ℕ × ℕ × ℕ × ℕ)) → FitsRow (option_map (submit_row caller packet) o) → FitsRow (option_map (old_submit_row caller packet) o)
  go None f = f
  go (Some t) f = (f.0, (f.1.0, (f.1.1.0, (f.1.1.1.0, (f.1.1.1.1.0, tt)))))
old_row caller enrol answer fits = fits
old_row caller (add address) answer fits = fits
old_row caller (remove address) answer fits = fits
old_row caller (tick now) answer fits = fits
old_row caller release answer fits = fits

-- an entry takes at most four bytes more today
four_more : (event : Event) (answer : Answer) → entry_size event answer ≤ old_entry_size event answer + 4
four_more (submit packet) answer = omega arith
four_more enrol answer = omega arith
four_more (add address) answer = omega arith
four_more (remove address) answer = omega arith
four_more (tick now) answer = omega arith
four_more release answer = omega arith

-- where an answer is given that adds an entry, there was room for it
given_room : (state : State) (event : Event) (answer : Answer) → AddsEntry answer → answer ≡ (old_step state event).answer
    → old_entry_size event answer ≤ free_bytes state
given_room state event answer adds =
    recorded_so (λ s. answer ≡ s.answer → old_entry_size event answer ≤ free_bytes state) state (old_entry_size event (decided state event).answer)
    (decided state event)
    (record {
      silent = λ none is. absurd (clash (adds_entry answer) (is_adds answer adds) (ap adds_entry is ∙ none));
      full = λ some few is. absurd (subst AddsEntry is adds);
      room = λ some fits is. omega (arith, fits, ap (old_entry_size event) is);
    })
  where
    clash : (t : Bool) → t ≡ true → t ≡ false → ⊥
    clash t p q = cc

-- One entry.

record Stands (state : State) (entry : Entry) : Type 0 where
  pub old : IsOldRecordable entry.caller entry.event entry.answer
  pub size : (old_step state entry.event).state.recorded ≡ state.recorded + length (old_text_of entry)
  pub caps_are : (old_step state entry.event).state.caps ≡ state.caps
  pub next : IsOldSmall (old_step state entry.event).state

stands : OfOld → (state : State) (entry : Entry) → IsOldSmall state → OldGives state entry → Stands state entry
stands of state entry small gives =
    let event = entry.event in
    let answer = entry.answer in
    let s = decided state event in
    let w = roomy 1073741824 1073741824 state in
    let d : answer ≡ s.answer = given_decided old_entry_size state event answer gives.2 gives.3 in
    let room : old_entry_size event answer ≤ free_bytes state = given_room state event answer gives.2 gives.3 in
    let below = small.range.recording.below in
    let within = small.within in
    let header = small.header in
    let there : answer ≡ (decided w event).answer =
    d ∙ sym (ap (λ (t : Stepped). t.answer) (decided_roomy 1073741824 1073741824 state event)) in
    let adds : adds_entry (decided w event).answer ≡ true = ap adds_entry (sym there) ∙ is_adds answer gives.2 in
    let few : entry_size event answer ≤ 1073741824 = omega (arith, four_more event answer, room) in
    let today : IsRecordable entry.caller event answer =
    subst (IsRecordable entry.caller event) (sym there)
    (sized_fits of.answers entry.caller w event gives.0 (small_today state small) gives.1 adds
    (subst (λ (a : Answer). entry_size event a ≤ 1073741824) there few)) in
    let old_fits : FitsRow (old_row_of entry.caller event answer) = old_row entry.caller event answer today.fits in
    let fits : FitsBoth entry = record { old = old_fits; new = today.fits } in
    let old_size : length (old_text_of entry) ≡ old_entry_size event answer = old_sizes_are entry.caller event answer old_fits in
    let size : length (text_of entry) ≡ entry_size event answer = sizes_are entry.caller event answer today.fits in
    let one = steps_over 1073741824 0 state entry gives.2 fits (omega (arith, old_size, room)) (omega (arith, size, few)) d in
    let grows = old_grows of.delivers state event in
    let is : old_step state event ≡ noted state (old_entry_size event s.answer) s =
    decided_given old_entry_size state event answer gives.2 (omega (arith, room)) d in
    let given : old_entry_size event answer ≡ old_entry_size event s.answer = ap (old_entry_size event) d in
    let next = (old_step state event).state in
    let sound : IsSound (roomy 1073741824 (0 + length (text_of entry)) next) =
    subst IsSound one.state_is (of.steps (roomy 1073741824 0 state) event gives.1 small.sound) in
    let same_caps : next.caps.recording ≡ state.caps.recording = ap (λ (l : Limits). l.recording) one.old_caps in
    let recorded = one.old_recorded in
    let last_id : next.next_id ≡ s.state.next_id = ap (λ (t : Stepped). t.state.next_id) is in
    let last_unit : next.next_unit ≡ s.state.next_unit = ap (λ (t : Stepped). t.state.next_unit) is in
    let last_clock : next.clock ≡ s.state.clock = ap (λ (t : Stepped). t.state.clock) is in
    let ids = small.ids in
    let units = small.units in
    record {
      old = record { fits = old_fits; sound = today.sound; drops = subst DropsNone (sym d) (grows.drops small.range.delivers) };
      size = recorded;
      caps_are = one.old_caps;
      next = record {
        range = subst AreInOldRange (sym one.old_caps) small.range;
        sound = other_room (0 + length (text_of entry)) 0 next sound;
        clock = omega (arith, last_clock, grows.clock small.clock gives.1);
        header = omega (arith, recorded);
        within = omega (arith, recorded, old_size, room, same_caps);
        ids = omega (arith, recorded, old_size, given, last_id, grows.ids);
        units = omega (arith, recorded, old_size, given, last_unit, grows.units);
      };
    }

-- All entries.

record AllStand (state : State) (entries : List Entry) : Type 0 where
  pub recordable : AllByRecursion (λ entry. IsOldRecordable entry.caller entry.event entry.answer) entries
  pub lawful : AllByRecursion (λ entry. IsLawful entry.event) entries
  pub fits : state.recorded + length (old_texts entries) ≤ state.caps.recording

all_stand : OfOld → (state : State) (entries : List Entry) → IsOldSmall state → OldLegalFrom state entries → AllStand state entries
all_stand of state [] small legal =
    let within = small.within in record { recordable = tt; lawful = tt; fits = omega arith }
all_stand of state (entry ∷ entries) small legal =
    let one = stands of state entry small legal.0 in
    let rest = all_stand of (old_step state entry.event).state entries one.next legal.1 in
    record {
      recordable = (one.old, rest.recordable);
      lawful = (legal.0.1, rest.lawful);
      fits = omega (
        arith,
        length-append (old_text_of entry) (old_texts entries),
        one.size,
        ap (λ (l : Limits). l.recording) one.caps_are,
        rest.fits,
      );
    }

opens_small : OfOld → (caps : Limits) → AreInOldRange caps → IsOldSmall (old_opening caps)
opens_small of caps range =
    let wide = of.opens (unlimited caps) range.others in
    let above = range.recording.above in
    record {
      range = range;
      sound = record {
        caps = wide.caps;
        methods = wide.methods;
        ids = wide.ids;
        ordered = wide.ordered;
        numbers = wide.numbers;
        few_units = wide.few_units;
        few_blocks = wide.few_blocks;
        callers = wide.callers;
      };
      clock = omega arith;
      header = omega arith;
      within = omega arith;
      ids = omega arith;
      units = omega arith;
    }

pub old_formed : OfOld → (caps : Limits) (history : List Entry) → OldLegal caps history → IsOldFormed caps history
old_formed of caps history legal =
    let all = all_stand of (old_opening caps) history (opens_small of caps legal.0) legal.1 in
    record {
      record_ = record {
        lawful = legal.0;
        all = all.recordable;
        fits = omega (arith, length-append (header_text_in First caps) (old_texts history), header_length First caps, all.fits);
      };
      lawful = all.lawful;
    }
