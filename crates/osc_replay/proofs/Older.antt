-- The first version's server and today's give the same entries, as long as there is room.
use Rattle.std.proofs.Common.{◌≡◌, ℕ, ◌+◌, ◌-◌, ◌≤◌, ◌==◌, Bool, true, false, cond, nat_le, nat_lt, List, [], ◌∷◌, ◌++◌, length, Option, Some, None}
use Rattle.std.proofs.Common.{refl, sym, ap, subst, ◌∙◌, arith, length-append, replicate}
use Rattle.std.specs.Prelude.{option_map}
use Rattle.std.specs.List.{flat_map, AllByRecursion}
use Rattle.std.specs.Option.{option_map_or}
use Rattle.std.proofs.lemmas.List.{length-replicate}
use Rattle.osc_atoms.specs.Atoms.{word, tag, blob_end}
use Rattle.osc_packet.specs.Units.{TimedUnit, blocks_of}
use Rattle.osc_packet.specs.Reading.{units_read}
use Rattle.osc_print.specs.Entries.{event_line, invocation_text}
use Rattle.osc_queue.specs.Timed.{due_of}
use Rattle.osc_tree.specs.Registry.{id_at}
use Rattle.osc_tree.specs.Adding.{Refusal, add_refusal}
use Rattle.osc_model.specs.Limits.{Limits}
use Rattle.osc_model.specs.State.{State, Queued, registry}
use Rattle.osc_model.specs.Counts.{free_places, free_blocks}
use Rattle.osc_model.specs.Events.{Event, enrol, submit, add, remove, tick, release, Answer, Entry, number, callers_full, queued, units_full, pool_full}
use Rattle.osc_model.specs.Events.{ticked, clock_back, nothing_due, adds_entry}
use Rattle.osc_model.specs.Recordings.{FitsRow, submitted, row_of, row_text, sized, entry_size, entry_text}
use Rattle.osc_model.specs.Step.{Stepped, step, decided, leaves, kept_units, after_submit, add_at, remove_at, releases, release_first, recorded_as}
use Rattle.osc_model.specs.History.{AddsEntry, LegalFrom, after}
use Rattle.osc_model.proofs.Onward.{is_adds}
use Rattle.osc_model.proofs.Sizes.{sizes_are}
use Rattle.osc_model.proofs.Stepping.{noted, recorded_so, decided_so}
use Rattle.osc_record.specs.declared.version.Version.TheVariants.{First}
use Rattle.osc_record.specs.Versions.{old_row_of, old_submit_row, text_in}
use Rattle.osc_replay.specs.Old.{old_entry_size, old_step, OldLegalFrom, old_after, old_printed_from}
use Rattle.osc_replay.specs.Printed.{printed_from}

-- a state with another limit of its recording, and other bytes recorded
abbrev pub roomy : ℕ → ℕ → State → State
roomy limit recorded state = record state { caps = record state.caps { recording = limit }; recorded = recorded }

abbrev pub roomed : ℕ → ℕ → Stepped → Stepped
roomed limit recorded stepped =
    record { answer = stepped.answer; state = roomy limit recorded stepped.state; invocations = stepped.invocations }

abbrev submits : List TimedUnit → List TimedUnit → Bool → Bool → State → Stepped
submits units keeps t u s = cond t (leaves s (units_full (record { need = length keeps; free = free_places s })))
    (cond u (leaves s (pool_full (record { need = blocks_of keeps; free = free_blocks s })))
    (leaves (after_submit s units) (queued s.next_unit (length units) (length units - length keeps))))

-- an event is decided alike, whatever room there is
pub decided_roomy : (limit recorded : ℕ) (state : State) (event : Event)
    → decided (roomy limit recorded state) event ≡ roomed limit recorded (decided state event)
decided_roomy limit recorded state enrol = go (state.callers == state.caps.callers) where
  go : (t : Bool) → cond t (leaves (roomy limit recorded state) callers_full)
      (leaves (record (roomy limit recorded state) { callers = state.callers + 1 }) (number state.callers))
      ≡ roomed limit recorded (cond t (leaves state callers_full) (leaves (record state { callers = state.callers + 1 }) (number state.callers)))
  go true = refl
  go false = refl
decided_roomy limit recorded state (submit packet) =
    go (nat_lt (free_places state) (length keeps)) (nat_lt (free_blocks state) (blocks_of keeps)) where
      keeps : List TimedUnit
      keeps = kept_units state (units_read packet)

      go : (t u : Bool) → submits (units_read packet) keeps t u (roomy limit recorded state) ≡ roomed limit recorded
          (submits (units_read packet) keeps t u state)
      go true u = refl
      go false true = refl
      go false false = refl
decided_roomy limit recorded state (add address) = go (add_refusal (registry state) address) where
  go : (o : Option Refusal) → add_at (roomy limit recorded state) address o ≡ roomed limit recorded (add_at state address o)
  go None = refl
  go (Some refusal) = refl
decided_roomy limit recorded state (remove address) = go (id_at state.methods address) where
  go : (o : Option ℕ) → remove_at (roomy limit recorded state) address o ≡ roomed limit recorded (remove_at state address o)
  go None = refl
  go (Some id) = refl
decided_roomy limit recorded state (tick now) = go (nat_lt now state.clock) where
  go : (t : Bool) → cond t (leaves (roomy limit recorded state) (clock_back state.clock)) (leaves (record (roomy limit recorded state) { clock = now }) ticked)
      ≡ roomed limit recorded (cond t (leaves state (clock_back state.clock)) (leaves (record state { clock = now }) ticked))
  go true = refl
  go false = refl
decided_roomy limit recorded state release = go state.queue where
  go : (queue : List Queued) → release_first (roomy limit recorded state) queue ≡ roomed limit recorded (release_first state queue)
  go [] = refl
  go (unit ∷ units) = cases (nat_le (due_of unit) state.clock) where
    cases : (t : Bool) → cond t (releases (roomy limit recorded state) unit units) (leaves (roomy limit recorded state) (nothing_due (Some (due_of unit))))
        ≡ roomed limit recorded (cond t (releases state unit units) (leaves state (nothing_due (Some (due_of unit)))))
    cases true = refl
    cases false = refl

-- one event whose entries have these sizes
abbrev pub step_by : (Event → Answer → ℕ) → State → Event → Stepped
step_by size state event = cond (adds_entry (decided state event).answer)
    (recorded_as state (size event (decided state event).answer) (decided state event)) (decided state event)

-- where there is room for an entry with an answer, it is given only where it is decided
pub given_decided : (size : Event → Answer → ℕ) (state : State) (event : Event) (answer : Answer) → AddsEntry answer
    → answer ≡ (step_by size state event).answer
    → answer ≡ (decided state event).answer
given_decided size state event answer adds =
    recorded_so (λ s. answer ≡ s.answer → answer ≡ (decided state event).answer) state (size event (decided state event).answer) (decided state event)
    (record { silent = λ none is. is; full = λ some few is. absurd (subst AddsEntry is adds); room = λ some fits is. is })

-- and is given where it is decided
pub decided_given : (size : Event → Answer → ℕ) (state : State) (event : Event) (answer : Answer) → AddsEntry answer
    → state.recorded + size event answer ≤ state.caps.recording → answer ≡ (decided state event).answer
    → step_by size state event ≡ noted state (size event (decided state event).answer) (decided state event)
decided_given size state event answer adds room is =
    recorded_so (λ s. s ≡ noted state (size event (decided state event).answer) (decided state event)) state (size event (decided state event).answer)
    (decided state event)
    (record {
      silent = λ none. absurd (clash (adds_entry answer) (is_adds answer adds) (ap adds_entry is ∙ none));
      full = λ some few. absurd (omega (arith, few, room, ap (size event) is));
      room = λ some fits. refl;
    })
  where
    clash : (t : Bool) → t ≡ true → t ≡ false → ⊥
    clash t p q = cc

-- how many bytes an entry of the first version has
pub old_sizes_are : (caller : ℕ) (event : Event) (answer : Answer) → FitsRow (old_row_of caller event answer)
    → length (text_in First caller event answer) ≡ old_entry_size event answer
old_sizes_are caller (submit packet) answer fits = go (submitted answer) fits where
  go : (o : Option (ℕ × ℕ × ℕ × ℕ)) → FitsRow (option_map (old_submit_row caller packet) o)
      → length (option_map_or (λ row. sized (row_text row)) (option_map (old_submit_row caller packet) o) []) ≡ 48 + (length packet + blob_end (length packet))
  go None f = absurd f
  go (Some t) f =
      let zeros : List ℕ = replicate (blob_end (length packet)) 0 in
      let tail : List ℕ = word t.0 ++ (tag t.1 ++ (word t.2 ++ [])) in
      omega (arith, length-append (packet ++ zeros) tail, length-append packet zeros, length-replicate {A = ℕ} (blob_end (length packet)) 0)
old_sizes_are caller enrol answer fits = sizes_are caller enrol answer fits
old_sizes_are caller (add address) answer fits = sizes_are caller (add address) answer fits
old_sizes_are caller (remove address) answer fits = sizes_are caller (remove address) answer fits
old_sizes_are caller (tick now) answer fits = sizes_are caller (tick now) answer fits
old_sizes_are caller release answer fits = sizes_are caller release answer fits

-- an event leaves the limits as they are
decided_caps : (state : State) (event : Event) → (decided state event).state.caps ≡ state.caps
decided_caps state event =
    decided_so (λ event stepped. stepped.state.caps ≡ state.caps) state event (record {
      refused = λ event answer is. refl;
      enrolled = refl;
      queued = λ packet. refl;
      added = λ address. refl;
      removed = λ address id. refl;
      ticked = λ now later. refl;
      released = λ unit units is. refl;
    })

abbrev pub text_of : Entry → List ℕ
text_of entry = entry_text entry.caller entry.event entry.answer

abbrev pub old_text_of : Entry → List ℕ
old_text_of entry = text_in First entry.caller entry.event entry.answer

abbrev pub texts : List Entry → List ℕ
texts entries = flat_map text_of entries

abbrev pub old_texts : List Entry → List ℕ
old_texts entries = flat_map old_text_of entries

-- the numbers of an entry fit its rows of both versions
pub record FitsBoth (entry : Entry) : Type 0 where
  pub old : FitsRow (old_row_of entry.caller entry.event entry.answer)
  pub new : FitsRow (row_of entry.caller entry.event entry.answer)

-- an entry that is given in the first version is given today
pub record StepsOver (limit recorded : ℕ) (state : State) (entry : Entry) : Type 0 where
  pub answer : entry.answer ≡ (step (roomy limit recorded state) entry.event).answer
  pub state_is : (step (roomy limit recorded state) entry.event).state
      ≡ roomy limit (recorded + length (text_of entry)) (old_step state entry.event).state
  pub invoked : (step (roomy limit recorded state) entry.event).invocations ≡ (old_step state entry.event).invocations
  pub old_recorded : (old_step state entry.event).state.recorded ≡ state.recorded + length (old_text_of entry)
  pub old_caps : (old_step state entry.event).state.caps ≡ state.caps

pub steps_over : (limit recorded : ℕ) (state : State) (entry : Entry) → AddsEntry entry.answer → FitsBoth entry
    → state.recorded + length (old_text_of entry) ≤ state.caps.recording → recorded + length (text_of entry) ≤ limit
    → entry.answer ≡ (decided state entry.event).answer → StepsOver limit recorded state entry
steps_over limit recorded state entry adds fits room more d =
    let event = entry.event in
    let answer = entry.answer in
    let s = decided state event in
    let w = roomy limit recorded state in
    let old_size : length (old_text_of entry) ≡ old_entry_size event answer = old_sizes_are entry.caller event answer fits.old in
    let size : length (text_of entry) ≡ entry_size event answer = sizes_are entry.caller event answer fits.new in
    let old : old_step state event ≡ noted state (old_entry_size event s.answer) s =
    decided_given old_entry_size state event answer adds (omega (arith, old_size, room)) d in
    let same : decided w event ≡ roomed limit recorded s = decided_roomy limit recorded state event in
    let new : step w event ≡ noted w (entry_size event s.answer) (roomed limit recorded s) =
    decided_given entry_size w event answer adds (omega (arith, size, more)) (d ∙ sym (ap (λ (t : Stepped). t.answer) same))
    ∙ ap (λ (t : Stepped). noted w (entry_size event t.answer) t) same in
    let here : entry_size event s.answer ≡ length (text_of entry) = sym (ap (entry_size event) d) ∙ sym size in
    record {
      answer = d ∙ sym (ap (λ (t : Stepped). t.answer) new);
      state_is = ap (λ (t : Stepped). t.state) new ∙ ap (λ (n : ℕ). roomy limit (recorded + n) s.state) here
          ∙ sym (ap (λ (t : Stepped). roomy limit (recorded + length (text_of entry)) t.state) old);
      invoked = ap (λ (t : Stepped). t.invocations) new ∙ sym (ap (λ (t : Stepped). t.invocations) old);
      old_recorded = ap (λ (t : Stepped). t.state.recorded) old
          ∙ ap (λ (n : ℕ). state.recorded + n) (sym (ap (old_entry_size event) d) ∙ sym old_size);
      old_caps = ap (λ (t : Stepped). t.state.caps) old ∙ decided_caps state event;
    }

-- a history of the first version goes on so today
pub record GoesOver (limit recorded : ℕ) (state : State) (entries : List Entry) : Type 0 where
  pub legal : LegalFrom (roomy limit recorded state) entries
  pub lines : printed_from (roomy limit recorded state) entries ≡ old_printed_from state entries
  pub state_is : after (roomy limit recorded state) entries ≡ roomy limit (recorded + length (texts entries)) (old_after state entries)
  pub old_recorded : (old_after state entries).recorded ≡ state.recorded + length (old_texts entries)
  pub old_caps : (old_after state entries).caps ≡ state.caps

pub goes_over : (entries : List Entry) (limit recorded : ℕ) (state : State) → OldLegalFrom state entries → AllByRecursion FitsBoth entries
    → state.recorded + length (old_texts entries) ≤ state.caps.recording → recorded + length (texts entries) ≤ limit
    → GoesOver limit recorded state entries
goes_over [] limit recorded state legal fits room more = record {
  legal = tt;
  lines = refl;
  state_is = ap (λ (n : ℕ). roomy limit n state) (omega arith);
  old_recorded = omega arith;
  old_caps = refl;
}
goes_over (entry ∷ entries) limit recorded state legal fits room more =
    let gives = legal.0 in
    let split = length-append (text_of entry) (texts entries) in
    let old_split = length-append (old_text_of entry) (old_texts entries) in
    let old_size : length (old_text_of entry) ≡ old_entry_size entry.event entry.answer = old_sizes_are entry.caller entry.event entry.answer fits.0.old in
    let d : entry.answer ≡ (decided state entry.event).answer = given_decided old_entry_size state entry.event entry.answer gives.2 gives.3 in
    let one = steps_over limit recorded state entry gives.2 fits.0 (omega (arith, old_split, room)) (omega (arith, split, more)) d in
    let next = (old_step state entry.event).state in
    let here : roomy limit (recorded + length (text_of entry)) next ≡ (step (roomy limit recorded state) entry.event).state = sym one.state_is in
    let limits : next.caps.recording ≡ state.caps.recording = ap (λ (l : Limits). l.recording) one.old_caps in
    let rest = goes_over entries limit (recorded + length (text_of entry)) next legal.1 fits.1
    (omega (arith, old_split, room, one.old_recorded, limits)) (omega (arith, split, more)) in
    record {
      legal = (gives.0, gives.1, gives.2, one.answer, subst (λ (s : State). LegalFrom s entries) here rest.legal);
      lines = (λ i. event_line entry ++ flat_map invocation_text (one.invoked i) ++ printed_from (one.state_is i) entries)
          ∙ ap (λ (l : List ℕ). event_line entry ++ flat_map invocation_text (old_step state entry.event).invocations ++ l) rest.lines;
      state_is = ap (λ (s : State). after s entries) one.state_is ∙ rest.state_is
          ∙ ap (λ (n : ℕ). roomy limit n (old_after next entries)) (omega (arith, split));
      old_recorded = omega (arith, rest.old_recorded, one.old_recorded, old_split);
      old_caps = rest.old_caps ∙ one.old_caps;
    }

-- an entry that is given today is given in the first version
pub gives_back : (limit recorded : ℕ) (state : State) (entry : Entry) → AddsEntry entry.answer → FitsRow (old_row_of entry.caller entry.event entry.answer)
    → state.recorded + length (old_text_of entry) ≤ state.caps.recording → entry.answer ≡ (step (roomy limit recorded state) entry.event).answer
    → entry.answer ≡ (old_step state entry.event).answer
gives_back limit recorded state entry adds fits room given =
    let event = entry.event in
    let old_size : length (old_text_of entry) ≡ old_entry_size event entry.answer = old_sizes_are entry.caller event entry.answer fits in
    let d : entry.answer ≡ (decided state event).answer =
    given_decided entry_size (roomy limit recorded state) event entry.answer adds given
    ∙ ap (λ (t : Stepped). t.answer) (decided_roomy limit recorded state event) in
    d ∙ sym (ap (λ (t : Stepped). t.answer) (decided_given old_entry_size state event entry.answer adds (omega (arith, old_size, room)) d))
