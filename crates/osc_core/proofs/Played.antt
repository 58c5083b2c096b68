-- A server that is played and recorded.
use Rattle.std.proofs.Common.{◌≡◌, ◌≢◌, ℕ, ◌+◌, ◌-◌, ◌<◌, ◌≤◌, ◌==◌, Bool, true, false, cond, nat_le, nat_lt, List, [], ◌∷◌, ◌++◌, ◌*◌, length, length-append}
use Rattle.std.proofs.Common.{map, Option, Some, None, refl, sym, ap, subst, ◌∙◌, arith}
use Rattle.std.proofs.lemmas.List.{append-nil}
use Rattle.osc_packet.specs.Reading.{units_read}
use Rattle.osc_packet.specs.Units.{TimedUnit, blocks_of}
use Rattle.osc_queue.specs.Timed.{due_of}
use Rattle.osc_tree.specs.Registry.{id_at}
use Rattle.osc_tree.specs.Adding.{Refusal, add_refusal}
use Rattle.osc_model.specs.Limits.{Limits}
use Rattle.osc_model.specs.State.{State, Queued, AreNumbered, opening, registry}
use Rattle.osc_model.specs.Counts.{free_places, free_blocks, free_bytes}
use Rattle.osc_model.specs.Events.{Event, enrol, submit, add, remove, tick, release, Answer, Entry, Hit, number, callers_full, queued, units_full, pool_full}
use Rattle.osc_model.specs.Events.{ticked, clock_back, released, nothing_due, record_full, adds_entry}
use Rattle.osc_model.specs.Recordings.{IsRecordable, FitsRow, row_of, entry_size, entry_text, record_text}
use Rattle.osc_model.specs.Step.{Stepped, step, decided, leaves, kept_units, after_submit, add_at, remove_at, releases, release_first}
use Rattle.osc_model.specs.History.{IsLawful, AddsEntry, LegalFrom, Legal, IsSound, IsCounted, after, Performance, state_of, stepped_in, onward}
use Rattle.osc_model.proofs.Stepping.{no_room, noted}
use Rattle.osc_model.specs.Refusals.{IsRefusal}
use Rattle.osc_model.proofs.Refusals.{none_decided, refusal_silent, refusal_stays}
use Rattle.osc_model.proofs.Onward.{entered, is_adds}
use Rattle.osc_model.proofs.Recordable.{after_caps}
use Rattle.osc_atoms.specs.declared.room.Room.{Room}
use Rattle.osc_record.specs.Writing.{Begun, Recording, recording_text, begun_text, appended, with_release}
use Rattle.osc_core.specs.Calls.{hit_by}
use Rattle.osc_core.specs.Due.{IsDue}
use Rattle.osc_core.specs.Recorded.{with_hits}
use Rattle.osc_core.proofs.Firsts.{hits_invoked}
use Rattle.osc_core.proofs.Recorded.{all_put}
use Rattle.osc_core.specs.Playing.{tables, performance_of, IsPlaying, AreSmall, IsFull, IsPlayed}

-- The tables decide as the server does.

abbrev tabled : Stepped → Stepped
tabled stepped = record { answer = stepped.answer; state = tables stepped.state; invocations = stepped.invocations }

abbrev submits : List TimedUnit → List TimedUnit → Bool → Bool → State → Stepped
submits units keeps t u s = cond t (leaves s (units_full (record { need = length keeps; free = free_places s })))
    (cond u (leaves s (pool_full (record { need = blocks_of keeps; free = free_blocks s })))
    (leaves (after_submit s units) (queued s.next_unit (length units) (length units - length keeps))))

pub decided_tables : (state : State) (event : Event) → decided (tables state) event ≡ tabled (decided state event)
decided_tables state enrol = go (state.callers == state.caps.callers) where
  go : (t : Bool) → cond t (leaves (tables state) callers_full) (leaves (record (tables state) { callers = state.callers + 1 }) (number state.callers))
      ≡ tabled (cond t (leaves state callers_full) (leaves (record state { callers = state.callers + 1 }) (number state.callers)))
  go true = refl
  go false = refl
decided_tables state (submit packet) =
    go (nat_lt (free_places state) (length keeps)) (nat_lt (free_blocks state) (blocks_of keeps)) where
      keeps : List TimedUnit
      keeps = kept_units state (units_read packet)

      go : (t u : Bool) → submits (units_read packet) keeps t u (tables state) ≡ tabled (submits (units_read packet) keeps t u state)
      go true u = refl
      go false true = refl
      go false false = refl
decided_tables state (add address) = go (add_refusal (registry state) address) where
  go : (o : Option Refusal) → add_at (tables state) address o ≡ tabled (add_at state address o)
  go None = refl
  go (Some refusal) = refl
decided_tables state (remove address) = go (id_at state.methods address) where
  go : (o : Option ℕ) → remove_at (tables state) address o ≡ tabled (remove_at state address o)
  go None = refl
  go (Some id) = refl
decided_tables state (tick now) = go (nat_lt now state.clock) where
  go : (t : Bool) → cond t (leaves (tables state) (clock_back state.clock)) (leaves (record (tables state) { clock = now }) ticked)
      ≡ tabled (cond t (leaves state (clock_back state.clock)) (leaves (record state { clock = now }) ticked))
  go true = refl
  go false = refl
decided_tables state release = go state.queue where
  go : (queue : List Queued) → release_first (tables state) queue ≡ tabled (release_first state queue)
  go [] = refl
  go (unit ∷ units) = cases (nat_le (due_of unit) state.clock) where
    cases : (t : Bool) → cond t (releases (tables state) unit units) (leaves (tables state) (nothing_due (Some (due_of unit))))
        ≡ tabled (cond t (releases state unit units) (leaves state (nothing_due (Some (due_of unit)))))
    cases true = refl
    cases false = refl

-- Each entry has bytes.

some_bytes : (event : Event) (answer : Answer) → 1 ≤ entry_size event answer
some_bytes enrol answer = omega arith
some_bytes (submit packet) answer = omega arith
some_bytes (add address) answer = omega arith
some_bytes (remove address) answer = omega arith
some_bytes (tick now) answer = omega arith
some_bytes release answer = omega arith

pub few_entries : (state : State) (history : List Entry) → LegalFrom state history → state.recorded + length history ≤ (after state history).recorded
few_entries state [] legal = omega arith
few_entries state (entry ∷ entries) legal =
    let adds = is_adds (step state entry.event).answer (subst AddsEntry legal.3 legal.2) in
    let is = (entered state entry.event adds).is in
    let more : (step state entry.event).state.recorded ≡ state.recorded + entry_size entry.event (decided state entry.event).answer =
    ap (λ (s : Stepped). s.state.recorded) is in
    omega (arith, more, some_bytes entry.event (decided state entry.event).answer, few_entries (step state entry.event).state entries legal.4)

-- What the model's laws say.

pub record Laws : Type 0 where
  pub sound : (caps : Limits) (history : List Entry) → Legal caps history → IsSound (after (opening caps) history)
  pub counted : (caps : Limits) (history : List Entry) → Legal caps history → IsCounted (after (opening caps) history)
  pub legal : (performance : Performance) (caller : ℕ) (event : Event) → Legal performance.caps performance.history → caller < (state_of performance).callers
      → IsLawful event → Legal performance.caps (onward performance caller event).history
  pub state : (performance : Performance) (caller : ℕ) (event : Event) → state_of (onward performance caller event) ≡ (stepped_in performance event).state
  pub next : (performance : Performance) (caller : ℕ) (event : Event) → Legal performance.caps performance.history → caller < (state_of performance).callers
      → IsLawful event → adds_entry (stepped_in performance event).answer ≡ true → IsRecordable caller event (stepped_in performance event).answer
  pub recorded : (caps : Limits) (history : List Entry) → Legal caps history → (after (opening caps) history).recorded ≡ length (record_text caps history)
  pub full : (state : State) (event : Event) → adds_entry (decided state event).answer ≡ true → free_bytes state < entry_size event (decided state event).answer
      → step state event ≡ no_room state (entry_size event (decided state event).answer)
  pub room : (state : State) (event : Event) → adds_entry (decided state event).answer ≡ true → entry_size event (decided state event).answer ≤ free_bytes state
      → step state event ≡ noted state (entry_size event (decided state event).answer) (decided state event)
  pub sizes : (caller : ℕ) (event : Event) (answer : Answer) → FitsRow (row_of caller event answer)
      → length (entry_text caller event answer) ≡ entry_size event answer

pub are_small : Laws → (server : State) (recorder : Recording) (entries : ℕ) → IsPlaying server recorder entries → AreSmall server entries
are_small laws server recorder entries playing =
    let state = state_of (performance_of recorder) in
    let counted = laws.counted recorder.caps recorder.entries playing.legal in
    let sound = laws.sound recorder.caps recorder.entries playing.legal in
    let few = few_entries (opening recorder.caps) recorder.entries playing.legal.1 in
    let within = counted.within in
    let most = sound.caps.recording.below in
    let few_callers = sound.callers.1 in
    let most_callers = sound.caps.callers.below in
    record {
      ids = subst (λ (s : State). s.next_id ≤ 1073741824) (sym playing.server_is) (omega (arith, counted.ids, within, most));
      units = subst (λ (s : State). s.next_unit ≤ 1073741824) (sym playing.server_is) (omega (arith, counted.units, within, most));
      numbers = subst (λ (s : State). AreNumbered s.next_unit s.queue) (sym playing.server_is) sound.numbers;
      callers = subst (λ (s : State). s.callers ≤ 1024) (sym playing.server_is) (omega (arith, few_callers, most_callers));
      methods = subst (λ (s : State). s.caps.methods ≤ 65536) (sym playing.server_is) sound.caps.methods.below;
      few = omega (arith, few, within, most, playing.counted);
    }

same_decided : (server state : State) (event : Event) → server ≡ tables state → decided server event ≡ tabled (decided state event)
same_decided server state event is = ap (λ (s : State). decided s event) is ∙ decided_tables state event

-- as many bytes are free
same_free : Laws → (server : State) (recorder : Recording) (entries : ℕ) → IsPlaying server recorder entries
    → free_bytes (state_of (performance_of recorder)) ≡ recorder.caps.recording - length (recording_text recorder)
same_free laws server recorder entries playing =
    let text = ap (λ (o : Option Begun). length (record_text recorder.caps recorder.entries ++ begun_text o)) playing.whole in
    let none = ap length (append-nil (record_text recorder.caps recorder.entries)) in
    let recorded = laws.recorded recorder.caps recorder.entries playing.legal in
    let caps = ap (λ (c : Limits). c.recording) (after_caps (opening recorder.caps) recorder.entries) in
    omega (arith, text, none, recorded, caps)

pub stays : (performance : Performance) (caller : ℕ) (event : Event) → adds_entry (stepped_in performance event).answer ≡ false
    → onward performance caller event ≡ performance
stays performance caller event is = rw is refl

goes_on : (performance : Performance) (caller : ℕ) (event : Event) (answer : Answer) → (stepped_in performance event).answer ≡ answer → adds_entry answer ≡ true
    → onward performance caller event
    ≡ record { caps = performance.caps; history = performance.history ++ record { caller = caller; event = event; answer = answer } ∷ [] }
goes_on performance caller event answer same is = rw (same, is) refl

pub is_full : Laws → (server : State) (recorder : Recording) (entries caller : ℕ) (event : Event) (need free : ℕ) → IsPlaying server recorder entries
    → adds_entry (decided server event).answer ≡ true
    → need ≡ entry_size event (decided server event).answer → free + length (recording_text recorder) ≡ recorder.caps.recording → free < need
    → IsFull (performance_of recorder) caller event need free
is_full laws server recorder entries caller event need free playing adds needs frees full =
    let performance = performance_of recorder in
    let state = state_of performance in
    let same = ap (λ (s : Stepped). s.answer) (same_decided server state event playing.server_is) in
    let adds' = ap adds_entry (sym same) ∙ adds in
    let size : entry_size event (decided state event).answer ≡ need = ap (entry_size event) (sym same) ∙ sym needs in
    let left : free_bytes state ≡ free = omega (arith, same_free laws server recorder entries playing, frees) in
    let none = laws.full state event adds' (omega (arith, size, left, full)) in
    let answer : (stepped_in performance event).answer ≡ record_full (record { need = need; free = free }) =
    ap (λ (s : Stepped). s.answer) none ∙ ap (λ (n : ℕ). record_full (record { need = n; free = free_bytes state })) size
    ∙ ap (λ (n : ℕ). record_full (record { need = need; free = n })) left in
    record {
      answer = answer;
      silent = ap (λ (s : Stepped). s.invocations) none;
      stays = stays performance caller event (ap adds_entry answer);
    }

pub is_played : Laws → (server : State) (recorder : Recording) (entries caller : ℕ) (event : Event) (answer : Answer) → IsPlaying server recorder entries
    → caller < (state_of (performance_of recorder)).callers → IsLawful event
    → answer ≡ (decided server event).answer → adds_entry answer ≡ true → length (recording_text recorder) + entry_size event answer ≤ recorder.caps.recording
    → IsPlayed server recorder entries caller event answer
is_played laws server recorder entries caller event answer playing enrolled lawful is adds fits =
    let performance = performance_of recorder in
    let state = state_of performance in
    let entry : Entry = record { caller = caller; event = event; answer = answer } in
    let same = same_decided server state event playing.server_is in
    let here : answer ≡ (decided state event).answer = is ∙ ap (λ (s : Stepped). s.answer) same in
    let adds' : adds_entry (decided state event).answer ≡ true = ap adds_entry (sym here) ∙ adds in
    let size : entry_size event (decided state event).answer ≡ entry_size event answer = ap (entry_size event) (sym here) in
    let stepped = laws.room state event adds' (omega (arith, size, same_free laws server recorder entries playing, fits)) in
    let answer_is : (stepped_in performance event).answer ≡ answer = ap (λ (s : Stepped). s.answer) stepped ∙ sym here in
    let on = goes_on performance caller event answer answer_is adds in
    let recordable = subst (IsRecordable caller event) answer_is
    (laws.next performance caller event playing.legal enrolled lawful (ap adds_entry answer_is ∙ adds)) in
    record {
      answer_is = answer_is;
      invocations = ap (λ (s : Stepped). s.invocations) stepped ∙ sym (ap (λ (s : Stepped). s.invocations) same);
      goes_on = on;
      recordable = recordable;
      fits = omega (arith, laws.sizes caller event answer recordable.fits, fits);
      playing = record {
        legal = subst (λ (p : Performance). Legal recorder.caps p.history) on (laws.legal performance caller event playing.legal enrolled lawful);
        server_is = ap (λ (s : Stepped). s.state) same
            ∙ sym (ap tables (ap state_of (sym on) ∙ laws.state performance caller event ∙ ap (λ (s : Stepped). s.state) stepped));
        whole = playing.whole;
        counted = omega (arith, playing.counted, length-append recorder.entries (entry ∷ []));
      };
    }

-- an event that is refused is played, and leaves the tables
pub is_refused : Laws → (server : State) (recorder : Recording) (entries caller : ℕ) (event : Event) (answer : Answer) → IsPlaying server recorder entries
    → caller < (state_of (performance_of recorder)).callers → IsLawful event → answer ≡ (stepped_in (performance_of recorder) event).answer
    → IsRefusal answer → adds_entry answer ≡ true
    → IsPlayed server recorder entries caller event answer × ((decided server event).state ≡ server)
is_refused laws server recorder entries caller event answer playing enrolled lawful is refusal adds =
    let state = state_of (performance_of recorder) in
    let same = same_decided server state event playing.server_is in
    let on = entered state event (ap adds_entry (sym is) ∙ adds) in
    let decides : answer ≡ (decided state event).answer = is ∙ ap (λ (s : Stepped). s.answer) on.is in
    let size : entry_size event answer ≡ entry_size event (decided state event).answer = ap (entry_size event) decides in
    let room = on.room in (
      is_played laws server recorder entries caller event answer playing enrolled lawful
          (decides ∙ sym (ap (λ (s : Stepped). s.answer) same)) adds
          (omega (arith, size, room, some_bytes event answer, same_free laws server recorder entries playing)),
      ap (λ (s : Stepped). s.state) same
          ∙ (sym (ap (λ (s : Stepped). tables s.state) on.is) ∙ ap tables (refusal_stays state event (subst IsRefusal is refusal)))
          ∙ sym playing.server_is,
    )

-- all other events than a release add an entry, where there is room for it
pub others_add : (state : State) (event : Event) → event ≢ release → adds_entry (decided state event).answer ≡ true
others_add state enrol other = go (state.callers == state.caps.callers) where
  go : (t : Bool) → adds_entry (cond t (leaves state callers_full) (leaves (record state { callers = state.callers + 1 }) (number state.callers))).answer ≡ true
  go true = refl
  go false = refl
others_add state (submit packet) other =
    go (nat_lt (free_places state) (length keeps)) (nat_lt (free_blocks state) (blocks_of keeps)) where
      keeps : List TimedUnit
      keeps = kept_units state (units_read packet)

      go : (t u : Bool) → adds_entry (submits (units_read packet) keeps t u state).answer ≡ true
      go true u = refl
      go false true = refl
      go false false = refl
others_add state (add address) other = go (add_refusal (registry state) address) where
  go : (o : Option Refusal) → adds_entry (add_at state address o).answer ≡ true
  go None = refl
  go (Some refusal) = refl
others_add state (remove address) other = go (id_at state.methods address) where
  go : (o : Option ℕ) → adds_entry (remove_at state address o).answer ≡ true
  go None = refl
  go (Some id) = refl
others_add state (tick now) other = go (nat_lt now state.clock) where
  go : (t : Bool) → adds_entry (cond t (leaves state (clock_back state.clock)) (leaves (record state { clock = now }) ticked)).answer ≡ true
  go true = refl
  go false = refl
others_add state release other = absurd (other refl)

-- What a call of a performance answers, and leaves.

abbrev pub FullLaw : Type 0
FullLaw = (server : State) (recorder : Recording) (entries caller : ℕ) (event : Event) (need free : ℕ) → IsPlaying server recorder entries
    → adds_entry (decided server event).answer ≡ true
    → need ≡ entry_size event (decided server event).answer → free + length (recording_text recorder) ≡ recorder.caps.recording → free < need
    → IsFull (performance_of recorder) caller event need free

pub refuses : FullLaw → (server : State) (recorder : Recording) (entries caller : ℕ) (event : Event) (room : Room) (size : ℕ) (now : Performance)
    → IsPlaying server recorder entries → performance_of recorder ≡ now → adds_entry (decided server event).answer ≡ true
    → size ≡ entry_size event (decided server event).answer → (room.need ≡ size) × (room.free + length (recording_text recorder) ≡ recorder.caps.recording)
    → IsFull now caller event room.need room.free
refuses law server recorder entries caller event room size now playing view adds sized tells =
    subst (λ (p : Performance). IsFull p caller event room.need room.free) view
    (law server recorder entries caller event room.need room.free playing adds (tells.0 ∙ sized) tells.1 room.wanting)

abbrev pub PlayedLaw : Type 0
PlayedLaw = (server : State) (recorder : Recording) (entries caller : ℕ) (event : Event) (answer : Answer) → IsPlaying server recorder entries
    → caller < (state_of (performance_of recorder)).callers → IsLawful event
    → answer ≡ (decided server event).answer → adds_entry answer ≡ true → length (recording_text recorder) + entry_size event answer ≤ recorder.caps.recording
    → IsPlayed server recorder entries caller event answer

-- what is left is a performance that has gone on
pub record GoesOn (now : Performance) (caller : ℕ) (event : Event) (answer : Answer) (server : State) (recorder : Recording) (entries : ℕ) : Type 0 where
  pub answer_is : (stepped_in now event).answer ≡ answer
  pub performance : performance_of recorder ≡ onward now caller event
  pub playing : IsPlaying server recorder entries

pub plays : (server : State) (recorder : Recording) (entries caller : ℕ) (event : Event) (answer : Answer) (next : State) (more : Recording) (now : Performance)
    → IsPlayed server recorder entries caller event answer → performance_of recorder ≡ now
    → next ≡ (decided server event).state → more ≡ appended recorder (record { caller = caller; event = event; answer = answer })
    → GoesOn now caller event answer next more (entries + 1)
plays server recorder entries caller event answer next more now played view n m = record {
  answer_is = subst (λ (p : Performance). (stepped_in p event).answer ≡ answer) view played.answer_is;
  performance = subst (λ (p : Performance). performance_of more ≡ onward p caller event) view (ap performance_of m ∙ sym played.goes_on);
  playing = subst (λ (r : Recording). IsPlaying next r (entries + 1)) (sym m)
      (subst (λ (s : State). IsPlaying s (appended recorder (record { caller = caller; event = event; answer = answer })) (entries + 1))
      (sym n) played.playing);
}

pub enrolled_in : (recorder : Recording) (now : Performance) (caller : ℕ) → performance_of recorder ≡ now → caller < (state_of now).callers
    → caller < (state_of (performance_of recorder)).callers
enrolled_in recorder now caller view is = subst (λ (p : Performance). caller < (state_of p).callers) (sym view) is

-- the methods are those of the server
pub methods_are : (server : State) (recorder : Recording) (entries : ℕ) (now : Performance) → IsPlaying server recorder entries → performance_of recorder ≡ now
    → server.methods ≡ (state_of now).methods
methods_are server recorder entries now playing view = ap (λ (s : State). s.methods) playing.server_is ∙ ap (λ (p : Performance). (state_of p).methods) view

pub method_limit_is : (server : State) (recorder : Recording) (entries : ℕ) (now : Performance) → IsPlaying server recorder entries
    → performance_of recorder ≡ now → server.caps.methods ≡ now.caps.methods
method_limit_is server recorder entries now playing view =
    ap (λ (s : State). s.caps.methods) playing.server_is ∙ ap (λ (l : Limits). l.methods) (after_caps (opening recorder.caps) recorder.entries)
    ∙ ap (λ (p : Performance). p.caps.methods) view

-- where nothing is due, that is answered, and no box is called
pub idle_answer : (server : State) (recorder : Recording) (entries : ℕ) (now : Performance) (next : Option ℕ) → IsPlaying server recorder entries
    → performance_of recorder ≡ now → (decided server release).answer ≡ nothing_due next → (stepped_in now release).answer ≡ nothing_due next
idle_answer server recorder entries now next playing view none =
    let state = state_of (performance_of recorder) in
    let nothing : (decided state release).answer ≡ nothing_due next =
    sym (ap (λ (s : Stepped). s.answer) (same_decided server state release playing.server_is)) ∙ none in
    let adds : adds_entry (decided state release).answer ≡ false = ap adds_entry nothing in
    subst (λ (p : Performance). (stepped_in p release).answer ≡ nothing_due next) view
    (ap (λ (s : Stepped). s.answer) (none_decided state release adds) ∙ nothing)

pub idle_silent : (server : State) (recorder : Recording) (entries : ℕ) (now : Performance) (next : Option ℕ) → IsPlaying server recorder entries
    → performance_of recorder ≡ now → (decided server release).answer ≡ nothing_due next → (stepped_in now release).invocations ≡ []
idle_silent server recorder entries now next playing view none =
    refusal_silent (state_of now) release (subst IsRefusal (sym (idle_answer server recorder entries now next playing view none)) tt)

-- a release whose hits are all put
pub releases_on : PlayedLaw
    → (server : State) (recorder : Recording) (entries caller unit calls : ℕ) (hits : List Hit) (next : State) (begun more : Recording) (now : Performance)
    → IsPlaying server recorder entries → performance_of recorder ≡ now → caller < (state_of now).callers
    → IsDue server unit hits → calls ≡ length hits → length (recording_text recorder) + (44 + 8 * calls) ≤ recorder.caps.recording
    → next ≡ (decided server release).state → begun ≡ with_release recorder caller unit calls
    → more ≡ with_hits begun (map hit_by (decided server release).invocations)
    → GoesOn now caller release (released unit hits) next more (entries + 1) × ((stepped_in now release).invocations ≡ (decided server release).invocations)
releases_on law server recorder entries caller unit calls hits next begun more now playing view enrolled due many fits n b m =
    let played = law server recorder entries caller release (released unit hits) playing (enrolled_in recorder now caller view enrolled) tt (sym due) refl
    (subst (λ (k : ℕ). length (recording_text recorder) + (44 + 8 * k) ≤ recorder.caps.recording) many fits) in
    let put : more ≡ appended recorder (record { caller = caller; event = release; answer = released unit hits }) =
    m ∙ ap (with_hits begun) (hits_invoked server unit hits due) ∙ ap (λ (r : Recording). with_hits r hits) b
    ∙ all_put recorder caller unit calls hits playing.whole many in (
      plays server recorder entries caller release (released unit hits) next more now played view n put,
      subst
          (λ (p : Performance). (stepped_in p release).invocations ≡ (decided server release).invocations) view played.invocations,
    )
