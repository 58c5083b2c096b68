-- What stands at the end of a recording is what is carried on.
use Rattle.osc_script.specs.declared.script.TheConstants.{MAX_SCRIPT}
use Rattle.std.proofs.Common.{◌≡◌, ℕ, ◌<◌, ◌≤◌, ◌^◌, List, [], ◌∷◌, ◌++◌, length, map, inl, inr, sym, ap, ◌∙◌, subst, subst₂, arith}
use Rattle.std.specs.List.{AllByRecursion}
use Rattle.osc_atoms.specs.Atoms.{AreBytes}
use Rattle.osc_pattern.specs.Methods.{Method}
use Rattle.osc_packet.specs.Units.{TimedUnit, stored_size}
use Rattle.osc_queue.specs.Timed.{Item}
use Rattle.osc_model.specs.declared.late.Late.{Late}
use Rattle.osc_model.specs.Limits.{Limits}
use Rattle.osc_model.specs.State.{State, Queued, opening}
use Rattle.osc_model.specs.Events.{Entry}
use Rattle.osc_model.specs.Recordings.{IsRecordable, record_text}
use Rattle.osc_model.specs.History.{Legal, after}
use Rattle.osc_record.specs.Reading.{IsRecord}
use Rattle.osc_replay.specs.Disagreeing.{IsRecordingOf}
use Rattle.osc_script.specs.declared.act.Act.{Act}
use Rattle.osc_script.specs.Written.{written}
use Rattle.osc_score.proofs.Acts.{adds}
use Rattle.std.specs.Prelude.{Result, Ok, Err, IfOk}
use Rattle.osc_story.specs.Standings.{Handed, Standing, Shows, queue_of, standing_after}
use Rattle.osc_alike.specs.Alike.{address_of}
use Rattle.osc_carry.specs.declared.fault.CarryFault.{CarryFault}
use Rattle.osc_carry.specs.declared.fault.CarryFault.TheVariants.{Malformed, Disagrees, TooLong, NoMemory}
use Rattle.osc_carry.specs.Carried.{queue_acts, carried_from, carried_acts, carried_script, carried_size}
use Rattle.osc_carry.specs.Leading.{LeadsThere}
use Rattle.osc_carry.specs.Answers.{OnMalformed, OnDisagrees, OnTooLong, Adds, IsScriptUnlessShort}
use Rattle.osc_carry.specs.Waiting.{IsShort, IsWaiting, AreOfBytes, AreShort, HaveShort}
use Rattle.osc_carry.proofs.Recorded.{recorded_bytes}
use Rattle.osc_carry.proofs.Written.{written_on}

-- Recordings.

-- what is known of recordings
pub record OfRecordings : Type 0 where
  pub all : (caps : Limits) (history : List Entry) → Legal caps history
      → AllByRecursion (λ entry. IsRecordable entry.caller entry.event entry.answer) history
  pub within : (caps : Limits) (history : List Entry) → Legal caps history → length (record_text caps history) ≤ caps.recording
  pub apart : (limits other : Limits) (entries others : List Entry) → IsRecord limits entries → IsRecord other others
      → record_text limits entries ≡ record_text other others → (limits ≡ other) × (entries ≡ others)

pub is_record : OfRecordings → (caps : Limits) (history : List Entry) → Legal caps history → IsRecord caps history
is_record known caps history legal = record { lawful = legal.0; all = known.all caps history legal; fits = known.within caps history legal }

-- what is read is what is recorded
pub recording_read : OfRecordings → (bytes : List ℕ) (caps limits : Limits) (history entries : List Entry) → IsRecordingOf bytes caps history
    → IsRecord limits entries → bytes ≡ record_text limits entries → IsRecordingOf bytes limits entries
recording_read known bytes caps limits history entries is read text =
    let same = known.apart caps limits history entries (is_record known caps history is.legal) read (sym is.text ∙ text) in
    subst₂ (λ (c : Limits) (h : List Entry). IsRecordingOf bytes c h) same.0 same.1 is

-- bytes are of one history
pub one_history : OfRecordings → (bytes : List ℕ) (caps limits : Limits) (history entries : List Entry) → IsRecordingOf bytes caps history
    → IsRecordingOf bytes limits entries → (P : Limits → List Entry → Type 0) → P caps history → P limits entries
one_history known bytes caps limits history entries one other P holds =
    let same = known.apart caps limits history entries (is_record known caps history one.legal) (is_record known limits entries other.legal)
    (sym one.text ∙ other.text) in
    subst₂ P same.0 same.1 holds

pub history_bytes : OfRecordings → (bytes : List ℕ) (caps : Limits) (history : List Entry) → AreBytes bytes → IsRecordingOf bytes caps history
    → AreOfBytes history
history_bytes known bytes caps history all is =
    recorded_bytes caps history (known.all caps history is.legal) (subst AreBytes is.text all)

-- Units.

stored_short : (messages : List (List ℕ)) → stored_size messages < 2 ^ 32 → AreShort messages
stored_short [] few = tt
stored_short (message ∷ messages) few = (omega arith, stored_short messages (omega arith))

unit_short : (unit : TimedUnit) → IsShort unit → AreShort unit.messages
unit_short unit (inl few) = stored_short unit.messages (omega arith)
unit_short unit (inr (message, one, is, few)) = subst AreShort (sym is) (omega arith, tt)

pub units_short : (late : Late) (clock : ℕ) (units : List Queued) → AllByRecursion (IsWaiting late clock) units → HaveShort units
units_short late clock [] waits = tt
units_short late clock (unit ∷ units) waits = (unit_short unit.2 ((waits.0).sent).short, units_short late clock units waits.1)

-- The script.

pub acts_are : (standing : Standing) (state : State) → Shows standing state
    → carried_from (map address_of standing.methods) standing.clock (queue_of standing.waiting) ≡ carried_acts state
acts_are standing state shows =
    ap (λ (l : List Method). carried_from (map address_of l) standing.clock (queue_of standing.waiting)) shows.methods
    ∙ ap (λ (n : ℕ). carried_from (map address_of state.methods) n (queue_of standing.waiting)) shows.clock
    ∙ ap (λ (l : List Queued). carried_from (map address_of state.methods) state.clock l) shows.queue

-- the lines of methods, and then those of units
script_is : (methods : List Method) (clock : ℕ) (waiting : List (Item Handed)) (start first : List ℕ) → start ≡ []
    → first ≡ start ++ written (adds (map address_of methods))
    → first ++ written (queue_acts 1 clock (queue_of waiting)) ≡ written (carried_from (map address_of methods) clock (queue_of waiting))
script_is methods clock waiting start first none one =
    let units : List Act = queue_acts 1 clock (queue_of waiting) in
    let lines : List ℕ = written (adds (map address_of methods)) in
    ap (λ (l : List ℕ). l ++ written units) (one ∙ ap (λ (l : List ℕ). l ++ lines) none) ∙ sym (written_on (adds (map address_of methods)) units)

-- Answers.

-- what is known of a recording, and of what stands at its end
pub record Stands (bytes : List ℕ) (story : Standing) : Type 0 where
  pub known : OfRecordings
  pub all : AreBytes bytes
  pub caps : Limits
  pub history : List Entry
  pub is : IsRecordingOf bytes caps history
  pub shows : Shows story (after (opening caps) history)

abbrev pub EntriesShow : Type 0
EntriesShow = (caps : Limits) (history : List Entry) → Legal caps history → Shows (standing_after caps.late history) (after (opening caps) history)

abbrev pub IsStoryOf : List ℕ → Standing → Type 0
IsStoryOf bytes story = (caps : Limits) × (history : List Entry) × IsRecordingOf bytes caps history × (story ≡ standing_after caps.late history)

pub stands_of : OfRecordings → EntriesShow → (bytes : List ℕ) (story : Standing) → AreBytes bytes → IsStoryOf bytes story → Stands bytes story
stands_of known show bytes story all (caps, history, is, same) = record {
  known = known;
  all = all;
  caps = caps;
  history = history;
  is = is;
  shows = subst (λ (s : Standing). Shows s (after (opening caps) history)) (sym same) (show caps history is.legal);
}

pub stand_short : (bytes : List ℕ) (story : Standing) → Stands bytes story
    → ((caps : Limits) (history : List Entry) → Legal caps history → AreOfBytes history → HaveShort (after (opening caps) history).queue)
    → HaveShort (queue_of story.waiting)
stand_short bytes story stands short =
    let is : IsRecordingOf bytes stands.caps stands.history = stands.is in
    let shows = stands.shows in
    subst HaveShort (sym shows.queue)
    (short stands.caps stands.history is.legal (history_bytes stands.known bytes stands.caps stands.history stands.all is))

abbrev pub text_of : Standing → List ℕ
text_of story = written (carried_from (map address_of story.methods) story.clock (queue_of story.waiting))

-- its script is that of each history that the recording is of
text_is : (bytes : List ℕ) (story : Standing) → Stands bytes story → (caps : Limits) (history : List Entry) → IsRecordingOf bytes caps history
    → text_of story ≡ carried_script caps history
text_is bytes story stands caps history is =
    one_history stands.known bytes stands.caps caps stands.history history stands.is is
    (λ (c : Limits) (h : List Entry). text_of story ≡ carried_script c h)
    (ap written (acts_are story (after (opening stands.caps) stands.history) stands.shows))

abbrev pub Leads : Type 0
Leads =
    (caps : Limits) (history : List Entry) (room : ℕ) → Legal caps history → AreOfBytes history → length (carried_script caps history) ≤ MAX_SCRIPT
    → carried_size (after (opening caps) history) ≤ room → LeadsThere (carried_script caps history) caps history room

-- the script is longer than one may be
abbrev pub IsTooLong : List ℕ → Type 0
IsTooLong bytes = (caps : Limits) × (history : List Entry) × IsRecordingOf bytes caps history × (MAX_SCRIPT < length (carried_script caps history))

module _ {X : Type 0} (view : X → List ℕ) where
  pub answer_ok : (bytes : List ℕ) (story : Standing) → Stands bytes story → (answer : Result X CarryFault)
      → IsScriptUnlessShort answer view (text_of story)
      → IfOk answer (λ script. (caps : Limits) × (history : List Entry) × IsRecordingOf bytes caps history × (view script ≡ carried_script caps history))
  answer_ok bytes story stands (Ok script) said =
      (stands.caps, stands.history, stands.is, said.0 ∙ text_is bytes story stands stands.caps stands.history stands.is)
  answer_ok bytes story stands (Err fault) said = tt

  pub answer_leads : (bytes : List ℕ) (story : Standing) → Stands bytes story → Leads → (answer : Result X CarryFault)
      → IsScriptUnlessShort answer view (text_of story)
      → (caps : Limits) (history : List Entry) (room : ℕ) → IsRecordingOf bytes caps history → carried_size (after (opening caps) history) ≤ room
      → IfOk answer (λ script. LeadsThere (view script) caps history room)
  answer_leads bytes story stands leads (Ok script) said caps history room is fits =
      let same : view script ≡ carried_script caps history = said.0 ∙ text_is bytes story stands caps history is in
      subst (λ (s : List ℕ). LeadsThere s caps history room) (sym same)
      (leads caps history room is.legal (history_bytes stands.known bytes caps history stands.all is)
      (subst (λ (s : List ℕ). length s ≤ MAX_SCRIPT) same said.1) fits)
  answer_leads bytes story stands leads (Err fault) said caps history room is fits = tt

  pub answer_long : (bytes : List ℕ) (story : Standing) → Stands bytes story → (answer : Result X CarryFault)
      → IsScriptUnlessShort answer view (text_of story) → OnTooLong answer (IsTooLong bytes)
  answer_long bytes story stands (Ok script) said = tt
  answer_long bytes story stands (Err TooLong) said = (
    stands.caps,
    stands.history,
    stands.is,
    subst (λ (s : List ℕ). MAX_SCRIPT < length s) (text_is bytes story stands stands.caps stands.history stands.is) said,
  )
  answer_long bytes story stands (Err NoMemory) said = tt
  answer_long bytes story stands (Err (Malformed at)) said = tt
  answer_long bytes story stands (Err (Disagrees entry kept computed)) said = tt

  pub answer_complete : (bytes : List ℕ) (story : Standing) → Stands bytes story → (answer : Result X CarryFault)
      → IsScriptUnlessShort answer view (text_of story)
      → (caps : Limits) (history : List Entry) → IsRecordingOf bytes caps history → IsScriptUnlessShort answer view (carried_script caps history)
  answer_complete bytes story stands answer said caps history is = subst (IsScriptUnlessShort answer view) (text_is bytes story stands caps history is) said

  pub answer_malformed : (answer : Result X CarryFault) (expected : List ℕ) (holds : ℕ → Type 0) → IsScriptUnlessShort answer view expected
      → OnMalformed answer holds
  answer_malformed (Ok script) expected holds said = tt
  answer_malformed (Err TooLong) expected holds said = tt
  answer_malformed (Err NoMemory) expected holds said = tt
  answer_malformed (Err (Malformed at)) expected holds said = absurd said
  answer_malformed (Err (Disagrees entry kept computed)) expected holds said = tt

  pub answer_disagrees : (answer : Result X CarryFault) (expected : List ℕ) (holds : ℕ → List ℕ → List ℕ → Type 0)
      → IsScriptUnlessShort answer view expected → OnDisagrees answer holds
  answer_disagrees (Ok script) expected holds said = tt
  answer_disagrees (Err TooLong) expected holds said = tt
  answer_disagrees (Err NoMemory) expected holds said = tt
  answer_disagrees (Err (Malformed at)) expected holds said = tt
  answer_disagrees (Err (Disagrees entry kept computed)) expected holds said = absurd said

  pub fault_complete : (fault : CarryFault) (old new expected : List ℕ) (acts : List Act) → Adds (Err fault) old acts new
      → old ++ written acts ≡ expected → IsScriptUnlessShort (Err fault) view expected
  fault_complete (Malformed at) old new expected acts added is = added
  fault_complete (Disagrees entry kept computed) old new expected acts added is = added
  fault_complete TooLong old new expected acts added is = subst (λ (s : List ℕ). MAX_SCRIPT < length s) is added
  fault_complete NoMemory old new expected acts added is = tt

-- a fault that isn't one of length
pub none_long : {X : Type 0} (answer : Result X CarryFault) (H : Type 0) → OnTooLong answer ⊥ → OnTooLong answer H
none_long (Ok x) H none = tt
none_long (Err (Malformed at)) H none = tt
none_long (Err (Disagrees entry kept computed)) H none = tt
none_long (Err TooLong) H none = absurd none
none_long (Err NoMemory) H none = tt

-- what was added is the script of what stands
pub whole_is : (story : Standing) (methods : List Method) (clock : ℕ) (waiting : List (Item Handed)) (start first : List ℕ) → methods ≡ story.methods
    → clock ≡ story.clock → waiting ≡ story.waiting → start ≡ [] → first ≡ start ++ written (adds (map address_of methods))
    → first ++ written (queue_acts 1 clock (queue_of waiting)) ≡ text_of story
whole_is story methods clock waiting start first one two three none lines =
    script_is methods clock waiting start first none lines
    ∙ ap (λ (l : List Method). written (carried_from (map address_of l) clock (queue_of waiting))) one
    ∙ ap (λ (n : ℕ). written (carried_from (map address_of story.methods) n (queue_of waiting))) two
    ∙ ap (λ (l : List (Item Handed)). written (carried_from (map address_of story.methods) story.clock (queue_of l))) three
