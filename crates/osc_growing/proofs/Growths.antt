-- How a recording grows.
use Rattle.std.proofs.Common.{◌≡◌, ◌≤◌, ◌+◌, ℕ, List, ◌++◌, length, take, drop, refl, sym, ap, subst, ◌∙◌, arith}
use Rattle.std.proofs.Common.{append_assoc, length-append}
use Rattle.std.specs.List.{flat_map}
use Rattle.std.proofs.lemmas.List.{map-append, take-append-le}
use Rattle.std.proofs.lemmas.List.Elements.{filter_map-append}
use Rattle.std.proofs.lemmas.Grind.{flat_map-append}
use Rattle.std.proofs.Math.Seq.{take-add}
use Rattle.osc_edge.specs.Faults.{Rose}
use Rattle.std.specs.Prelude.{Option, Some, None}
use Rattle.osc_ends.specs.Sinks.{SinkChange, SinkOf, change, GainsAll, GainsPart}
use Rattle.osc_model.specs.Limits.{Limits}
use Rattle.osc_model.specs.Events.{Entry}
use Rattle.osc_model.specs.Recordings.{record_text, header_text, entry_text}
use Rattle.osc_record.specs.Reading.{entry_in}
use Rattle.osc_core.specs.Standing.{history_in}
use Rattle.osc_turn.specs.declared.view.Entry.{Entry as Seen}
use Rattle.osc_turn.specs.declared.view.View.{View}
use Rattle.osc_turn.specs.History.{StartsWith, texts, text_of}
use Rattle.osc_live.specs.Reads.{Reads, Writes}
use Rattle.osc_growing.specs.declared.growth.Growth.{Growth}
use Rattle.osc_growing.specs.declared.growth.Growth.TheVariants.{Written, Failed, NoMemory}
use Rattle.osc_live.specs.Looks.{HasLooked}
use Rattle.osc_live.proofs.Looked.{looked_once}
use Rattle.osc_life.specs.Looking.{HasLookedOn}
use Rattle.osc_growing.specs.Growing.{recorded, HasGrown, IsWithin, growth_of}
use Rattle.osc_growing.proofs.Fronts.{Gained, Front, gained_none, gained_both, front_both, front_on}

-- the text of an entry
abbrev text_in : Entry → List ℕ
text_in entry = entry_text entry.caller entry.event entry.answer

-- the recording of more entries goes on from that of the first ones
pub text_goes_on : (caps : Limits) (all seen : List Seen) → StartsWith all seen
    → (more : List ℕ) × (record_text caps (history_in (texts all)) ≡ record_text caps (history_in (texts seen)) ++ more)
text_goes_on caps all seen starts =
    let rest = history_in (texts starts.0) in
    let entries : history_in (texts all) ≡ history_in (texts seen) ++ rest =
    ap (λ (l : List Seen). history_in (texts l)) starts.1
    ∙ ap (λ (l : List (List ℕ)). history_in l) (map-append text_of seen starts.0)
    ∙ filter_map-append entry_in (texts seen) (texts starts.0)
    in (
      flat_map text_in rest,
      ap (λ (l : List Entry). record_text caps l) entries
          ∙ ap (λ (l : List ℕ). header_text caps ++ l) (flat_map-append text_in (history_in (texts seen)) rest)
          ∙ sym (append_assoc (header_text caps) (flat_map text_in (history_in (texts seen))) (flat_map text_in rest)),
    )

-- a token that has looked has not lost what was recorded
pub recorded_on : (caps : Limits) (v w : View) → StartsWith w.seen v.seen → (more : List ℕ) × (recorded caps w ≡ recorded caps v ++ more)
unfolding recorded
recorded_on caps v w starts = text_goes_on caps w.seen v.seen starts

-- what was read are bytes of what is recorded
pub read_of : (caps : Limits) (from count : ℕ) (old new : List ℕ) (v w : View) → Reads caps from old new count v w → Writes (recorded caps w) from old new count
unfolding recorded
read_of caps from count old new v w reads = reads.writes

-- nothing is written at first
pub grown_none : (held : _) (faults : ℕ) (text : List ℕ)
    → HasGrown (Written 0) (record { held = held; held_after = held; faults = faults; faults_after = faults }) text
grown_none held faults text = (omega arith, (gained_none held text, refl))

-- what was written of a text was written of it and more
pub grown_on : (growth : Growth) (sink : SinkChange) (text more : List ℕ) → HasGrown growth sink text → HasGrown growth sink (text ++ more)
grown_on (Written at) sink text more grown = (
  omega (arith, grown.0, length-append text more),
  subst (GainsAll sink) (sym (take-append-le at text more grown.0)) grown.1,
)
grown_on Failed sink text more grown = (front_on sink.held sink.held_after text more grown.0, grown.1)
grown_on NoMemory sink text more grown = tt

pub grown_as : (growth : Growth) (sink : SinkChange) (text all more : List ℕ) → all ≡ text ++ more → HasGrown growth sink text → HasGrown growth sink all
grown_as growth sink text all more is grown = subst (HasGrown growth sink) (sym is) (grown_on growth sink text more grown)

-- from one change of a sink to the next
abbrev pub then_changed : SinkChange → SinkChange → SinkChange
then_changed one other = record { held = one.held; held_after = other.held_after; faults = one.faults; faults_after = other.faults_after }

-- one change follows the other
pub record Follows (one other : SinkChange) : Type 0 where
  pub held : other.held ≡ one.held_after
  pub faults : other.faults ≡ one.faults_after

-- a piece was written after what was written
pub piece_grown : (one other : SinkChange) (text piece : List ℕ) (from : ℕ) → Follows one other → from + length piece ≤ length text
    → piece ≡ take (length piece) (drop from text) → HasGrown (Written from) one text → GainsAll other piece
    → HasGrown (Written (from + length piece)) (then_changed one other) text
piece_grown one other text piece from follows within is grown gains = (
  within,
  (
    subst (λ (l : List ℕ). Gained one.held other.held_after l)
        (ap (λ (l : List ℕ). take from text ++ l) is ∙ sym (take-add from (length piece) text))
        (gained_both one.held one.held_after other.held_after (take from text) piece grown.1.0
        (subst (λ (h : _). Gained h other.held_after piece) follows.held gains.0)),
    gains.1 ∙ follows.faults ∙ grown.1.1,
  ),
)

-- the sink failed after what was written
pub piece_failed : (one other : SinkChange) (text piece : List ℕ) (from : ℕ) → Follows one other → piece ≡ take (length piece) (drop from text)
    → HasGrown (Written from) one text → GainsPart other piece → HasGrown Failed (then_changed one other) text
piece_failed one other text piece from follows is grown gains = (
  front_both one.held one.held_after other.held_after text from (length piece) grown.1.0
      (subst (λ (h : _). Front h other.held_after (take (length piece) (drop from text))) follows.held
      (subst (λ (l : List ℕ). Front other.held other.held_after l) is gains.0)),
  subst (λ (n : ℕ). Rose n other.faults_after) (follows.faults ∙ grown.1.1) gains.1,
)

-- a read is a look
pub looked_by : (caps : Limits) (from count : ℕ) (old new : List ℕ) (v w : View) → Reads caps from old new count v w → HasLooked v w
looked_by caps from count old new v w reads = looked_once v w reads.once reads.goes_on reads.own_same

-- what was written of all that a token has seen was written of the whole history that begins with it
pub grown_whole : (growth : Growth) (sink : SinkChange) (caps : Limits) (w : View) (history : List Seen) (bytes : List ℕ)
    → bytes ≡ record_text caps (history_in (texts history)) → StartsWith history w.seen
    → HasGrown growth sink (recorded caps w) → HasGrown growth sink bytes
unfolding recorded
grown_whole growth sink caps w history bytes is starts grown =
    let on = text_goes_on caps history w.seen starts in
    grown_as growth sink (recorded caps w) bytes on.0 (is ∙ on.1) grown

-- no more was written than there is
pub grown_within : (growth : Growth) (sink : SinkChange) (text : List ℕ) → HasGrown growth sink text → IsWithin growth (length text)
grown_within (Written at) sink text grown = grown.0
grown_within Failed sink text grown = tt
grown_within NoMemory sink text grown = tt

-- what whoever has looked has written was written of what was recorded in the end
pub looked_grown : {R : Type 0} (sink : SinkOf R) (caps : Limits) (before after : R) (bytes : List ℕ) (looked : Option Growth)
    → HasLookedOn (λ (b a : R) (end : Growth) (c : Limits) (v : View). HasGrown end (change sink b a) (recorded c v)) caps before after bytes looked
    → HasGrown (growth_of looked) (change sink before after) bytes
looked_grown {R} sink caps before after bytes None same =
    subst (λ (r : R). HasGrown (Written 0) (change sink before r) bytes) (sym same) (grown_none (sink.held before) (sink.faults before) bytes)
looked_grown {R} sink caps before after bytes (Some end) looked =
    grown_whole end (change sink before after) caps looked.0 looked.1 bytes looked.4 looked.3 looked.2
