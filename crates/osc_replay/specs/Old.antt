-- Recordings of the first version of the format: which are formed, and what its server gave. The
-- rules are those of today, but that entries have the first version's sizes.
use Rattle.std.specs.Prelude.{◌≡◌, ◌⊎◌, ◌<◌, ◌≤◌, ℕ, ◌+◌, List, [], ◌∷◌, ◌++◌, length}
use Rattle.std.specs.Prelude.{if◌then◌else◌}
use Rattle.std.specs.List.{flat_map, AllByRecursion}
use Rattle.osc_atoms.specs.Atoms.{blob_end}
use Rattle.osc_print.specs.Entries.{event_line, invocation_text}
use Rattle.osc_model.specs.Limits.{Limits}
use Rattle.osc_model.specs.State.{State, opening}
use Rattle.osc_model.specs.Events.{Event, submit, Answer, Entry, adds_entry}
use Rattle.osc_model.specs.Recordings.{entry_size}
use Rattle.osc_model.specs.Step.{Stepped, decided, recorded_as}
use Rattle.osc_model.specs.History.{IsLawful, AddsEntry}
use Rattle.osc_record.specs.declared.version.Version.TheVariants.{First}
use Rattle.osc_record.specs.Versions.{header_size_of, text_in, record_text_in}
use Rattle.osc_record.specs.Versions.{IsOldRecordable, AreInOldRange}
use Rattle.osc_record.specs.Reading.{IsRecordIn, HasNoHeaderIn}

-- limits and entries of an old recording, each packet valid and each address lawful
pub record IsOldFormed (limits : Limits) (entries : List Entry) : Type 0 where
  pub record_ : IsRecordIn First limits entries
  pub lawful : AllByRecursion (λ entry. IsLawful entry.event) entries

-- its bytes
abbrev pub old_text : Limits → List Entry → List ℕ
old_text limits entries = record_text_in First limits entries

-- the bytes are an old recording of these limits and entries
pub record IsOldRecordingOf (bytes : List ℕ) (caps : Limits) (entries : List Entry) : Type 0 where
  pub formed : IsOldFormed caps entries
  pub text : bytes ≡ old_text caps entries

-- Up to a place the bytes are such a recording, and the bytes that follow there don't begin with an
-- entry that could be recorded within the limit and whose packet or address is lawful.
pub record HasOldUnformed (bytes : List ℕ) (at : ℕ) : Type 0 where
  pub limits : Limits
  pub entries : List Entry
  pub rest : List ℕ
  pub formed : IsOldFormed limits entries
  pub text : bytes ≡ old_text limits entries ++ rest
  pub place : at ≡ length (old_text limits entries)
  pub some : 0 < length rest
  pub none : (entry : Entry) (more : List ℕ)
      → IsOldRecordable entry.caller entry.event entry.answer → IsLawful entry.event →
      at + length (text_in First entry.caller entry.event entry.answer) ≤ limits.recording
      → rest ≡ text_in First entry.caller entry.event entry.answer ++ more → ⊥

-- the place of the header, or of the first entry, that is malformed
abbrev pub IsOldUnformedAt : List ℕ → ℕ → Type 0
IsOldUnformedAt bytes at = HasNoHeaderIn First bytes at ⊎ HasOldUnformed bytes at

-- how many bytes an entry had
abbrev pub old_entry_size : Event → Answer → ℕ
old_entry_size (submit packet) answer = 48 + (length packet + blob_end (length packet))
old_entry_size event answer = entry_size event answer

-- one event, on a state
abbrev pub old_step : State → Event → Stepped
old_step state event =
    let stepped = decided state event in
    if adds_entry stepped.answer
    then recorded_as state (old_entry_size event stepped.answer) stepped else stepped

-- a server that has just opened
abbrev pub old_opening : Limits → State
old_opening caps = record (opening caps) { recorded = header_size_of First }

-- the entry is of a caller that is enrolled, and has the answer that the rules give
abbrev pub OldGives : State → Entry → Type 0
OldGives state entry =
    (entry.caller < state.callers) × IsLawful entry.event × AddsEntry entry.answer
    × (entry.answer ≡ (old_step state entry.event).answer)

-- from a state on, so is each entry on the state after those before it
abbrev pub OldLegalFrom : State → List Entry → Type 0
OldLegalFrom state [] = Unit {0}
OldLegalFrom state (entry ∷ entries) =
    OldGives state entry × OldLegalFrom (old_step state entry.event).state entries

-- a history of a server with these limits
abbrev pub OldLegal : Limits → List Entry → Type 0
OldLegal caps entries = AreInOldRange caps × OldLegalFrom (old_opening caps) entries

-- the state after a history
abbrev pub old_after : State → List Entry → State
old_after state [] = state
old_after state (entry ∷ entries) = old_after (old_step state entry.event).state entries

-- the printed history: each entry's line, and the lines of its invocations
abbrev pub old_printed_from : State → List Entry → List ℕ
old_printed_from state [] = []
old_printed_from state (entry ∷ entries) =
    event_line entry ++ flat_map invocation_text (old_step state entry.event).invocations
    ++ old_printed_from (old_step state entry.event).state entries

abbrev pub old_printed : Limits → List Entry → List ℕ
old_printed caps entries = old_printed_from (old_opening caps) entries
