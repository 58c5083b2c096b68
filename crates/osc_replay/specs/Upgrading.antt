-- What an upgrade is answered.
use Rattle.std.specs.Prelude.{◌≡◌, ◌<◌, ◌≤◌, ℕ, ◌+◌, ◌*◌, List, [], ◌∷◌, ◌++◌, length, min}
use Rattle.std.specs.Prelude.{Result, Ok, Err, if◌then◌else◌}
use Rattle.std.specs.List.{flat_map}
use Rattle.osc_model.specs.Limits.{Limits}
use Rattle.osc_model.specs.Events.{Entry}
use Rattle.osc_model.specs.State.{opening}
use Rattle.osc_model.specs.History.{after}
use Rattle.osc_model.specs.Recordings.{entry_text, record_text}
use Rattle.osc_replay.specs.declared.upgrade_text.UpgradeFault.{UpgradeFault}
use Rattle.osc_replay.specs.declared.upgrade_text.UpgradeFault.TheVariants.{Malformed, TooLarge}
use Rattle.osc_replay.specs.declared.upgrade_text.UpgradeFault.TheVariants.{NoMemory}
use Rattle.osc_replay.specs.Counted.{is_submit}
use Rattle.osc_replay.specs.Disagreeing.{DisagreesAt, IsRecordingOf, computed_text}
use Rattle.osc_replay.specs.Formed.{IsFormed}
use Rattle.osc_replay.specs.Old.{OldGives, OldLegal, old_after, old_opening, old_printed}
use Rattle.osc_replay.specs.Printed.{printed}

-- how many entries are submits
abbrev pub submits_in : List Entry → ℕ
submits_in [] = 0
submits_in (entry ∷ entries) = (if is_submit entry.event then 1 else 0) + submits_in entries

-- how many bytes more a recording has: 4 in the header, and 4 in each submit
abbrev pub growth : List Entry → ℕ
growth entries = 4 + 4 * submits_in entries

-- the old limits; that of the recording has grown as the recording has, up to a limit
abbrev pub upgraded : ℕ → Limits → List Entry → Limits
upgraded limit caps entries =
    record caps { recording = min limit (caps.recording + growth entries) }

-- the bytes of the upgraded recording
abbrev pub upgraded_text : ℕ → Limits → List Entry → List ℕ
upgraded_text limit caps entries = record_text (upgraded limit caps entries) entries

-- where the old recording is malformed, this holds of the place
abbrev pub OnOldMalformed : Result (List ℕ) UpgradeFault → (ℕ → Type 0) → Type 0
OnOldMalformed (Err (Malformed at)) holds = holds at
OnOldMalformed _ holds = Unit {0}

-- where it needs more bytes than the limit, this holds of both numbers
abbrev pub OnTooLarge : Result (List ℕ) UpgradeFault → (ℕ → ℕ → Type 0) → Type 0
OnTooLarge (Err (TooLarge need limit)) holds = holds need limit
OnTooLarge _ holds = Unit {0}

-- The upgraded recording, which keeps to the limit; how many bytes it needs, where that is more
-- than the limit; or memory ran out.
abbrev pub IsUpgradedUnlessShort : Result (List ℕ) UpgradeFault → ℕ → Limits → List Entry → Type 0
IsUpgradedUnlessShort (Ok bytes) limit caps entries =
    (bytes ≡ upgraded_text limit caps entries) × (length bytes ≤ limit)
    × IsFormed (upgraded limit caps entries) entries
IsUpgradedUnlessShort (Err (TooLarge need most)) limit caps entries =
    (need ≡ length (upgraded_text limit caps entries)) × (most ≡ limit) × (limit < need)
IsUpgradedUnlessShort (Err NoMemory) limit caps entries = Unit {0}
IsUpgradedUnlessShort (Err (Malformed at)) limit caps entries = ⊥

-- the upgraded bytes are the recording of the same history, which prints the same lines
pub record PrintsTheSame (bytes : List ℕ) (limit : ℕ) (caps : Limits)
    (history : List Entry) : Type 0 where
  pub recording : IsRecordingOf bytes (upgraded limit caps history) history
  pub lines : printed (upgraded limit caps history) history ≡ old_printed caps history

-- where the rules of the first version don't give an entry of the history, a replay of the upgraded
-- bytes disagrees at the first such one
abbrev pub DisagreesThere : List ℕ → ℕ → Limits → List Entry → Type 0
DisagreesThere bytes limit caps history =
    (before : List Entry) (entry : Entry) (later : List Entry) → history ≡ before ++ entry ∷ later
    → OldLegal caps before → (OldGives (old_after (old_opening caps) before) entry → ⊥)
    → DisagreesAt bytes (length before) (entry_text entry.caller entry.event entry.answer)
    (computed_text (after (opening (upgraded limit caps history)) before) entry.caller entry.event)

-- Inside the crate: the bytes of entries, one after another.
abbrev pub texts_of : List Entry → List ℕ
texts_of entries = flat_map (λ entry. entry_text entry.caller entry.event entry.answer) entries
