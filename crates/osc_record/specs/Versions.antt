-- The two versions of the format. The first has no policy in its header, and no third number in the
-- entry of a submit, where it drops no unit.
use Rattle.std.specs.Prelude.{◌≡◌, ℕ, pos, List, [], ◌∷◌, ◌++◌, codes, Option}
use Rattle.std.specs.Prelude.{Some, option_map, if◌then◌else◌}
use Rattle.std.specs.List.{flat_map}
use Rattle.std.specs.Option.{option_map_or}
use Rattle.osc_message.specs.Messages.{content, long}
use Rattle.osc_model.specs.declared.late.Late.TheVariants.{Deliver}
use Rattle.osc_model.specs.Limits.{Limits, IsWithin, AreInRange, is_within, limit_fault}
use Rattle.osc_model.specs.Limits.{header_size, max_recording}
use Rattle.osc_model.specs.Events.{Event, submit, Answer, queued, Entry as Recorded}
use Rattle.osc_model.specs.Recordings.{Row, int, header_row, submitted, row_of, row_text, sized}
use Rattle.osc_model.specs.Recordings.{FitsRow, IsSound, IsRecordable}
use Rattle.osc_record.specs.declared.version.Version.{Version}
use Rattle.osc_record.specs.declared.version.Version.TheVariants.{First, Second}

-- the number in the header
abbrev pub version_number : Version → ℕ
version_number First = 1
version_number Second = 2

-- how many bytes the header has
abbrev pub header_size_of : Version → ℕ
header_size_of First = 56
header_size_of Second = header_size

-- the first version's header: its number, and the six limits
abbrev pub old_header_row : Limits → Row
old_header_row limits = record {
  address = codes "/osc/rec";
  arguments = int 1 ∷ int limits.units ∷ int limits.blocks ∷ int limits.methods ∷ int limits.nodes
      ∷ int limits.callers ∷ int limits.recording ∷ [];
}

-- its submit: the code and two numbers of the answer
abbrev pub old_submit_row : ℕ → List ℕ → ℕ × ℕ × ℕ × ℕ → Row
old_submit_row caller packet answer = record {
  address = codes "/osc/submit";
  arguments = int caller ∷ content packet ∷ int answer.0 ∷ long (pos answer.1) ∷ int answer.2 ∷ [];
}

-- the tags of its arguments, and what its message begins with
abbrev pub submit_tags_in : Version → List ℕ
submit_tags_in First = codes "ibihi"
submit_tags_in Second = codes "ibihii"

abbrev pub submit_front_in : Version → List ℕ
submit_front_in First = codes "/osc/submit" ++ 0 ∷ codes ",ibihi" ++ 0 ∷ 0 ∷ []
submit_front_in Second = codes "/osc/submit" ++ 0 ∷ codes ",ibihii" ++ 0 ∷ []

-- its other rows are those of the second
abbrev pub old_row_of : ℕ → Event → Answer → Option Row
old_row_of caller (submit packet) answer =
    option_map (old_submit_row caller packet) (submitted answer)
old_row_of caller event answer = row_of caller event answer

-- the message of an entry
abbrev pub row_in : Version → ℕ → Event → Answer → Option Row
row_in First caller event answer = old_row_of caller event answer
row_in Second caller event answer = row_of caller event answer

-- the message of the header
abbrev pub header_row_in : Version → Limits → Row
header_row_in First limits = old_header_row limits
header_row_in Second limits = header_row limits

-- the header's bytes
abbrev pub header_text_in : Version → Limits → List ℕ
header_text_in version limits = sized (row_text (header_row_in version limits))

-- an entry's bytes
abbrev pub text_in : Version → ℕ → Event → Answer → List ℕ
text_in version caller event answer =
    option_map_or (λ row. sized (row_text row)) (row_in version caller event answer) []

-- the bytes of a whole recording
abbrev pub record_text_in : Version → Limits → List Recorded → List ℕ
record_text_in version limits entries =
    header_text_in version limits
    ++ flat_map (λ entry. text_in version entry.caller entry.event entry.answer) entries

-- no unit is dropped
abbrev pub DropsNone : Answer → Type 0
DropsNone (queued first count late) = late ≡ 0
DropsNone _ = Unit {0}

-- the answer is one of the event's, each number is within its argument, an address has no zero
-- byte, and no unit is dropped
pub record IsOldRecordable (caller : ℕ) (event : Event) (answer : Answer) : Type 0 where
  pub fits : FitsRow (old_row_of caller event answer)
  pub sound : IsSound answer
  pub drops : DropsNone answer

-- what an entry has to be
abbrev pub IsRecordableIn : Version → ℕ → Event → Answer → Type 0
IsRecordableIn First caller event answer = IsOldRecordable caller event answer
IsRecordableIn Second caller event answer = IsRecordable caller event answer

-- the limits without that of the recording
abbrev pub unlimited : Limits → Limits
unlimited limits = record limits { recording = max_recording }

-- each limit is in its range, where a recording is at least a header; late units are delivered
pub record AreInOldRange (limits : Limits) : Type 0 where
  pub others : AreInRange (unlimited limits)
  pub recording : IsWithin (header_size_of First) max_recording limits.recording
  pub delivers : limits.late ≡ Deliver

-- what the limits have to be
abbrev pub AreInRangeIn : Version → Limits → Type 0
AreInRangeIn First limits = AreInOldRange limits
AreInRangeIn Second limits = AreInRange limits

-- the first limit outside its range, counted from 1
abbrev pub limit_fault_in : Version → Limits → Option ℕ
limit_fault_in First limits = if is_within (header_size_of First) max_recording limits.recording
    then limit_fault (unlimited limits) else Some 6
limit_fault_in Second limits = limit_fault limits
