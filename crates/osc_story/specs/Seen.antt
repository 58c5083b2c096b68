-- What is seen of an entry, of what is left of a recording, and why it stops.
use Rattle.std.specs.Prelude.{◌≡◌, ⊤, ℕ, ◌+◌, ◌<◌, ◌≤◌, List, [], ◌++◌, length, Option, Some, None}
use Rattle.std.specs.Prelude.{Result}
use Rattle.std.specs.Prelude.{MatchResult}
use Rattle.std.specs.List.{AllByRecursion, flat_map}
use Rattle.osc_model.specs.Limits.{Limits}
use Rattle.osc_model.specs.Events.{Event, Answer, Entry}
use Rattle.osc_model.specs.Recordings.{IsRecordable, entry_text}
use Rattle.osc_record.specs.Reading.{Placed}
use Rattle.osc_record.specs.Unread.{Remaining, Reads}
use Rattle.osc_story.specs.declared.disagreement.Disagreement.{Disagreement}
use Rattle.osc_story.specs.declared.disagreement.SeeFault.{SeeFault}
use Rattle.osc_story.specs.declared.disagreement.SeeFault.TheVariants.{NoMemory, Disagrees}
use Rattle.osc_story.specs.declared.reader.Stop.{Stop}
use Rattle.osc_story.specs.declared.reader.Stop.TheVariants.{End, NotWhole}
use Rattle.osc_story.specs.declared.reader.Stop.TheVariants as stop
use Rattle.osc_story.specs.Standings.{Standing, fault_of, seen_by, disagreement, seen_all}
use Rattle.osc_story.specs.Standings.{AgreesAll, Follows}

-- out of memory, or the entry disagrees so
abbrev pub IsCause : SeeFault → Option Disagreement → Type 0
IsCause NoMemory found = Unit {0}
IsCause (Disagrees why) found = found ≡ Some why

abbrev pub IsFaultOf : SeeFault → Standing → Entry → Type 0
IsFaultOf fault standing entry = IsCause fault (disagreement standing entry)

-- an event and its answer agree and are seen; or there is a cause, and nothing changes
abbrev pub Sees : Result ⊤ SeeFault → Standing → ℕ → Event → Answer → Standing → Type 0
Sees result old caller event answer new =
    MatchResult result
    (λ _. (fault_of old event answer ≡ None) × (new ≡ seen_by old caller event answer))
    (λ fault. IsCause fault (fault_of old event answer) × (new ≡ old))

-- the bytes of an entry, and of entries one after another
abbrev pub bytes_of : Entry → List ℕ
bytes_of entry = entry_text entry.caller entry.event entry.answer

abbrev pub text_of : List Entry → List ℕ
text_of entries = flat_map bytes_of entries

-- it is one that can be recorded
abbrev pub CanBe : Entry → Type 0
CanBe entry = IsRecordable entry.caller entry.event entry.answer

-- no entry that can be recorded, and ends within the limit, begins the bytes from a place on
abbrev pub HasNoEntry : Limits → ℕ → List ℕ → Type 0
HasNoEntry caps at rest = (entry : Entry) (more : List ℕ) → CanBe entry
    → at + length (bytes_of entry) ≤ caps.recording → rest ≡ bytes_of entry ++ more → ⊥

-- the bytes begin with an entry that disagrees so
pub record BeginsUnlike (standing : Standing) (rest : List ℕ) (why : Disagreement) : Type 0 where
  pub entry : Entry
  pub more : List ℕ
  pub text : rest ≡ bytes_of entry ++ more
  pub can_be : CanBe entry
  pub unlike : disagreement standing entry ≡ Some why

-- Why no more is seen of the bytes from a place on: nothing is left; or no whole entry begins them;
-- or one does that disagrees. Out of memory, what begins them can be seen later.
abbrev pub StopsFor : Stop → Limits → Standing → ℕ → List ℕ → Type 0
StopsFor End caps standing at rest = rest ≡ []
StopsFor (NotWhole place) caps standing at rest = (place ≡ at) × (0 < length rest) × HasNoEntry caps at rest
StopsFor (stop.Disagrees place why) caps standing at rest =
    (place ≡ at) × BeginsUnlike standing rest why
StopsFor (stop.NoMemory place) caps standing at rest = place ≡ at

-- Of what was left of a recording entries were seen, all of which agree, and there is a cause why
-- it stopped.
pub record HasSeen (old : Standing) (left : Remaining) (stop : Stop) (new : Standing)
    : Type 0 where
  pub entries : List Entry
  pub rest : List ℕ
  pub text : left.rest ≡ text_of entries ++ rest
  pub can_be : AllByRecursion CanBe entries
  pub agree : AgreesAll old entries
  pub becomes : new ≡ seen_all old entries
  pub stops : StopsFor stop left.caps new (left.at + length (text_of entries)) rest

-- one more entry was read and seen, or nothing was seen, for a cause
abbrev pub SeesNext : Standing → Remaining → Option Stop → Standing → Remaining → Type 0
SeesNext old left None new after = (placed : Placed) × Reads left placed after
    × Follows old placed.entry new
SeesNext old left (Some stop) new after =
    (new ≡ old) × StopsFor stop left.caps old left.at left.rest
