-- Inside the crate: what a reader keeps of the notes so far.
use Rattle.osc_atoms.specs.declared.limits.TheConstants.{MAX_PACKET}
use Rattle.std.specs.Prelude.{◌≡◌, ℕ, ◌<◌, ◌≤◌, List, [], ◌∷◌, ◌++◌, length, map, Option, Some}
use Rattle.std.specs.Prelude.{None, Result, Ok, Err}
use Rattle.osc_message.specs.Messages.{message_text}
use Rattle.osc_packet.specs.Bundling.{Bundling}
use Rattle.osc_tree.specs.Registry.{Registry, IsLawful}
use Rattle.osc_tree.specs.Adding.{Refusal, taken}
use Rattle.osc_score.specs.declared.run.Run.{Run}
use Rattle.osc_score.specs.declared.reader.Reader.{Reader}
use Rattle.osc_score.specs.declared.fault.ScoreFault.{ScoreFault}
use Rattle.osc_score.specs.declared.fault.ScoreFaultKind.{ScoreFaultKind}
use Rattle.osc_score.specs.declared.fault.ScoreFaultKind.TheVariants as kinds
use Rattle.osc_score.specs.declared.fault.ScoreRefusal.{ScoreRefusal}
use Rattle.osc_score.specs.declared.fault.ScoreRefusal.TheVariants.{Fault}
use Rattle.osc_score.specs.declared.fault.ScoreRefusal.TheVariants.{NoMemory as NoScoreMemory}
use Rattle.osc_script.specs.declared.fault.LineRefusal.{LineRefusal}
use Rattle.osc_script.specs.declared.fault.LineRefusal.TheVariants.{Kind, NoMemory}
use Rattle.osc_score.specs.Scores.{Note, Group, groups_of, message_of, bundle_text, addresses_of}
use Rattle.osc_score.specs.Scores.{tree_of}
use Rattle.osc_score.specs.Plans.{run_of}
use Rattle.osc_score.specs.Reading.{least_of, run_with, unless_refused}

-- the messages of notes
abbrev pub texts_of : List Note → List (List ℕ)
texts_of notes = map (λ note. message_text (message_of note)) notes

-- the bundle of a run, in the making
abbrev pub making_of : Group → Bundling
making_of group = record { tag = group.tag; messages = texts_of group.notes }

-- the last run is in the making, and those before it are kept
pub record KeepsLast (least : ℕ) (runs : List Run) (making : Bundling) (groups : List Group)
    : Type 0 where
  pub done : List Group
  pub last : Group
  pub parts : groups ≡ done ++ last ∷ []
  pub kept : runs ≡ map run_of done
  pub making_is : making ≡ making_of last
  pub tag_is : last.tag ≡ least

-- the same, where there may be no run yet
abbrev pub KeepsRuns : ℕ → List Run → Option Bundling → List Group → Type 0
KeepsRuns least runs None groups = (groups ≡ []) × (runs ≡ [])
KeepsRuns least runs (Some making) groups = KeepsLast least runs making groups

-- runs with one more note after them
abbrev pub KeepsNext : List Run → Bundling → List Group → Note → Type 0
KeepsNext runs making groups note = KeepsLast note.tag runs making groups

-- what is answered to a message that is pushed to the run with it
abbrev pub Pushes : Result Bundling (LineRefusal ScoreFaultKind) → Bundling → ℕ → Type 0
Pushes (Ok new) making size = (new ≡ making) × (size ≤ MAX_PACKET)
Pushes (Err (Kind kind)) making size = (kind ≡ kinds.Bundle) × (MAX_PACKET < size)
Pushes (Err NoMemory) making size = Unit {0}

-- the runs with the note, whose bundle isn't too long; or it is
abbrev pub PushesNote : Result Bundling (LineRefusal ScoreFaultKind) → List Group → List Group
    → Note → List Run → Type 0
PushesNote (Ok making) groups more note runs =
    (length (bundle_text (run_with groups note)) ≤ MAX_PACKET) × KeepsLast note.tag runs making more
PushesNote (Err (Kind kind)) groups more note runs =
    (kind ≡ kinds.Bundle) × (MAX_PACKET < length (bundle_text (run_with groups note)))
PushesNote (Err NoMemory) groups more note runs = Unit {0}

-- an address is registered, is there already, or is refused
abbrev pub Registers : Result (Unit {0}) (LineRefusal ScoreFaultKind) → Option Refusal → Registry
    → Registry → List (List ℕ) → List (List ℕ) → List ℕ → Type 0
Registers (Ok done) None old new before after address =
    (new
    ≡ record old {
      methods = old.methods ++ record { id = length before; address = address } ∷ [];
    })
    × (after ≡ before ++ address ∷ [])
Registers (Ok done) (Some (taken id)) old new before after address = (new ≡ old) × (after ≡ before)
Registers (Ok done) (Some refusal) old new before after address = ⊥
Registers (Err (Kind kind)) refusal old new before after address =
    (notes : List Note) → unless_refused refusal notes ≡ Err kind
Registers (Err NoMemory) refusal old new before after address = Unit {0}

-- what a reader keeps of notes
pub record Keeps (reader : Reader) (notes : List Note) : Type 0 where
  pub tree : reader.tree ≡ tree_of notes
  pub addresses : reader.addresses.items ≡ addresses_of notes
  pub least : reader.least ≡ least_of notes
  pub runs : KeepsRuns reader.least reader.runs.items reader.last (groups_of notes)

-- it keeps some notes, whose addresses make a lawful tree
pub record IsReading (reader : Reader) : Type 0 where
  pub notes : List Note
  pub kept : Keeps reader notes
  pub lawful : IsLawful (tree_of notes)

-- what a note or a line leaves of a reader, by what is read
abbrev pub Goes : Result (Unit {0}) (LineRefusal ScoreFaultKind)
    → Result (List Note) ScoreFaultKind → Reader → Type 0
Goes (Ok done) (Ok notes) reader = Keeps reader notes
Goes (Ok done) (Err kind) reader = ⊥
Goes (Err (Kind kind)) read reader = read ≡ Err kind
Goes (Err NoMemory) read reader = Unit {0}

-- the notes that are read are kept, or their first fault is answered, unless memory is refused
abbrev pub KeepsAll : Result Reader ScoreRefusal → Result (List Note) ScoreFault → Type 0
KeepsAll (Ok reader) read = (notes : List Note) × (read ≡ Ok notes) × Keeps reader notes
KeepsAll (Err (Fault fault)) read = read ≡ Err fault
KeepsAll (Err NoScoreMemory) read = Unit {0}
