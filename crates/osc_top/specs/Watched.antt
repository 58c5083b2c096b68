-- What is printed of lanes that are watched.
use Rattle.std.specs.Prelude.{◌≡◌, ℕ, Bool, true, false, List, [], ◌++◌, length}
use Rattle.std.specs.List.{flat_map}
use Rattle.osc_atoms.specs.declared.fault.Fault.{Fault}
use Rattle.osc_model.specs.Limits.{Limits}
use Rattle.osc_model.specs.Events.{Entry}
use Rattle.osc_model.specs.History.{Legal}
use Rattle.osc_model.specs.Recordings.{record_text}
use Rattle.osc_print.specs.Lines.{fault_text, list_text, method_text}
use Rattle.osc_replay.specs.Printed.{printed}
use Rattle.osc_watch.specs.declared.row.MethodRow.{MethodRow}
use Rattle.osc_watch.specs.Edits.{edits_of}
use Rattle.osc_watch.specs.Listing.{listing}
use Rattle.osc_ends.specs.declared.outcome.Outcome.{Outcome}
use Rattle.osc_ends.specs.Outcomes.{status_of}
use Rattle.osc_ends.specs.Printing.{last_text}
use Rattle.osc_ends.specs.Sinks.{SinkChange, Gains}

-- the lines of methods, in order
abbrev pub rows_text : List MethodRow → List ℕ
rows_text rows = flat_map (λ row. method_text row.id row.address) rows

-- the lines of the methods that stand after a history, after one that counts its adds and removals
-- that weren't refused
abbrev pub methods_text : List Entry → List ℕ
methods_text history =
    list_text (length (edits_of history)) ++ rows_text (listing (edits_of history))

-- the same where lanes are watched, and else nothing
abbrev pub watched_text : Bool → List Entry → List ℕ
watched_text true history = methods_text history
watched_text false history = []

-- the lines of faults, in order
abbrev pub faults_text : List (ℕ × Fault) → List ℕ
faults_text faults = flat_map (λ one. fault_text one.0 one.1) faults

-- Both sinks gained all of one history: its recording, and its text. The methods that stand after
-- it are listed last, after the lines of the faults, but for the line on how it ended.
pub record EndsListed (status : ℕ) (caps : Limits) (rec out : SinkChange) : Type 0 where
  pub history : List Entry
  pub faults : List (ℕ × Fault)
  pub outcome : Outcome
  pub legal : Legal caps history
  pub status_is : status ≡ status_of outcome
  pub recorded : Gains rec (record_text caps history)
  pub told : Gains out (printed caps history
      ++ (faults_text faults ++ (methods_text history ++ last_text outcome)))
