-- Inside the crate: what the calls below the public ones add.
use Rattle.std.specs.Prelude.{◌≡◌, ℕ, Bool, nat_lt, if◌then◌else◌, List, [], ◌++◌}
use Rattle.osc_packet.specs.Units.{TimedUnit}
use Rattle.osc_shown.specs.declared.arrival.Arrival.{Arrival}
use Rattle.osc_shown.specs.declared.look.Look.{Look}
use Rattle.osc_shown.specs.declared.unit.Report.{Report}
use Rattle.osc_shown.specs.Lines.{Reported, report_of, IsMessageText, IsMarkedLine, IsMessageLine}
use Rattle.osc_shown.specs.Lines.{AreMessageLines, AreEach, IsUnitText, IsWaitingLine, IsWaiting}
use Rattle.osc_shown.specs.Texts.{most_shown, shown_char}

-- what the lines of a unit say
abbrev pub report_in : Report → Reported
report_in u = report_of u.look u.arrival u.answer u.routes.now u.tag

abbrev pub AddsText : Bool → List ℕ → List ℕ → List ℕ → Type 0
AddsText whole message before after =
    (words : List ℕ) × IsMessageText whole message words × (after ≡ before ++ words)

abbrev pub AddsMarkedLine : Reported → ℕ → ℕ → List ℕ → List ℕ → List ℕ → Type 0
AddsMarkedLine report mark join message before after =
    (line : List ℕ) × IsMarkedLine report mark join message line × (after ≡ before ++ line)

abbrev pub AddsMessageLine : Reported → ℕ → List ℕ → List ℕ → List ℕ → Type 0
AddsMessageLine report join message before after =
    (line : List ℕ) × IsMessageLine report join message line × (after ≡ before ++ line)

abbrev pub AddsMessageLines : Reported → Bool → List (List ℕ) → List ℕ → List ℕ → Type 0
AddsMessageLines report first messages before after =
    (lines : List ℕ) × AreMessageLines report first messages lines × (after ≡ before ++ lines)

abbrev pub AddsEach : Reported → List (List ℕ) → List ℕ → List ℕ → Type 0
AddsEach report messages before after =
    (lines : List ℕ) × AreEach report messages lines × (after ≡ before ++ lines)

abbrev pub AddsUnitText : Bool → List (List ℕ) → List ℕ → List ℕ → Type 0
AddsUnitText whole messages before after =
    (words : List ℕ) × IsUnitText whole messages words × (after ≡ before ++ words)

abbrev pub AddsWaitingLine : Look → Arrival → TimedUnit → List ℕ → List ℕ → Type 0
AddsWaitingLine look arrival unit before after =
    (line : List ℕ) × IsWaitingLine look arrival unit line × (after ≡ before ++ line)

abbrev pub AddsWaiting : Look → Arrival → TimedUnit → List ℕ → List ℕ → Type 0
AddsWaiting look arrival unit before after =
    (line : List ℕ) × IsWaiting look arrival unit line × (after ≡ before ++ line)

-- a character, where fewer than are shown stand before it
abbrev pub counted_char : ℕ → ℕ → List ℕ
counted_char count letter = if nat_lt count most_shown then shown_char letter else []
