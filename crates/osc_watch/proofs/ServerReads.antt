-- What a read of the server says of its recording.
use Rattle.std.proofs.Common.{ℕ, ◌<◌, ◌≤◌, List, length, ap, ◌∙◌, arith}
use Rattle.std.specs.List.{AllByRecursion}
use Rattle.std.proofs.lemmas.List.Elements.{filter_map-append}
use Rattle.osc_model.specs.Limits.{Limits}
use Rattle.osc_model.specs.Events.{Entry}
use Rattle.osc_model.specs.Recordings.{IsRecordable, record_text}
use Rattle.osc_model.specs.History.{Legal}
use Rattle.osc_record.specs.Reading.{entry_in, IsRecord}
use Rattle.osc_turn.specs.declared.view.View.{View}
use Rattle.osc_turn.specs.History.{StartsWith, texts}
use Rattle.osc_turn.proofs.Histories.{starts_texts}
use Rattle.osc_core.specs.Standing.{history_in}
use Rattle.osc_live.specs.Seen.{history_of}
use Rattle.osc_live.specs.Calls.{TakesTurn}

pub goes_on : (v w : View) → StartsWith w.seen v.seen → StartsWith (history_of w) (history_of v)
goes_on v w starts =
    let on = starts_texts w.seen v.seen starts in
    (_, ap (λ (l : List (List ℕ)). history_in l) on.1 ∙ filter_map-append entry_in (texts v.seen) on.0)

pub recorded : (caps : Limits) (history : List Entry)
    → ((caps : Limits) (history : List Entry) → Legal caps history → AllByRecursion (λ entry. IsRecordable entry.caller entry.event entry.answer) history)
    → ((caps : Limits) (history : List Entry) → Legal caps history → length (record_text caps history) ≤ caps.recording)
    → Legal caps history → IsRecord caps history
recorded caps history all within legal = record { lawful = legal.0; all = all caps history legal; fits = within caps history legal }

pub risen : (v w : View) → TakesTurn v w → v.taken < w.taken
risen v w once = omega (arith, ap (λ (z : View). z.taken) once)
