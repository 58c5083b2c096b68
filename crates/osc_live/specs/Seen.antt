-- What a token has seen, as a history of the server.
use Rattle.std.specs.Prelude.{◌≡◌, ℕ, ◌==◌, if◌then◌else◌, Bool, false, List, drop}
use Rattle.std.specs.List.{list_all}
use Rattle.std.specs.Option.{option_map_or}
use Rattle.osc_model.specs.Events.{Entry}
use Rattle.osc_model.specs.Limits.{Limits}
use Rattle.osc_model.specs.Recordings.{header_text}
use Rattle.osc_model.specs.History.{Performance, state_of}
use Rattle.osc_record.specs.Reading.{entry_in}
use Rattle.osc_core.specs.declared.sequential.Core.{Core}
use Rattle.osc_core.specs.Standing.{history_in, texts_of}
use Rattle.osc_core.specs.Telling.{told}
use Rattle.osc_method.specs.declared.method.Method.{Ghosts}
use Rattle.osc_turn.specs.declared.pass.Pass.{Pass}
use Rattle.osc_turn.specs.declared.turn.Turn.{Turn}
use Rattle.osc_turn.specs.declared.view.Entry.{Entry as Seen}
use Rattle.osc_turn.specs.declared.view.View.{View}
use Rattle.osc_turn.specs.History.{texts, own}
use Rattle.osc_turn.specs.Rule.{number_of}
use Rattle.osc_turn.specs.Passes.{view, IsPassOf, opened_with}

-- the history that is seen
abbrev pub history_of : View → List Entry
history_of view = history_in (texts view.seen)

-- a server with these limits that has played the entries of texts
abbrev pub performance_in : Limits → List (List ℕ) → Performance
performance_in caps texts = record { caps = caps; history = history_in texts }

-- where the clock of such a server stands
abbrev pub clock_in : Limits → List (List ℕ) → ℕ
clock_in caps texts = (state_of (performance_in caps texts)).clock

-- whether an entry is of the caller with the number
abbrev pub names : ℕ → Seen → Bool
names number one = option_map_or (λ entry. entry.caller == number) (entry_in one.text) false

-- how many of a token's own entries were there when the turn was opened: they are the first pass's
abbrev pub old_own : View → ℕ
old_own view = if number_of view == 0 then view.opened_at else 0

-- a token's own entries since the turn was opened
abbrev pub own_since : View → List Seen
own_since view = drop (old_own view) (own (number_of view) view.seen)

-- whether all of them are of the caller with the number
abbrev pub names_own : ℕ → View → Bool
names_own number view = list_all (names number) (own_since view)

-- the texts of the entries that the server had when its turn was opened
abbrev pub past_of : {M : Type 0} {G : Ghosts M} → Turn (Core M G) → List (List ℕ)
past_of {G = G} turn =
    texts_of (told G.keep G.heard (opened_with turn).boxes.items)
    (opened_with turn).performance.history

-- the pass is one of this turn's, whose value is a server with these limits
abbrev pub IsTokenOf : {S : Type 0} → Turn S → Limits → Pass → Type 0
IsTokenOf turn caps pass = IsPassOf turn pass × ((view pass).kind ≡ header_text caps)
