-- Where the script that carries a history on leads.
use Rattle.std.specs.Prelude.{◌≡◌, ℕ, List, [], None, Ok}
use Rattle.osc_model.specs.Limits.{Limits}
use Rattle.osc_model.specs.State.{State, opening}
use Rattle.osc_model.specs.Events.{Event, Entry}
use Rattle.osc_model.specs.History.{after}
use Rattle.osc_script.specs.declared.mode.Mode.TheVariants.{Plain}
use Rattle.osc_script.specs.Scripts.{script_of}
use Rattle.osc_player.specs.Plain.{Played, plain}
use Rattle.osc_score_laws.specs.Heard.{NoneIsRefused}
use Rattle.osc_alike.specs.Alike.{HaveRoom, PlaysAlike}
use Rattle.osc_carry.specs.Carried.{carried, renewed}

-- the same limits, but that the recording may have so many bytes
abbrev pub with_room : Limits → ℕ → Limits
with_room caps room = record caps { recording = room }

-- nothing is refused, no packet is at fault, nothing stops the lines, and the new server is where
-- the old one was, up to numbers
pub record IsCarriedOn (caps : Limits) (history : List Entry) (room : ℕ) (played : Played)
    : Type 0 where
  pub accepted : NoneIsRefused played.history
  pub faultless : played.faults ≡ []
  pub goes_on : played.stop ≡ None
  pub state : after (opening (with_room caps room)) played.history
      ≡ renewed room (after (opening caps) history)

-- a new server plays the lines, whose recording may have so many bytes; and where it is then
abbrev pub played_on : Limits → List Entry → ℕ → Played
played_on caps history room = plain (with_room caps room) (carried caps history)

abbrev pub state_on : Limits → List Entry → ℕ → State
state_on caps history room =
    after (opening (with_room caps room)) (played_on caps history room).history

abbrev pub CarriesOn : Limits → List Entry → ℕ → Type 0
CarriesOn caps history room = IsCarriedOn caps history room (played_on caps history room)

-- The script is read as the lines that carry the history on, and by them a new server gets to
-- where the old one was, up to numbers. From there on it invokes what the old one would invoke if
-- its recording had no end, as long as the new recording has room.
pub record LeadsThere (script : List ℕ) (caps : Limits) (history : List Entry) (room : ℕ)
    : Type 0 where
  pub read : script_of Plain script ≡ Ok (carried caps history)
  pub carried_on : CarriesOn caps history room
  pub alike : (events : List Event) → HaveRoom (state_on caps history room) events
      → PlaysAlike (after (opening caps) history) (state_on caps history room) events
