-- What the words of the command line say to `oscd`'s top calls.
use Rattle.osc_model.specs.Limits.{Limits}
use Rattle.osc_script.specs.declared.mode.Mode.{Mode}
use Rattle.osc_script.specs.declared.mode.Mode.TheVariants.{Lanes, Serve}
use Rattle.std.specs.Prelude.{ℕ, ◌+◌, ◌||◌, List, [], ◌∷◌, map, if◌then◌else◌, Option, Some, None}
use Rattle.std.specs.Prelude.{codes}
use Rattle.std.specs.List.{range_with_len}
use Rattle.std.specs.Option.{option_map_or}
use Rattle.std.specs.Str.{bytes_eq}
use Rattle.osc_words.specs.Commands as said
use Rattle.osc_words.specs.Names.{last_two}
use Rattle.osc_words.specs.declared.command.Capacities.{Capacities}
use Rattle.osc_words.specs.declared.command.LiveCommand.{LiveCommand}
use Rattle.osc_words.specs.declared.command.LiveCommand.TheVariants as live
use Rattle.osc_ends.specs.Limits.{limits_for}
use Rattle.osc_top.specs.declared.caps.TheConstants.{LIVE_CALLERS}

-- the last word, if there is one
abbrev pub last_of : List (List ℕ) → Option (List ℕ)
last_of [] = None
last_of (word ∷ []) = Some word
last_of (word ∷ next ∷ words) = last_of (next ∷ words)

-- the mode of the script that a command of many threads reads
abbrev pub mode_of : LiveCommand → Mode
mode_of (live.Lanes caps watch) = Lanes
mode_of (live.Serve transport port links count idle caps) = Serve

-- the capacities of the server on which a command of many threads plays
abbrev pub capacities_of : LiveCommand → Capacities
capacities_of (live.Lanes caps watch) = caps
capacities_of (live.Serve transport port links count idle caps) = caps

-- the limits of a server of lanes
abbrev pub live_limits : Capacities → Limits
live_limits caps = limits_for LIVE_CALLERS caps

-- the ports of a `serve`, one for each link, ascending by one
abbrev pub ports_in : LiveCommand → List ℕ
ports_in (live.Lanes caps watch) = []
ports_in (live.Serve transport port links count idle caps) =
    map (λ link. port + link) (range_with_len 0 links)

-- the ports of the links that the words say to serve; none where they say no `serve`
abbrev pub ports_of : List (List ℕ) → List ℕ
ports_of words = option_map_or ports_in (said.live_command_of words) []

-- the last of two words or more, of which the first is `lanes` or `serve`
abbrev pub name_in : List (List ℕ) → Option (List ℕ)
name_in [] = None
name_in (word ∷ words) =
    if bytes_eq word (codes "lanes") || bytes_eq word (codes "serve") then last_of words else None

-- the last two of three words or more, of which the first is `resume`
abbrev pub names_in : List (List ℕ) → Option (List ℕ × List ℕ)
names_in [] = None
names_in (word ∷ words) = if bytes_eq word (codes "resume") then last_two words else None
