-- What a light is set to, and what its server plays of a link.
use Rattle.std.specs.Prelude.{◌≡◌, ℕ, List, [], ◌∷◌, ◌++◌, map, take, replicate, if◌then◌else◌}
use Rattle.std.specs.Prelude.{Option, Some, None, option_map}
use Rattle.std.specs.List.{flat_map, fold}
use Rattle.osc_atoms.specs.declared.limits.TheConstants.{MAX_PACKET}
use Rattle.osc_edge.specs.declared.link.Datagram.{Datagram}
use Rattle.osc_edge.specs.declared.link.Datagram.TheVariants.{Got, Quiet, End, Failed}
use Rattle.osc_message.specs.Messages.{Argument, float}
use Rattle.osc_packet.specs.Reading.{is_packet}
use Rattle.osc_model.specs.Events.{Event, submit, tick, release}
use Rattle.osc_model.specs.History.{Performance}
use Rattle.osc_uses.specs.declared.light.TheConstants.{RELEASES}
use Rattle.osc_uses.specs.Played.{played}

-- the level after an argument: a float sets it
abbrev pub set_by : ℕ → Argument → ℕ
set_by level (float bits) = bits
set_by level _ = level

-- the last float of the arguments, or else the level before
abbrev pub level_after : List Argument → ℕ → ℕ
level_after arguments level = fold set_by level arguments

-- the turn that a link has given: a datagram's bytes or, for a quiet, none
abbrev pub turn_of : Datagram → List ℕ → List (Option (List ℕ))
turn_of (Got count) space = Some (take count space) ∷ []
turn_of Quiet space = None ∷ []
turn_of End space = []
turn_of Failed space = []

-- the datagrams among turns that are packets
abbrev pub packets_in : List (Option (List ℕ)) → List (List ℕ)
packets_in [] = []
packets_in (None ∷ turns) = packets_in turns
packets_in (Some datagram ∷ turns) = if is_packet MAX_PACKET datagram
    then datagram ∷ packets_in turns else packets_in turns

-- a tick, where the clock was read
abbrev pub tick_at : Option ℕ → List Event
tick_at None = []
tick_at (Some moment) = tick moment ∷ []

-- what a round hands in, after which nothing is due, unless there were more units than it releases
pub record Round : Type 0 where
  pub packets : List (List ℕ)
  pub moment : Option ℕ

-- so many releases; one that finds nothing due does nothing
unfoldable pub releases : ℕ → List Event
releases count = replicate count release

-- the events of a round: the packets, a tick perhaps, and the releases
abbrev pub round_events : Round → List Event
round_events round =
    map submit round.packets ++ (tick_at round.moment ++ releases RELEASES)

-- caller 0 sets the clock, or does nothing
abbrev pub SetsClock : Performance → Performance → Type 0
SetsClock before after = (moment : Option ℕ) × (after ≡ played before (tick_at moment))

-- caller 0 plays a round of these packets
abbrev pub PlaysRound : List (List ℕ) → Performance → Performance → Type 0
PlaysRound packets before after = (moment : Option ℕ)
    × (after ≡ played before (round_events (record { packets = packets; moment = moment })))

-- Caller 0 alone plays, in rounds. It submits the packets among the turns that the link gave, in
-- order and nothing else: what is no packet does nothing. These turns went of the link's, where it
-- tells what it has left.
pub record ServesLight (left_before left_after : Option (List (Option (List ℕ))))
    (before after : Performance) : Type 0 where
  pub turns : List (Option (List ℕ))
  pub rounds : List Round
  pub taken : left_before ≡ option_map (λ left. turns ++ left) left_after
  pub plays : after ≡ played before (flat_map round_events rounds)
  pub packets : flat_map (λ round. round.packets) rounds ≡ packets_in turns
