-- What a relay is.
use Rattle.std.specs.Prelude.{ℕ, List, length, Option}
use Rattle.osc_relay.specs.declared.outlet.Outlet.{Ghosts}
use Rattle.osc_relay.specs.declared.relay.Relay.{Relay}
use Rattle.osc_relay.specs.Relayed.{relayed, within}

module _ {O : Type 0} {G : Ghosts O} where
  -- the bytes that a datagram of a relay may have
  abbrev pub room_of : Relay O G → ℕ
  room_of relay = length relay.space.items

  -- the datagram that a relay sends for a message, where it has room
  abbrev pub datagram_of : Relay O G → List ℕ → Option (List ℕ)
  datagram_of relay message = within (room_of relay) (relayed relay.address message)
