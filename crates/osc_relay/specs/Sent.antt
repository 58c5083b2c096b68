-- What one outlet of a relay has sent of the relay's calls.
use Rattle.std.specs.Prelude.{◌≡◌, ℕ, ◌-◌, ◌<◌, ◌^◌, Bool, true, false, min, List, [], ◌∷◌}
use Rattle.std.specs.Prelude.{length, map, count_by, Option, Some, None}
use Rattle.std.specs.List.{flat_map, AllByRecursion}
use Rattle.std.specs.Option.{option_map}
use Rattle.osc_method.specs.Calls.{call_text}
use Rattle.osc_method.specs.Heard.{last_of}
use Rattle.osc_relay.specs.declared.outlet.Sending.{Sending}
use Rattle.osc_relay.specs.declared.outlet.Sending.TheVariants.{Sent, Failed}
use Rattle.osc_relay.specs.Relayed.{relayed, within}

-- a call: the unit's number, the message's index, and the message
pub record Called : Type 0 where
  pub unit : ℕ
  pub index : ℕ
  pub message : List ℕ

-- the message's length is told in 32 bits
abbrev pub IsShort : Called → Type 0
IsShort call = length call.message < 2 ^ 32

-- the bytes that a method hears of a call
abbrev pub called_text : Called → List ℕ
called_text call = call_text call.unit call.index call.message

-- the bytes of calls, one after another
abbrev pub calls_text : List Called → List ℕ
calls_text calls = flat_map called_text calls

-- the messages of calls
abbrev pub messages_of : List Called → List (List ℕ)
messages_of calls = map (λ call. call.message) calls

-- a message that a relay was called with, and what happened to it
pub record Relaying : Type 0 where
  pub message : List ℕ
  pub sending : Sending

abbrev pub if_sent : Sending → List ℕ → List (List ℕ)
if_sent Sent datagram = datagram ∷ []
if_sent Failed datagram = []

abbrev pub is_failed : Sending → Bool
is_failed Sent = false
is_failed Failed = true

-- the datagrams that were sent of messages to an address, in order
abbrev pub datagrams_of : List ℕ → List Relaying → List (List ℕ)
datagrams_of address relayings =
    flat_map (λ one. if_sent one.sending (relayed address one.message)) relayings

-- how many messages were lost, by a counter of 64 bits that stands still at its last value
abbrev pub losses_of : List Relaying → ℕ
losses_of relayings = min (count_by (λ one. is_failed one.sending) relayings) (2 ^ 64 - 1)

-- what has no room isn't sent
abbrev pub KeepsRoom : List ℕ → ℕ → Relaying → Type 0
KeepsRoom address room one =
    within room (relayed address one.message) ≡ None → one.sending ≡ Failed

-- Each message was sent once, in order, to the relay's address, or was lost and counted. The
-- datagrams are said where the outlet tells.
pub record Relays (address : List ℕ) (room : ℕ) (messages : List (List ℕ))
    (sent : Option (List (List ℕ))) (losses : ℕ) : Type 0 where
  pub relayings : List Relaying
  pub each : map (λ one. one.message) relayings ≡ messages
  pub fits : AllByRecursion (KeepsRoom address room) relayings
  pub datagrams : sent ≡ option_map (λ _. datagrams_of address relayings) sent
  pub lost : losses ≡ losses_of relayings

-- The same of calls of which a relay tells the last bytes, at most so many.
pub record HasRelayed (address : List ℕ) (room keep : ℕ) (heard : Option (List ℕ))
    (sent : Option (List (List ℕ))) (losses : ℕ) : Type 0 where
  pub calls : List Called
  pub short : AllByRecursion IsShort calls
  pub bytes : heard ≡ Some (last_of keep (calls_text calls))
  pub relays : Relays address room (messages_of calls) sent losses
