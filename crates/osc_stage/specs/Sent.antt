-- What relays have sent of a history.
use Rattle.std.specs.Prelude.{◌≡◌, ℕ, ◌==◌, List, map, filter, Option}
use Rattle.std.specs.Option.{option_map}
use Rattle.osc_model.specs.Events.{Invocation}
use Rattle.osc_relay.specs.Relayed.{relayed}
use Rattle.osc_relay.specs.Sent.{Relays}

-- the messages with which the method of an id was called, in order
abbrev pub messages_to : List Invocation → ℕ → List (List ℕ)
messages_to invocations id =
    map (λ invocation. invocation.call.message)
    (filter (λ invocation. invocation.call.id == id) invocations)

-- Each message with which the method of an id was called was sent once, in order, with an address
-- in place of its pattern, or was lost and counted. Where none was lost, all of them were sent, and
-- nothing else.
pub record HasSent (invocations : List Invocation) (id : ℕ) (address : List ℕ) (room : ℕ)
    (sent : Option (List (List ℕ))) (losses : ℕ) : Type 0 where
  pub relays : ∥ Relays address room (messages_to invocations id) sent losses ∥₁
  pub all : losses ≡ 0
      → sent ≡ option_map (λ _. map (relayed address) (messages_to invocations id)) sent
