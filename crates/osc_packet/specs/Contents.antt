-- What a unit holds.
use Rattle.osc_atoms.specs.declared.limits.TheConstants.{MAX_PACKET}
use Rattle.std.specs.Prelude.{◌≡◌, ℕ, ◌≤◌, if◌then◌else◌, List, [], ◌∷◌, length, Option, None}
use Rattle.osc_atoms.specs.declared.fault.Fault.{Fault}
use Rattle.osc_packet.specs.declared.content.Content.{Content}
use Rattle.osc_packet.specs.declared.content.Content.TheVariants.{Alone, Among}
use Rattle.osc_packet.specs.Reading.{is_bundle, message_fault_at, body_fault, messages_in}

-- the messages: one alone, or those among the elements of a bundle
abbrev pub messages_of : Content → List (List ℕ)
messages_of (Alone message) = message.now ∷ []
messages_of (Among elements) = messages_in elements.now

-- what is wrong with an element that is no bundle
abbrev pub own_fault : ℕ → List ℕ → Option Fault
own_fault at bytes = if is_bundle bytes then None else message_fault_at at bytes

-- the message is one; the elements have lawful sizes, and each that is no bundle is a message
abbrev pub IsSound : Content → Type 0
IsSound (Alone message) = (message_fault_at 0 message.now ≡ None)
    × (length message.now ≤ MAX_PACKET)
IsSound (Among elements) = (body_fault own_fault 0 elements.now ≡ None)
    × (length elements.now ≤ MAX_PACKET)

-- a first message, and what is left
pub record Splits (content : Content) (message : List ℕ) (rest : Content) : Type 0 where
  pub parts : messages_of content ≡ message ∷ messages_of rest
  pub lawful : message_fault_at 0 message ≡ None
  pub small : length message ≤ MAX_PACKET
  pub sound : IsSound rest

-- the first message among elements, and the elements after it
pub record SplitsElements (elements message rest : List ℕ) : Type 0 where
  pub parts : messages_in elements ≡ message ∷ messages_in rest
  pub lawful : message_fault_at 0 message ≡ None
  pub small : length message ≤ length elements
  pub sound : body_fault own_fault 0 rest ≡ None
  pub shorter : length rest ≤ length elements
