-- Bundles of messages in the making.
use Rattle.osc_atoms.specs.declared.limits.TheConstants.{MAX_PACKET}
use Rattle.std.specs.Prelude.{◌≡◌, ℕ, ◌<◌, ◌≤◌, ◌^◌, List, [], ◌∷◌, ◌++◌, length, drop}
use Rattle.std.specs.List.{flat_map, AllByRecursion}
use Rattle.osc_atoms.specs.Atoms.{word, tag}
use Rattle.osc_message.specs.Messages.{Form, IsMessage}
use Rattle.osc_packet.specs.Packets.{Elements, message, none, more, bundle_word, bundle_head}
use Rattle.osc_packet.specs.Reading.{bundle_tag, elements_in}

-- the tag, and the bytes of the messages that were pushed
pub record Bundling : Type 0 where
  pub tag : ℕ
  pub messages : List (List ℕ)

-- with one more message
abbrev pub with_message : Bundling → List ℕ → Bundling
with_message bundling bytes =
    record { tag = bundling.tag; messages = bundling.messages ++ bytes ∷ [] }

-- an element after its size
abbrev pub sized : List ℕ → List ℕ
sized bytes = word (length bytes) ++ bytes

-- the bundle's bytes
abbrev pub bundled : Bundling → List ℕ
bundled bundling = bundle_word ++ (tag bundling.tag ++ flat_map sized bundling.messages)

-- messages as elements
abbrev pub elements_of : List Form → Elements
elements_of [] = none
elements_of (form ∷ forms) = more (message form) (elements_of forms)

-- what a bundle's bytes stand for
abbrev pub bundling_of : List ℕ → Bundling
bundling_of bytes =
    record { tag = bundle_tag bytes; messages = elements_in (drop bundle_head bytes) }

-- the bytes are a message
abbrev pub IsSpelled : List ℕ → Type 0
IsSpelled bytes = IsMessage (length bytes) bytes

-- the bytes are those of a bundle of messages that may be sent
pub record IsBundling (bytes : List ℕ) : Type 0 where
  pub spelled : bytes ≡ bundled (bundling_of bytes)
  pub fits : bundle_tag bytes < 2 ^ 64
  pub messages : AllByRecursion IsSpelled (elements_in (drop bundle_head bytes))
  pub short : length bytes ≤ MAX_PACKET
