-- Packets, written: what a packet is, and its bytes.
use Rattle.std.specs.Prelude.{◌≡◌, ℕ, suc, ◌<◌, ◌≤◌, ◌^◌, ◌⊎◌, ◌==◌, max, List, [], ◌++◌, length}
use Rattle.std.specs.Prelude.{codes, if◌then◌else◌, Option, Some, None}
use Rattle.osc_atoms.specs.Atoms.{word, tag, string}
use Rattle.osc_message.specs.Messages.{Form, message_text, IsLawful}

-- A packet is a message, or a bundle of a tag and elements, each of them a packet.
mutual
  pub data Packet : Type 0 where
    message : Form → Packet
    bundle : ℕ → Elements → Packet

  pub data Elements : Type 0 where
    none : Elements
    more : Packet → Elements → Elements

-- the eight bytes that a bundle begins with
abbrev pub bundle_word : List ℕ
bundle_word = string (codes "#bundle")

-- how many bytes a bundle begins with: the bundle word and its tag
abbrev pub bundle_head : ℕ
bundle_head = 16

-- A bundle's text is the bundle word, its tag, and each element's text after its size.
abbrev mutual
  pub packet_text : Packet → List ℕ
  packet_text (message form) = message_text form
  packet_text (bundle own elements) = bundle_word ++ (tag own ++ elements_text elements)

  pub elements_text : Elements → List ℕ
  elements_text none = []
  elements_text (more packet elements) =
      word (length (packet_text packet)) ++ (packet_text packet ++ elements_text elements)

-- how many bundles are open at the deepest place of a packet
abbrev mutual
  pub depth : Packet → ℕ
  depth (message form) = 0
  depth (bundle own elements) = suc (elements_depth elements)

  pub elements_depth : Elements → ℕ
  elements_depth none = 0
  elements_depth (more packet elements) = max (depth packet) (elements_depth elements)

-- The effective tag of a bundle with this own tag, by that of the enclosing bundle, if there is
-- one: an enclosed bundle with tag 1, "immediately", has its encloser's, and every other bundle has
-- its own.
abbrev pub effective_tag : Option ℕ → ℕ → ℕ
effective_tag None own = own
effective_tag (Some outer) own = if own == 1 then outer else own

-- an enclosed bundle's tag is 1, or not before its encloser's effective tag
abbrev pub IsInTime : Option ℕ → ℕ → Type 0
IsInTime None own = Unit {0}
IsInTime (Some outer) own = (own ≡ 1) ⊎ (outer ≤ own)

-- each message is lawful, each tag has 64 bits, and each enclosed tag is in time
abbrev mutual
  pub IsLawfulIn : Option ℕ → Packet → Type 0
  IsLawfulIn outer (message form) = IsLawful form
  IsLawfulIn outer (bundle own elements) =
      (own < 2 ^ 64) × IsInTime outer own × AreLawfulIn (effective_tag outer own) elements

  pub AreLawfulIn : ℕ → Elements → Type 0
  AreLawfulIn outer none = Unit {0}
  AreLawfulIn outer (more packet elements) =
      IsLawfulIn (Some outer) packet × AreLawfulIn outer elements

-- how deep bundles may be nested
abbrev pub deepest : ℕ
deepest = 16

-- a packet that may be sent where at most so many bytes are taken
pub record IsValid (most : ℕ) (packet : Packet) : Type 0 where
  pub short : length (packet_text packet) ≤ most
  pub shallow : depth packet ≤ deepest
  pub lawful : IsLawfulIn None packet

-- the bytes are a valid packet's text
pub record IsPacket (most : ℕ) (bytes : List ℕ) : Type 0 where
  pub packet : Packet
  pub valid : IsValid most packet
  pub spelled : bytes ≡ packet_text packet
