-- The bundles of a sheet: what is sent at each moment. And what holds of all sheets.
use Rattle.osc_atoms.specs.declared.limits.TheConstants.{MAX_PACKET}
use Rattle.std.specs.Prelude.{◌≡◌, ℕ, ◌≤◌, ◌==◌, if◌then◌else◌, IsTrue, List, [], ◌∷◌, length, map}
use Rattle.std.specs.List.{AllByRecursion}
use Rattle.osc_message.specs.Messages.{IsMessage}
use Rattle.osc_packet.specs.Bundling.{Bundling, with_message, bundled}
use Rattle.osc_packet.specs.Reading.{is_packet}
use Rattle.osc_cues.specs.declared.cue.Cue.{Cue}
use Rattle.osc_cues.specs.declared.bundle.Bundle.{Bundle}

-- a moment that has one cue
abbrev pub opening : Cue → Bundling
opening cue = record { tag = cue.tag; messages = cue.message ∷ [] }

-- the moments of cues after this moment, which takes those of its tag that come first
abbrev pub moments_from : Bundling → List Cue → List Bundling
moments_from moment [] = moment ∷ []
moments_from moment (cue ∷ cues) =
    if cue.tag == moment.tag then moments_from (with_message moment cue.message) cues
    else moment ∷ moments_from (opening cue) cues

-- the moments of cues: those of one tag, one after another, are one moment
abbrev pub moments_of : List Cue → List Bundling
moments_of [] = []
moments_of (cue ∷ cues) = moments_from (opening cue) cues

-- a moment's packet: the bundle word, its tag, and each message after its size
abbrev pub bundle_of : Bundling → Bundle
bundle_of moment = record { tag = moment.tag; packet = bundled moment }

-- the bundles of cues, one for each moment
abbrev pub bundles_of : List Cue → List Bundle
bundles_of cues = map bundle_of (moments_of cues)

-- no tag is below the one before it, and the first isn't below this
abbrev pub IsOrdered : ℕ → List Cue → Type 0
IsOrdered least [] = Unit {0}
IsOrdered least (cue ∷ cues) = (least ≤ cue.tag) × IsOrdered cue.tag cues

-- a cue's message is a message that fits a packet
abbrev pub IsSent : Cue → Type 0
IsSent cue = IsMessage MAX_PACKET cue.message

-- the cues of a moment fit a packet together
abbrev pub FitsPacket : Bundling → Type 0
FitsPacket moment = length (bundled moment) ≤ MAX_PACKET

-- what holds of the cues of each sheet
pub record IsSheet (cues : List Cue) : Type 0 where
  pub ordered : IsOrdered 0 cues
  pub messages : AllByRecursion IsSent cues
  pub fits : AllByRecursion FitsPacket (moments_of cues)

-- a bundle's bytes are a packet
abbrev pub IsSendable : Bundle → Type 0
IsSendable bundle = IsTrue (is_packet MAX_PACKET bundle.packet)
