-- Inside the crate: the first bundle of cues, and the cues after it.
use Rattle.std.specs.Prelude.{◌≡◌, ◌≤◌, List, ◌∷◌, length}
use Rattle.std.specs.List.{AllByRecursion}
use Rattle.osc_cues.specs.declared.cue.Cue.{Cue}
use Rattle.osc_cues.specs.declared.bundle.Bundle.{Bundle}
use Rattle.osc_cues.specs.Bundles.{moments_of, bundles_of, IsSent, FitsPacket, IsSendable}

-- the bundle is the first of these cues, and the rest are the cues after it
pub record IsFirst (first : Cue) (cues : List Cue) (bundle : Bundle) (rest : List Cue)
    : Type 0 where
  pub bundles : bundles_of (first ∷ cues) ≡ bundle ∷ bundles_of rest
  pub messages : AllByRecursion IsSent rest
  pub fits : AllByRecursion FitsPacket (moments_of rest)
  pub packet : IsSendable bundle
  pub few : length rest ≤ length cues
