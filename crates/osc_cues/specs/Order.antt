-- Inside the crate: what holds of the cues so far, where no line is wrong.
use Rattle.osc_atoms.specs.declared.limits.TheConstants.{MAX_PACKET}
use Rattle.osc_cues.specs.declared.limits.TheConstants.{ROOM}
use Rattle.std.specs.Prelude.{◌≡◌, ℕ, ◌+◌, ◌≤◌, ◌==◌, if◌then◌else◌, List, [], ◌∷◌, length, Option}
use Rattle.std.specs.Prelude.{Some, None}
use Rattle.osc_packet.specs.Bundling.{Bundling, with_message, bundled}
use Rattle.osc_cues.specs.declared.cue.Cue.{Cue}
use Rattle.osc_cues.specs.declared.draft.Draft.{Draft}
use Rattle.osc_cues.specs.Moments.{tag_of}
use Rattle.osc_cues.specs.Bundles.{opening, IsSheet}

-- the last moment of cues after this one
abbrev pub last_from : Bundling → List Cue → Bundling
last_from moment [] = moment
last_from moment (cue ∷ cues) =
    if cue.tag == moment.tag then last_from (with_message moment cue.message) cues
    else last_from (opening cue) cues

-- the last moment has this tag, and so many bytes are left for it
abbrev pub Ends : List Cue → ℕ → ℕ → Type 0
Ends [] last room = (last ≡ 0) × (room ≡ ROOM)
Ends (cue ∷ cues) last room = ((last_from (opening cue) cues).tag ≡ last)
    × (length (bundled (last_from (opening cue) cues)) + room ≡ MAX_PACKET)

-- the last cue isn't after the moment of the last line
abbrev pub IsLate : Option ℕ → ℕ → Type 0
IsLate None last = last ≡ 0
IsLate (Some before) last = last ≤ tag_of before

pub record Holds (draft : Draft) : Type 0 where
  pub sheet : IsSheet draft.cues
  pub ends : Ends draft.cues draft.last draft.room
  pub late : IsLate draft.before draft.last

abbrev pub IsSound : Draft → Type 0
IsSound draft = draft.wrong ≡ [] → Holds draft
