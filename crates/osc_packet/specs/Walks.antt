-- Inside the crate: the bundles that are open where a packet is gone through from front to back.
use Rattle.std.specs.Prelude.{◌≡◌, ℕ, zero, suc, ◌-◌, ◌<◌, ◌≤◌, IsTrue, List, [], ◌++◌, length}
use Rattle.std.specs.Prelude.{slice_index_or, Some, None}
use Rattle.osc_packet.specs.declared.walk.OpenBundle.{OpenBundle}
use Rattle.osc_packet.specs.declared.walk.Found.{Found}
use Rattle.osc_packet.specs.Packets.{deepest}
use Rattle.osc_packet.specs.Units.{TimedUnit}
use Rattle.osc_packet.specs.Wants.{part}
use Rattle.osc_packet.specs.Reading.{is_bundle, element_fault, body_fault, bundle_read}
use Rattle.osc_packet.specs.Reading.{enclosed_read}

-- the open bundle with so many around it
abbrev pub bundle_at : List OpenBundle → ℕ → OpenBundle
bundle_at bundles depth = slice_index_or bundles depth (record { end = 0; tag = 0 })

-- the units of the bundles that stand from a place on, so many bundles being open there: those in
-- the innermost one, then those that follow it in the ones around it
abbrev pub units_from : List ℕ → List OpenBundle → ℕ → ℕ → List TimedUnit
units_from bytes bundles zero place = []
units_from bytes bundles (suc depth) place =
    enclosed_read (deepest - suc depth) (bundle_at bundles depth).tag
    (part bytes place (bundle_at bundles depth).end)
    ++ units_from bytes bundles depth (bundle_at bundles depth).end

-- what stands from a place on in each open bundle is read without a fault
abbrev pub IsWalk : List ℕ → List OpenBundle → ℕ → ℕ → Type 0
IsWalk bytes bundles zero place = Unit {0}
IsWalk bytes bundles (suc depth) place =
    (place ≤ (bundle_at bundles depth).end) × ((bundle_at bundles depth).end ≤ length bytes)
    × (body_fault (element_fault (deepest - suc depth) (Some (bundle_at bundles depth).tag)) place
    (part bytes place (bundle_at bundles depth).end) ≡ None)
    × IsWalk bytes bundles depth (bundle_at bundles depth).end

-- the next bundle from a place on, where so many bundles are open
pub record IsNext (bytes : List ℕ) (bundles : List OpenBundle) (depth place : ℕ)
    (found : Found) : Type 0 where
  pub around : 0 < found.depth
  pub shallow : found.depth ≤ depth
  pub some : found.place < found.end
  pub inside : found.end ≤ length bytes
  pub bundle : IsTrue (is_bundle (part bytes found.place found.end))
  pub silent : element_fault (deepest - found.depth)
      (Some (bundle_at bundles (found.depth - 1)).tag) found.place
      (part bytes found.place found.end) ≡ None
  pub units : units_from bytes bundles depth place
      ≡ bundle_read (deepest - found.depth) (Some (bundle_at bundles (found.depth - 1)).tag)
      (part bytes found.place found.end) ++ units_from bytes bundles found.depth found.end
  pub rest : IsWalk bytes bundles found.depth found.end
