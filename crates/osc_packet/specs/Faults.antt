-- The faults that a packet can have besides those of its messages, each with its number and its
-- place.
use Rattle.std.specs.Prelude.{ℕ, ◌+◌}
use Rattle.osc_atoms.specs.declared.fault.Fault.{Fault}
use Rattle.osc_atoms.specs.declared.fault.TheConstants.Fault.{BUNDLE_WORD, BUNDLE_HEAD}
use Rattle.osc_atoms.specs.declared.fault.TheConstants.Fault.{ELEMENT_SIZE, TOO_DEEP, TAG_BEFORE}

-- an element that begins with `#` and not with the bundle word, at its first byte
abbrev pub no_bundle_word : ℕ → Fault
no_bundle_word at = record { kind = BUNDLE_WORD; at = at }

-- a bundle of fewer than 16 bytes, at the tag
abbrev pub no_bundle_head : ℕ → Fault
no_bundle_head at = record { kind = BUNDLE_HEAD; at = at }

-- a size that is no positive multiple of 4, or more than what is left, at the size
abbrev pub element_size : ℕ → Fault
element_size at = record { kind = ELEMENT_SIZE; at = at }

-- a bundle with too many around it, at its first byte
abbrev pub too_deep : ℕ → Fault
too_deep at = record { kind = TOO_DEEP; at = at }

-- an enclosed bundle's tag that is before its encloser's, at the tag
abbrev pub tag_before : ℕ → Fault
tag_before at = record { kind = TAG_BEFORE; at = at }

-- the fault of a message that stands at a place of a packet
abbrev pub moved : ℕ → Fault → Fault
moved at fault = record { kind = fault.kind; at = at + fault.at }
