-- Packets, read: the first fault, the elements and the units that stand in given bytes. `laws` ties
-- them to what is written.
use Rattle.std.specs.Prelude.{ℕ, zero, suc, ◌+◌, ◌-◌, ◌%◌, Bool, false, not, ◌&&◌, ◌==◌, nat_le}
use Rattle.std.specs.Prelude.{nat_lt, if◌then◌else◌, List, [], ◌∷◌, length, take, drop, filter}
use Rattle.std.specs.Prelude.{slice_index, Option, Some, None, option_map, is_none, Result, Ok, Err}
use Rattle.std.specs.Option.{option_or}
use Rattle.std.specs.List.{flat_map, starts_with}
use Rattle.std.specs.Int.{w32, w64, from_be_bytes}
use Rattle.osc_atoms.specs.declared.fault.Fault.{Fault}
use Rattle.osc_message.specs.Reading.{message_fault}
use Rattle.osc_packet.specs.Packets.{bundle_word, bundle_head, effective_tag, deepest}
use Rattle.osc_packet.specs.Units.{TimedUnit}
use Rattle.osc_atoms.specs.Faults.{empty, not_four, too_long, start}
use Rattle.osc_packet.specs.Faults.{no_bundle_word, no_bundle_head, element_size, too_deep}
use Rattle.osc_packet.specs.Faults.{tag_before, moved}

-- the size that the bytes begin with
abbrev pub first_size : List ℕ → ℕ
first_size bytes = from_be_bytes w32 (take 4 bytes)

-- a size is a positive multiple of 4, and at most what is left after it
abbrev pub begins_with_size : List ℕ → Bool
begins_with_size bytes =
    nat_le 4 (first_size bytes) && first_size bytes % 4 == 0
    && nat_le (first_size bytes) (length bytes - 4)

-- the size of the first element at a place
abbrev pub size_read : ℕ → List ℕ → Result ℕ Fault
size_read at bytes = if begins_with_size bytes then Ok (first_size bytes) else Err (element_size at)

-- the element after the size that the bytes begin with
abbrev pub first_element : List ℕ → List ℕ
first_element bytes = take (first_size bytes) (drop 4 bytes)

-- what follows that element
abbrev pub after_first : List ℕ → List ℕ
after_first bytes = drop (first_size bytes) (drop 4 bytes)

-- an element that begins with `#` is a bundle
abbrev pub is_bundle : List ℕ → Bool
is_bundle bytes = slice_index bytes 0 == 35

-- a bundle's tag
abbrev pub bundle_tag : List ℕ → ℕ
bundle_tag bytes = from_be_bytes w64 (take 8 (drop 8 bytes))

-- the tag isn't 1 and is before the effective tag of the enclosing bundle
abbrev pub is_early : Option ℕ → ℕ → Bool
is_early None own = false
is_early (Some outer) own = not (own == 1) && nat_lt own outer

-- A bundle's effective tag, or what is wrong with its head at a place. So many bundles may
-- still be opened; the effective tag of the enclosing bundle is given, if there is one.
abbrev pub head_read : ℕ → Option ℕ → ℕ → List ℕ → Result ℕ Fault
head_read left outer at bytes =
    if not (starts_with ◌==◌ bytes bundle_word) then Err (no_bundle_word at) else
    if nat_lt (length bytes) bundle_head then Err (no_bundle_head (at + 8)) else
    if left == 0 then Err (too_deep at) else
    if is_early outer (bundle_tag bytes) then Err (tag_before (at + 8)) else
    Ok (effective_tag outer (bundle_tag bytes))

-- the first fault of a message at a place
abbrev pub message_fault_at : ℕ → List ℕ → Option Fault
message_fault_at at bytes = option_map (moved at) (message_fault (length bytes) bytes)

-- the first fault of the elements that stand one after another, by that of one element at its place
unfoldable pub elements_fault : (ℕ → List ℕ → Option Fault) → ℕ → ℕ → List ℕ → Option Fault
elements_fault fault_of zero at bytes = None
elements_fault fault_of (suc fuel) at bytes =
    if length bytes == 0 then None else
    if begins_with_size bytes
    then option_or (fault_of (at + 4) (first_element bytes))
    (elements_fault fault_of fuel (at + 4 + first_size bytes) (after_first bytes)) else
    Some (element_size at)

-- the first fault of the elements that fill the bytes
abbrev pub body_fault : (ℕ → List ℕ → Option Fault) → ℕ → List ℕ → Option Fault
body_fault fault_of at bytes = elements_fault fault_of (length bytes) at bytes

-- the fault of the head, or else what is read with the effective tag
abbrev pub fault_or : Result ℕ Fault → (ℕ → Option Fault) → Option Fault
fault_or (Err fault) inner = Some fault
fault_or (Ok effective) inner = inner effective

-- the first fault of an element, by that of the elements in a bundle with an effective tag
abbrev pub fault_with : (ℕ → Option Fault) → ℕ → Option ℕ → ℕ → List ℕ → Option Fault
fault_with inner left outer at bytes =
    if slice_index bytes 0 == 47 then message_fault_at at bytes else
    if is_bundle bytes then fault_or (head_read left outer at bytes) inner else
    Some (start at)

-- the first fault of an element at a place, where so many bundles may still be opened
unfoldable pub element_fault : ℕ → Option ℕ → ℕ → List ℕ → Option Fault
element_fault zero outer at bytes = fault_with (λ effective. None) 0 outer at bytes
element_fault (suc left) outer at bytes =
    fault_with (λ effective. body_fault (element_fault left (Some effective)) (at + bundle_head)
    (drop bundle_head bytes)) (suc left) outer at bytes

-- the first fault of a packet of at most so many bytes
abbrev pub packet_fault : ℕ → List ℕ → Option Fault
packet_fault most bytes =
    if length bytes == 0 then Some empty else
    if nat_lt most (length bytes) then Some (too_long most) else
    if length bytes % 4 == 0 then element_fault deepest None 0 bytes else
    Some (not_four (length bytes))

-- the bytes are a packet of at most so many bytes
abbrev pub is_packet : ℕ → List ℕ → Bool
is_packet most bytes = is_none (packet_fault most bytes)

-- the elements that stand one after another, each without its size
unfoldable pub elements_of : ℕ → List ℕ → List (List ℕ)
elements_of zero bytes = []
elements_of (suc fuel) bytes = if length bytes == 0 then []
    else first_element bytes ∷ elements_of fuel (after_first bytes)

-- the elements that fill the bytes
abbrev pub elements_in : List ℕ → List (List ℕ)
elements_in bytes = elements_of (length bytes) bytes

-- the messages among the elements that fill the bytes
abbrev pub messages_in : List ℕ → List (List ℕ)
messages_in bytes = filter (λ element. not (is_bundle element)) (elements_in bytes)

-- the units of a bundle: its own, and those of the bundles among its elements
unfoldable pub bundle_read : ℕ → Option ℕ → List ℕ → List TimedUnit
bundle_read zero outer bytes = []
bundle_read (suc left) outer bytes =
    let effective = effective_tag outer (bundle_tag bytes) in
    record { tag = effective; messages = messages_in (drop bundle_head bytes) }
    ∷ flat_map (bundle_read left (Some effective))
    (filter is_bundle (elements_in (drop bundle_head bytes)))

-- the units of the bundles among the elements that fill the bytes
abbrev pub enclosed_read : ℕ → ℕ → List ℕ → List TimedUnit
enclosed_read left effective bytes =
    flat_map (bundle_read left (Some effective)) (filter is_bundle (elements_in bytes))

-- the units of a packet
abbrev pub units_read : List ℕ → List TimedUnit
units_read bytes = if is_bundle bytes then bundle_read deepest None bytes
    else record { tag = 1; messages = bytes ∷ [] } ∷ []
