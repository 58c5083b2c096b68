-- The checks of a packet in their order, and the first fault.
use Rattle.std.specs.Prelude.{◌≡◌, ◌⊎◌, ℕ, ◌+◌, ◌-◌, ◌%◌, ◌<◌, ◌≤◌, ◌==◌, nat_lt, if◌then◌else◌}
use Rattle.std.specs.Prelude.{List, [], ◌∷◌, length, take, drop, slice_index, Option, Some, None}
use Rattle.std.specs.Int.{w32, w64, from_be_bytes}
use Rattle.osc_atoms.specs.declared.fault.Fault.{Fault}
use Rattle.osc_message.specs.Messages.{IsMessage}
use Rattle.osc_message.specs.Wants.{FirstFault as FirstMessageFault}
use Rattle.osc_packet.specs.Packets.{bundle_word, bundle_head, effective_tag, IsInTime, deepest}
use Rattle.osc_atoms.specs.Faults.{empty, not_four, too_long, start}
use Rattle.osc_packet.specs.Faults.{no_bundle_word, no_bundle_head, element_size, too_deep}
use Rattle.osc_packet.specs.Faults.{tag_before, moved}

-- an open bundle: the place after its last byte, and its effective tag
pub record Frame : Type 0 where
  pub end : ℕ
  pub tag : ℕ

-- a message or a bundle: its place, the place after its last byte, and the bundles around it, the
-- innermost first
pub record Element : Type 0 where
  pub place : ℕ
  pub end : ℕ
  pub around : List Frame

-- One check, with its place and its bounds.
pub data Want : Type 0 where
  -- there is a byte
  some_byte : Want
  -- there are at most so many bytes as are allowed
  within : Want
  -- their number is a multiple of 4
  fourfold : Want
  -- the element begins with a slash or a `#`
  begun : Element → Want
  -- the element is a message
  is_message : Element → Want
  -- the element begins with the bundle word
  named_bundle : Element → Want
  -- the bundle has its head
  headed : Element → Want
  -- the bundle hasn't too many around it
  shallow : Element → Want
  -- the bundle's tag isn't before that of its encloser
  in_time : Element → Want
  -- a size stands at the place, in the innermost of these bundles and those around it
  sized : ℕ → Frame → List Frame → Want

-- the bytes from a place to another
abbrev pub part : List ℕ → ℕ → ℕ → List ℕ
part bytes place end = take (end - place) (drop place bytes)

-- the bytes of an element
abbrev pub bytes_of : List ℕ → Element → List ℕ
bytes_of bytes element = part bytes element.place element.end

-- the word at a place
abbrev pub word_of : List ℕ → ℕ → ℕ
word_of bytes place = from_be_bytes w32 (take 4 (drop place bytes))

-- the tag that a bundle has itself
abbrev pub own_tag : List ℕ → Element → ℕ
own_tag bytes element = from_be_bytes w64 (take 8 (drop (element.place + 8) bytes))

-- the effective tag of the innermost bundle
abbrev pub tag_around : List Frame → Option ℕ
tag_around [] = None
tag_around (frame ∷ around) = Some frame.tag

-- the bundle, open: its effective tag is its own or its encloser's
abbrev pub opened : List ℕ → Element → Frame
opened bytes element =
    record {
      end = element.end;
      tag = effective_tag (tag_around element.around) (own_tag bytes element);
    }

-- A size is a positive multiple of 4, and at most what is left after it.
pub record IsSize (size left : ℕ) : Type 0 where
  pub positive : 4 ≤ size
  pub fourfold : size % 4 ≡ 0
  pub inside : size ≤ left

-- the want stands
abbrev pub Stands : List ℕ → ℕ → Want → Type 0
Stands bytes most some_byte = 0 < length bytes
Stands bytes most within = length bytes ≤ most
Stands bytes most fourfold = length bytes % 4 ≡ 0
Stands bytes most (begun element) = (slice_index bytes element.place ≡ 47)
    ⊎ (slice_index bytes element.place ≡ 35)
Stands bytes most (is_message element) =
    IsMessage (element.end - element.place) (bytes_of bytes element)
Stands bytes most (named_bundle element) = take 8 (bytes_of bytes element) ≡ bundle_word
Stands bytes most (headed element) = element.place + bundle_head ≤ element.end
Stands bytes most (shallow element) = length element.around < deepest
Stands bytes most (in_time element) = IsInTime (tag_around element.around) (own_tag bytes element)
Stands bytes most (sized place frame around) = IsSize (word_of bytes place) (frame.end - place - 4)

-- After a place the innermost bundle that goes on there has its next size. Where none goes on, all
-- is read.
abbrev pub after : ℕ → List Frame → Option Want
after place [] = None
after place (frame ∷ around) = if nat_lt place frame.end then Some (sized place frame around)
    else after place around

-- the element that a size at a place announces
abbrev pub announced : List ℕ → ℕ → Frame → List Frame → Element
announced bytes place frame around =
    record { place = place + 4; end = place + 4 + word_of bytes place; around = frame ∷ around }

-- the want after one that stands
abbrev pub next_of : List ℕ → Want → Option Want
next_of bytes some_byte = Some within
next_of bytes within = Some fourfold
next_of bytes fourfold = Some (begun (record { place = 0; end = length bytes; around = [] }))
next_of bytes (begun element) =
    Some (if slice_index bytes element.place == 35 then named_bundle element
    else is_message element)
next_of bytes (is_message element) = after element.end element.around
next_of bytes (named_bundle element) = Some (headed element)
next_of bytes (headed element) = Some (shallow element)
next_of bytes (shallow element) = Some (in_time element)
next_of bytes (in_time element) =
    after (element.place + bundle_head) (opened bytes element ∷ element.around)
next_of bytes (sized place frame around) = Some (begun (announced bytes place frame around))

-- The fault of a want that doesn't stand. Of a message it is the message's first fault, at its
-- place in the packet.
abbrev pub Names : List ℕ → ℕ → Want → Fault → Type 0
Names bytes most some_byte fault = fault ≡ empty
Names bytes most within fault = fault ≡ too_long most
Names bytes most fourfold fault = fault ≡ not_four (length bytes)
Names bytes most (begun element) fault = fault ≡ start element.place
Names bytes most (is_message element) fault =
    (own : Fault) × FirstMessageFault (bytes_of bytes element) (element.end - element.place) own
    × (fault ≡ moved element.place own)
Names bytes most (named_bundle element) fault = fault ≡ no_bundle_word element.place
Names bytes most (headed element) fault = fault ≡ no_bundle_head (element.place + 8)
Names bytes most (shallow element) fault = fault ≡ too_deep element.place
Names bytes most (in_time element) fault = fault ≡ tag_before (element.place + 8)
Names bytes most (sized place frame around) fault = fault ≡ element_size place

-- the wants that are reached: the first one, and the next one of each that is reached and stands
pub data Reaches (bytes : List ℕ) (most : ℕ) : Want → Type 0 where
  first : Reaches bytes most some_byte
  later : {want next : Want} → Reaches bytes most want → Stands bytes most want
      → next_of bytes want ≡ Some next → Reaches bytes most next

-- the reached want that doesn't stand, and its fault
pub record FirstFault (bytes : List ℕ) (most : ℕ) (fault : Fault) : Type 0 where
  pub want : Want
  pub reached : Reaches bytes most want
  pub fails : Stands bytes most want → ⊥
  pub named : Names bytes most want fault
