-- Scores: which messages are played, and when.
use Rattle.osc_atoms.specs.declared.limits.TheConstants.{MAX_PACKET}
use Rattle.osc_score.specs.declared.limits.TheConstants.{MAX_ADDRESSES, MAX_NODES}
use Rattle.std.specs.Prelude.{ℕ, ◌+◌, ◌*◌, ◌^◌, ◌<◌, ◌≤◌, ◌==◌, if◌then◌else◌, List, [], ◌∷◌, ◌++◌}
use Rattle.std.specs.Prelude.{length, map}
use Rattle.std.specs.List.{AllByRecursion, list_any}
use Rattle.std.specs.Str.{bytes_eq}
use Rattle.hex.specs.Hex.{IsBytes}
use Rattle.osc_message.specs.Tags.{Balanced}
use Rattle.osc_message.specs.Messages.{Argument, integer, float, text, content, long, time, double}
use Rattle.osc_message.specs.Messages.{symbol, character, rgba, midi, true_, false_, nil, infinitum}
use Rattle.osc_message.specs.Messages.{array_start, array_end, tag_of, AllFit, Form, known}
use Rattle.osc_packet.specs.Packets.{Packet, Elements, message, bundle, none, more, packet_text}
use Rattle.osc_pattern.specs.Addresses.{IsAddress}
use Rattle.osc_pattern.specs.Methods.{Method}
use Rattle.osc_tree.specs.Registry.{Registry, IsLawful}

-- what a line says: a moment, and what is played then
pub record Note : Type 0 where
  pub tag : ℕ
  pub address : List ℕ
  pub arguments : List Argument

-- the message of a note, its address as pattern, always with a tag string
abbrev pub message_of : Note → Form
message_of note = known note.address note.arguments

-- a run of notes with one tag
pub record Group : Type 0 where
  pub tag : ℕ
  pub notes : List Note

-- a note alone
abbrev pub alone : Note → Group
alone note = record { tag = note.tag; notes = note ∷ [] }

-- a note before runs joins the first of them, if that has its tag
abbrev pub joined : Note → List Group → List Group
joined note [] = alone note ∷ []
joined note (group ∷ groups) =
    if note.tag == group.tag
    then record { tag = group.tag; notes = note ∷ group.notes } ∷ groups
    else alone note ∷ group ∷ groups

-- the longest runs of notes with one tag
abbrev pub groups_of : List Note → List Group
groups_of [] = []
groups_of (note ∷ notes) = joined note (groups_of notes)

-- an element for each note
abbrev pub elements_of : List Note → Elements
elements_of [] = none
elements_of (note ∷ notes) = more (message (message_of note)) (elements_of notes)

-- the bundle of a run
abbrev pub bundle_of : Group → Packet
bundle_of group = bundle group.tag (elements_of group.notes)

-- its bytes
abbrev pub bundle_text : Group → List ℕ
bundle_text group = packet_text (bundle_of group)

-- the addresses that aren't among those before them, in the order of their first use
abbrev pub first_uses : List (List ℕ) → List Note → List (List ℕ)
first_uses before [] = []
first_uses before (note ∷ notes) =
    if list_any (bytes_eq note.address) before then first_uses before notes
    else note.address ∷ first_uses (before ++ note.address ∷ []) notes

-- the distinct addresses, in the order of their first use
abbrev pub addresses_of : List Note → List (List ℕ)
addresses_of notes = first_uses [] notes

-- methods at the addresses, with ids from a number on
abbrev pub methods_from : ℕ → List (List ℕ) → List Method
methods_from id [] = []
methods_from id (address ∷ addresses) =
    record { id = id; address = address } ∷ methods_from (id + 1) addresses

-- a tree of the distinct addresses, with the most methods and nodes that there may be
abbrev pub tree_of : List Note → Registry
tree_of notes =
    record {
      methods = methods_from 0 (addresses_of notes);
      method_limit = MAX_ADDRESSES;
      node_limit = MAX_NODES;
    }

-- texts and blobs are of bytes
abbrev pub IsOfBytes : Argument → Type 0
IsOfBytes (text bytes) = IsBytes bytes
IsOfBytes (content bytes) = IsBytes bytes
IsOfBytes (symbol bytes) = IsBytes bytes
IsOfBytes _ = Unit {0}

-- the tag has 64 bits, the address is lawful, each argument fits its atom, and the array brackets
-- balance
pub record IsNote (note : Note) : Type 0 where
  pub fits : note.tag < 2 ^ 64
  pub address : IsAddress note.address
  pub arguments : AllFit note.arguments
  pub bytes : AllByRecursion IsOfBytes note.arguments
  pub balanced : Balanced (map tag_of note.arguments)

-- no tag is below this one, nor below the tag of the note before
abbrev pub IsOrdered : ℕ → List Note → Type 0
IsOrdered least [] = Unit {0}
IsOrdered least (note ∷ notes) = (least ≤ note.tag) × IsOrdered note.tag notes

-- the bundle of a run is a packet that may be sent
abbrev pub IsShort : Group → Type 0
IsShort group = length (bundle_text group) ≤ MAX_PACKET

-- A score: each note is lawful; no tag is 0 or 1, or below the one before; no bundle is too long;
-- and the distinct addresses, of which none is a proper prefix of another, are no more than may be.
pub record IsScore (notes : List Note) : Type 0 where
  pub lawful : AllByRecursion IsNote notes
  pub ordered : IsOrdered 2 notes
  pub short : AllByRecursion IsShort (groups_of notes)
  pub tree : IsLawful (tree_of notes)

-- the fewest bytes of an argument's word
abbrev pub word_size : Argument → ℕ
word_size (integer number) = 3
word_size (float bits) = 10
word_size (text bytes) = 2 + length bytes
word_size (content bytes) = 2 + 2 * length bytes
word_size (long number) = 3
word_size (time number) = 18
word_size (double bits) = 18
word_size (symbol bytes) = 2 + length bytes
word_size (character number) = 10
word_size (rgba number) = 10
word_size (midi number) = 10
word_size true_ = 1
word_size false_ = 1
word_size nil = 1
word_size infinitum = 1
word_size array_start = 1
word_size array_end = 1

-- of the words of arguments, each after a space
abbrev pub words_size : List Argument → ℕ
words_size [] = 0
words_size (argument ∷ arguments) = 1 + word_size argument + words_size arguments

-- the fewest bytes of a note's line: 16 digits, a space, the address, and the words
abbrev pub note_size : Note → ℕ
note_size note = 17 + length note.address + words_size note.arguments

-- of the lines of notes, their ends not counted
abbrev pub score_size : List Note → ℕ
score_size [] = 0
score_size (note ∷ notes) = note_size note + score_size notes
