-- The checks of a message in their order, and the first fault.
use Rattle.std.specs.Prelude.{◌≡◌, ◌≢◌, ◌⊎◌, ℕ, ◌+◌, ◌%◌, ◌<◌, ◌≤◌, IsTrue, if◌then◌else◌, List, []}
use Rattle.std.specs.Prelude.{◌∷◌, ◌++◌, length, drop}
use Rattle.std.specs.List.{list_any}
use Rattle.osc_atoms.specs.declared.fault.Fault.{Fault}
use Rattle.osc_atoms.specs.Atoms.{string}
use Rattle.osc_atoms.specs.Standing.{StartsWith, StartsWithString, NamesShort, NamesStringFault}
use Rattle.osc_atoms.specs.Standing.{NamesBlobFault}
use Rattle.osc_pattern.specs.Patterns.{IsPattern, IsFault}
use Rattle.osc_message.specs.Tags.{is_word_tag, is_long_tag, is_text_tag, is_blob_tag, is_unknown}
use Rattle.osc_message.specs.Tags.{ClosesOpenOnes, Balanced}
use Rattle.osc_message.specs.Messages.{Argument, tag_of, atom_of, Fits, tag_string}
use Rattle.osc_atoms.specs.Faults.{empty, not_four, too_long, start}
use Rattle.osc_message.specs.Faults.{of_pattern, no_tags, brackets, left_over}

-- One check, with its place and what it is about. A message that stands within other bytes is read
-- from its place to the end of the bytes that are given.
pub data Want : Type 0 where
  -- there is a byte, among at most so many
  some_byte : ℕ → Want
  -- there are at most so many bytes
  within : ℕ → Want
  -- their number is a multiple of 4
  fourfold : Want
  -- a slash stands at the place
  slash : ℕ → Want
  -- a string stands at the place
  pattern : ℕ → Want
  -- this text at the place is an address pattern, and its string ends at the second place
  lawful : ℕ → List ℕ → ℕ → Want
  -- a comma stands at the place, or the message ends there
  comma : ℕ → Want
  -- the tag string stands at the place
  tag_text : ℕ → Want
  -- the array brackets of these tags, which stand from the place on, balance; the arguments begin
  -- at the second place
  brackets_balance : ℕ → List ℕ → ℕ → Want
  -- the argument of the first of these tags stands at the place; after the last tag, the message
  -- ends there
  arguments : List ℕ → ℕ → Want
  -- nothing is wanted any more
  done : Want

-- an argument's atom stands at the place
pub record StartsWithArgument (bytes : List ℕ) (at : ℕ) (argument : Argument) : Type 0 where
  pub fits : Fits argument
  pub written : StartsWith bytes at (atom_of argument)

-- with an unknown tag the rest isn't read
abbrev pub after_tags : ℕ → List ℕ → ℕ → Want
after_tags place tags at = if list_any is_unknown tags then done else brackets_balance place tags at

-- The want stands, and the second one is the next.
abbrev pub Leads : List ℕ → Want → Want → Type 0
Leads bytes (some_byte most) next = (0 < length bytes) × (next ≡ within most)
Leads bytes (within most) next = (length bytes ≤ most) × (next ≡ fourfold)
Leads bytes fourfold next = (length bytes % 4 ≡ 0) × (next ≡ slash 0)
Leads bytes (slash at) next = (rest : List ℕ) × (drop at bytes ≡ 47 ∷ rest) × (next ≡ pattern at)
Leads bytes (pattern at) next = (text : List ℕ) × StartsWithString bytes at text
    × (next ≡ lawful at text (at + length (string text)))
Leads bytes (lawful at text end) next = IsPattern text × (next ≡ comma end)
Leads bytes (comma at) next =
    ((drop at bytes ≡ []) × (next ≡ done))
    ⊎ ((rest : List ℕ) × (drop at bytes ≡ 44 ∷ rest) × (next ≡ tag_text at))
Leads bytes (tag_text at) next = (tags : List ℕ) × StartsWithString bytes at (44 ∷ tags)
    × (next ≡ after_tags (at + 1) tags (at + length (tag_string tags)))
Leads bytes (brackets_balance place tags at) next = Balanced tags × (next ≡ arguments tags at)
Leads bytes (arguments [] at) next = (drop at bytes ≡ []) × (next ≡ done)
Leads bytes (arguments (tag ∷ tags) at) next =
    (argument : Argument) × (tag_of argument ≡ tag) × StartsWithArgument bytes at argument
    × (next ≡ arguments tags (at + length (atom_of argument)))
Leads bytes done next = ⊥

-- a want stands where there is a next one
abbrev pub Stands : List ℕ → Want → Type 0
Stands bytes want = (next : Want) × Leads bytes want next

-- a byte stands at the place, and it is another
pub record NamesOtherByte (wanted : ℕ) (bytes : List ℕ) (at : ℕ) : Type 0 where
  pub byte : ℕ
  pub rest : List ℕ
  pub other : byte ≢ wanted
  pub parts : drop at bytes ≡ byte ∷ rest

-- the first fault of the text as a pattern: a byte that no pattern has, or else a bracket or brace
-- that isn't closed
pub record NamesPatternFault (text : List ℕ) (at : ℕ) (fault : Fault) : Type 0 where
  pub kind : ℕ
  pub place : ℕ
  pub first : IsFault text kind place
  pub named : fault ≡ of_pattern at kind place

-- a `]` after brackets that balance closes nothing
pub record ClosesNothing (place : ℕ) (tags : List ℕ) (fault : Fault) : Type 0 where
  pub before : List ℕ
  pub after : List ℕ
  pub balanced : Balanced before
  pub parts : tags ≡ before ++ 93 ∷ after
  pub named : fault ≡ brackets (place + length before)

-- a `[` after brackets that balance is never closed, where each prefix of what follows has at least
-- as many `[` as `]`
pub record NeverCloses (place : ℕ) (tags : List ℕ) (fault : Fault) : Type 0 where
  pub before : List ℕ
  pub after : List ℕ
  pub balanced : Balanced before
  pub parts : tags ≡ before ++ 91 ∷ after
  pub unclosed : ClosesOpenOnes after
  pub named : fault ≡ brackets (place + length before)

-- what is missing or bad where the argument of a tag should stand
pub data NamesArgumentFault (tag : ℕ) (bytes : List ℕ) (at : ℕ) (fault : Fault) : Type 0 where
  of_word : IsTrue (is_word_tag tag) → NamesShort 4 bytes at fault
      → NamesArgumentFault tag bytes at fault
  of_long : IsTrue (is_long_tag tag) → NamesShort 8 bytes at fault
      → NamesArgumentFault tag bytes at fault
  of_text : IsTrue (is_text_tag tag) → NamesStringFault bytes at fault
      → NamesArgumentFault tag bytes at fault
  of_blob : IsTrue (is_blob_tag tag) → NamesBlobFault bytes at fault
      → NamesArgumentFault tag bytes at fault

-- The fault of a want that doesn't stand.
abbrev pub Names : List ℕ → Want → Fault → Type 0
Names bytes (some_byte most) fault = (bytes ≡ []) × (fault ≡ empty)
Names bytes (within most) fault = (most < length bytes) × (fault ≡ too_long most)
Names bytes fourfold fault = (length bytes % 4 ≢ 0) × (fault ≡ not_four (length bytes))
Names bytes (slash at) fault = ((drop at bytes ≡ []) ⊎ NamesOtherByte 47 bytes at)
    × (fault ≡ start at)
Names bytes (pattern at) fault = NamesStringFault bytes at fault
Names bytes (lawful at text end) fault = NamesPatternFault text at fault
Names bytes (comma at) fault = NamesOtherByte 44 bytes at × (fault ≡ no_tags at)
Names bytes (tag_text at) fault = NamesStringFault bytes at fault
Names bytes (brackets_balance place tags at) fault =
    ClosesNothing place tags fault ⊎ NeverCloses place tags fault
Names bytes (arguments [] at) fault = (0 < length (drop at bytes)) × (fault ≡ left_over at)
Names bytes (arguments (tag ∷ tags) at) fault = NamesArgumentFault tag bytes at fault
Names bytes done fault = ⊥

-- the wants that are reached from a first one: each that stands reaches the next
pub data Reaches (bytes : List ℕ) (from : Want) : Want → Type 0 where
  first : Reaches bytes from from
  later : {want next : Want} → Reaches bytes from want → Leads bytes want next
      → Reaches bytes from next

-- the reached want that doesn't stand, and its fault
pub record FaultFrom (bytes : List ℕ) (from : Want) (fault : Fault) : Type 0 where
  pub want : Want
  pub reached : Reaches bytes from want
  pub fails : Stands bytes want → ⊥
  pub named : Names bytes want fault

-- the first fault of bytes as one message of at most so many bytes
abbrev pub FirstFault : List ℕ → ℕ → Fault → Type 0
FirstFault bytes most fault = FaultFrom bytes (some_byte most) fault
