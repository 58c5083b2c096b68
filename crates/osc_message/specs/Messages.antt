-- Messages, written: what a message is, and its bytes.
use Rattle.std.specs.Prelude.{◌≡◌, ℕ, ◌%◌, ◌<◌, ◌≤◌, ◌^◌, IsTrue, List, [], ◌∷◌, ◌++◌, length, map}
use Rattle.std.specs.Prelude.{ℤ, FitsSigned}
use Rattle.std.specs.List.{flat_map, list_any}
use Rattle.std.specs.Int.{w32, w64, cast_unsigned}
use Rattle.osc_atoms.specs.Atoms.{word, tag, string, blob, has_no_zero}
use Rattle.osc_pattern.specs.Patterns.{IsPattern}
use Rattle.osc_message.specs.Tags.{is_unknown, Balanced}

-- An argument: one of the fifteen types of the table of type tags, or an array bracket.
pub data Argument : Type 0 where
  integer : ℤ → Argument
  float : ℕ → Argument
  text : List ℕ → Argument
  content : List ℕ → Argument
  long : ℤ → Argument
  time : ℕ → Argument
  double : ℕ → Argument
  symbol : List ℕ → Argument
  character : ℕ → Argument
  rgba : ℕ → Argument
  midi : ℕ → Argument
  true_ : Argument
  false_ : Argument
  nil : Argument
  infinitum : Argument
  array_start : Argument
  array_end : Argument

-- the type tag: i f s b h t d S c r m T F N I [ ]
abbrev pub tag_of : Argument → ℕ
tag_of (integer number) = 105
tag_of (float bits) = 102
tag_of (text bytes) = 115
tag_of (content bytes) = 98
tag_of (long number) = 104
tag_of (time number) = 116
tag_of (double bits) = 100
tag_of (symbol bytes) = 83
tag_of (character number) = 99
tag_of (rgba number) = 114
tag_of (midi number) = 109
tag_of true_ = 84
tag_of false_ = 70
tag_of nil = 78
tag_of infinitum = 73
tag_of array_start = 91
tag_of array_end = 93

-- the bytes that stand for the argument; the last six have none
abbrev pub atom_of : Argument → List ℕ
atom_of (integer number) = word (cast_unsigned w32 number)
atom_of (float bits) = word bits
atom_of (text bytes) = string bytes
atom_of (content bytes) = blob bytes
atom_of (long number) = tag (cast_unsigned w64 number)
atom_of (time number) = tag number
atom_of (double bits) = tag bits
atom_of (symbol bytes) = string bytes
atom_of (character number) = word number
atom_of (rgba number) = word number
atom_of (midi number) = word number
atom_of true_ = []
atom_of false_ = []
atom_of nil = []
atom_of infinitum = []
atom_of array_start = []
atom_of array_end = []

-- what an argument's atom can hold
abbrev pub Fits : Argument → Type 0
Fits (integer number) = FitsSigned w32 number
Fits (float bits) = bits < 2 ^ 32
Fits (text bytes) = IsTrue (has_no_zero bytes)
Fits (content bytes) = length bytes < 2 ^ 31
Fits (long number) = FitsSigned w64 number
Fits (time number) = number < 2 ^ 64
Fits (double bits) = bits < 2 ^ 64
Fits (symbol bytes) = IsTrue (has_no_zero bytes)
Fits (character number) = number < 2 ^ 32
Fits (rgba number) = number < 2 ^ 32
Fits (midi number) = number < 2 ^ 32
Fits true_ = Unit {0}
Fits false_ = Unit {0}
Fits nil = Unit {0}
Fits infinitum = Unit {0}
Fits array_start = Unit {0}
Fits array_end = Unit {0}

-- no zero byte ends a string before its text does
abbrev pub HasNoZero : Argument → Type 0
HasNoZero (text bytes) = IsTrue (has_no_zero bytes)
HasNoZero (symbol bytes) = IsTrue (has_no_zero bytes)
HasNoZero _ = Unit {0}

-- each argument fits its atom
abbrev pub AllFit : List Argument → Type 0
AllFit [] = Unit {0}
AllFit (argument ∷ arguments) = Fits argument × AllFit arguments

-- A pattern alone; a pattern with arguments, each under its tag; or a pattern with tags of which at
-- least one is unknown, and a rest that isn't read.
pub data Form : Type 0 where
  bare : List ℕ → Form
  known : List ℕ → List Argument → Form
  unknown : List ℕ → List ℕ → List ℕ → Form

-- the tag string, which begins with a comma
abbrev pub tag_string : List ℕ → List ℕ
tag_string tags = string (44 ∷ tags)

-- the bytes of a message
abbrev pub message_text : Form → List ℕ
message_text (bare pattern) = string pattern
message_text (known pattern arguments) =
    string pattern ++ (tag_string (map tag_of arguments) ++ flat_map atom_of arguments)
message_text (unknown pattern tags rest) = string pattern ++ (tag_string tags ++ rest)

-- The pattern is an address pattern. Arguments fit their atoms, and the array brackets among them
-- balance. Where a tag is unknown, the rest is any bytes, four by four.
abbrev pub IsLawful : Form → Type 0
IsLawful (bare pattern) = IsPattern pattern
IsLawful (known pattern arguments) =
    IsPattern pattern × AllFit arguments × Balanced (map tag_of arguments)
IsLawful (unknown pattern tags rest) =
    IsPattern pattern × IsTrue (has_no_zero tags) × IsTrue (list_any is_unknown tags)
    × (length rest % 4 ≡ 0)

-- the bytes are those of a message, and at most so many
pub record IsMessage (most : ℕ) (bytes : List ℕ) : Type 0 where
  pub form : Form
  pub lawful : IsLawful form
  pub spelled : bytes ≡ message_text form
  pub short : length bytes ≤ most
