-- Which arguments are shown whole, and what a sheet of cues makes of the others.
use Rattle.std.specs.Prelude.{ℕ, nat_le, Bool, true, if◌then◌else◌, List, length, chars, Result}
use Rattle.std.specs.List.{AllByRecursion, list_all}
use Rattle.std.specs.Str.{is_utf8}
use Rattle.osc_atoms.specs.Atoms.{AreBytes}
use Rattle.osc_message.specs.Messages.{Argument, text, content, symbol}
use Rattle.osc_shown.specs.Texts.{most_shown}
use Rattle.osc_cues.specs.declared.fault.Fault.TheVariants.{NotText, NotBlob}
use Rattle.osc_cues.specs.declared.fault.WordFault.{WordFault}
use Rattle.osc_cues.specs.Faults.{wrong_at}

-- the texts and the blobs of arguments are of bytes
abbrev pub IsOfBytes : Argument → Type 0
IsOfBytes (text bytes) = AreBytes bytes
IsOfBytes (content bytes) = AreBytes bytes
IsOfBytes (symbol bytes) = AreBytes bytes
IsOfBytes _ = Unit {0}

-- how many characters a text has; of one that isn't UTF-8 each byte counts as one
abbrev pub character_count : List ℕ → ℕ
character_count bytes = if is_utf8 bytes then length (chars bytes) else length bytes

-- a text of at most 40 characters
abbrev pub is_short : List ℕ → Bool
is_short bytes = nat_le (character_count bytes) most_shown

-- What is shown of an argument is all of it: its text has at most 40 characters, its blob at most
-- eight bytes.
abbrev pub is_whole : Argument → Bool
is_whole (text bytes) = is_short bytes
is_whole (symbol bytes) = is_short bytes
is_whole (content bytes) = nat_le (length bytes) 8
is_whole _ = true

-- what is wrong with the word of an argument that was cut short
abbrev pub cut_fault : Argument → Result Argument WordFault
cut_fault (symbol bytes) = wrong_at 2 NotText
cut_fault (content bytes) = wrong_at 2 NotBlob
cut_fault _ = wrong_at 0 NotText

-- each argument of a message is of bytes
abbrev pub AreOfBytes : List Argument → Type 0
AreOfBytes arguments = AllByRecursion IsOfBytes arguments

-- each is shown whole
abbrev pub are_whole : List Argument → Bool
are_whole arguments = list_all is_whole arguments
