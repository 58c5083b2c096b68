-- Sheets of what is shown: a line for each cue, its message in the words that are shown of it.
use Rattle.std.specs.Prelude.{◌≡◌, IsTrue, false, ℕ, ◌<◌, ◌^◌, List, [], ◌∷◌, ◌++◌, Ok}
use Rattle.hex.specs.Hex.{encode_lower}
use Rattle.osc_atoms.specs.Atoms.{tag}
use Rattle.osc_message.specs.Messages.{Argument, known, message_text, IsLawful}
use Rattle.osc_shown.specs.Lines.{IsMessageText}
use Rattle.osc_cues.specs.declared.cue.Cue.{Cue}
use Rattle.osc_cues.specs.Cues.{address_read}
use Rattle.osc_shown_laws.specs.WholeArguments.{AreOfBytes, are_whole}

-- a cue whose message is shown whole, and goes to an address that a sheet for these methods takes
pub record IsShowable (methods : List (List ℕ)) (cue : Cue) : Type 0 where
  pub fits : cue.tag < 2 ^ 64
  pub pattern : List ℕ
  pub arguments : List Argument
  pub lawful : IsLawful (known pattern arguments)
  pub spelled : cue.message ≡ message_text (known pattern arguments)
  pub bytes : AreOfBytes arguments
  pub whole : IsTrue (are_whole arguments)
  pub taken : address_read methods pattern ≡ Ok pattern

-- the line of a cue: its time tag in 16 digits, a space, and the words of its message
abbrev pub IsCueLine : Cue → List ℕ → Type 0
IsCueLine cue line =
    (words : List ℕ) × IsMessageText false cue.message words
    × (line ≡ encode_lower (tag cue.tag) ++ 32 ∷ words)

-- the lines of cues, each with a line feed at its end
abbrev pub AreCueLines : List Cue → List ℕ → Type 0
AreCueLines [] bytes = bytes ≡ []
AreCueLines (cue ∷ cues) bytes =
    (line : List ℕ) × (others : List ℕ) × IsCueLine cue line × AreCueLines cues others
    × (bytes ≡ line ++ 10 ∷ others)
