-- Messages in the making.
use Rattle.osc_message.specs.declared.limits.TheConstants.{MAX_BUILT, MAX_BUILT_PATTERN}
use Rattle.std.specs.Prelude.{◌≡◌, ℕ, ◌+◌, ◌%◌, ◌^◌, ◌≤◌, false, nat_le, if◌then◌else◌, IsTrue}
use Rattle.std.specs.Prelude.{List, [], ◌∷◌, ◌++◌, length, take, drop, position, Option, Some, None}
use Rattle.std.specs.Prelude.{option_map, is_ok}
use Rattle.std.specs.List.{list_any}
use Rattle.osc_atoms.specs.Atoms.{AreBytes, string}
use Rattle.osc_atoms.specs.Reading.{is_zero}
use Rattle.osc_pattern.specs.Patterns.{IsPattern, pattern_fault}
use Rattle.osc_message.specs.declared.build_fault.BuildFault.{BuildFault}
use Rattle.osc_message.specs.declared.build_fault.BuildFault.TheVariants.{Pattern, HasNull, TooLong}
use Rattle.osc_message.specs.Tags.{is_unknown}
use Rattle.osc_message.specs.Messages.{Argument, text, symbol, Form, known, message_text}
use Rattle.osc_message.specs.ArgumentReading.{arguments_of}
use Rattle.osc_message.specs.Reading.{begins, arguments_read}

-- the pattern, and the arguments that were pushed
pub record Building : Type 0 where
  pub pattern : List ℕ
  pub arguments : List Argument

-- with one more argument
abbrev pub pushed : Building → Argument → Building
pushed building argument =
    record { pattern = building.pattern; arguments = building.arguments ++ argument ∷ [] }

-- the message when it is finished, always with a tag string
abbrev pub finished : Building → Form
finished building = known building.pattern building.arguments

-- where the first zero byte is, among the places that four bytes can count
abbrev pub null_of : List ℕ → Option ℕ
null_of bytes = position is_zero (take (2 ^ 32) bytes)

-- where the first zero byte of a string or symbol is
abbrev pub null_in : Argument → Option ℕ
null_in (text bytes) = null_of bytes
null_in (symbol bytes) = null_of bytes
null_in _ = None

-- a zero byte is refused at its place; without one, the next refusal stands
abbrev pub refused_null : Option ℕ → Option BuildFault → Option BuildFault
refused_null None next = next
refused_null (Some at) next = Some (HasNull at)

-- a pattern of over 65,000 bytes is refused first, then one with a zero byte, and then one that has
-- a fault of its own
abbrev pub open_refusal : List ℕ → Option BuildFault
open_refusal pattern =
    if nat_le (length pattern) MAX_BUILT_PATTERN
    then refused_null (null_of pattern)
    (option_map (λ fault. Pattern fault) (pattern_fault pattern))
    else Some TooLong

-- a zero byte is refused first, and then an argument with which the finished message would be over
-- 65,504 bytes
abbrev pub push_refusal : Building → Argument → Option BuildFault
push_refusal building argument =
    refused_null (null_in argument)
    (if nat_le (length (message_text (finished (pushed building argument)))) MAX_BUILT then None
    else Some TooLong)

-- the bytes that are kept: the pattern, the tags after their comma, and the arguments' atoms
pub record IsKept (pattern tags atoms : List ℕ) : Type 0 where
  pub lawful : IsPattern pattern
  pub comma : IsTrue (begins 44 tags)
  pub all_known : list_any is_unknown (drop 1 tags) ≡ false
  pub bytes : AreBytes atoms
  pub whole : length atoms % 4 ≡ 0
  pub readable : IsTrue (is_ok (arguments_read atoms (drop 1 tags) 0))
  pub short : length (string pattern) + length (string tags) + length atoms ≤ MAX_BUILT

-- what the kept bytes stand for
abbrev pub building_of : List ℕ → List ℕ → List ℕ → Building
building_of pattern tags atoms =
    record { pattern = pattern; arguments = arguments_of (drop 1 tags) atoms 0 }
