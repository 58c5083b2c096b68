-- What is told of a wrong line, and what to write instead.
use Rattle.std.specs.Prelude.{ℕ, ◌++◌, if◌then◌else◌, List, map, codes}
use Rattle.std.specs.Char.{is_ascii_control}
use Rattle.std.specs.Fmt.{decimal}
use Rattle.osc_patch.specs.declared.fault.Fault.{Fault}
use Rattle.osc_patch.specs.declared.fault.Fault.TheVariants.{UnknownWord, WordCount, Pattern}
use Rattle.osc_patch.specs.declared.fault.Fault.TheVariants.{Address, Host, Port, Repeated}
use Rattle.osc_patch.specs.declared.fault.Fault.TheVariants.{Nested, TooMany}
use Rattle.osc_patch.specs.declared.fault.WrongLine.{WrongLine}

-- a question mark in place of a control character
abbrev pub shown : ℕ → ℕ
shown byte = if is_ascii_control byte then 63 else byte

-- a number with what stands before and after it
abbrev pub with_number : List ℕ → ℕ → List ℕ → List ℕ
with_number before number after = before ++ decimal number ++ after

-- what stands before the word
unfoldable pub heading : ℕ → List ℕ
heading line = with_number (codes "line ") line (codes ": `")

-- what follows the word
unfoldable pub advice : Fault → List ℕ
advice UnknownWord =
    codes " begins no line: write `add ADDRESS` or `add ADDRESS HOST PORT`"
advice WordCount =
    codes " takes one word or three: write `add ADDRESS` or `add ADDRESS HOST PORT`"
advice Pattern =
    codes " is a pattern, and a method has a plain address: write each address on a line of its own"
advice Address =
    codes " is no address: write a slash before each name, and no spaces or any of `#*,?[]{}`"
advice Host =
    codes " is no host: write an IPv4 address, as 10.0.0.7, or a name of letters, digits, `-` and `.`"
advice Port = codes " is no port: write a number from 1 to 65535"
advice (Repeated line) = with_number (codes " is sent there by line ") line
    (codes " already: take one of the two lines away")
advice (Nested line) = with_number (codes " and the address of line ") line
    (codes " lie one under the other, and a method has none under it: rename one of them")
advice (TooMany limit) = with_number (codes " comes after ") limit
    (codes " methods, and there may be no more: take lines away, or raise the limit")

-- what is told of a wrong line
abbrev pub wrong_text : WrongLine → List ℕ
wrong_text wrong = heading wrong.line ++ map shown wrong.word ++ codes "`" ++ advice wrong.fault
