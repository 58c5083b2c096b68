-- Arguments, read one after another: each under its tag, at its place.
use Rattle.std.specs.Prelude.{ℕ, ◌==◌, if◌then◌else◌, List, [], ◌∷◌, Result, Ok, Err}
use Rattle.std.specs.Int.{w32, w64, cast_signed}
use Rattle.osc_atoms.specs.declared.fault.Fault.{Fault}
use Rattle.osc_atoms.specs.Reading.{and_then, word_read, tag_read, string_read, blob_read}
use Rattle.osc_message.specs.Tags.{is_word_tag, is_long_tag, is_text_tag, is_blob_tag}
use Rattle.osc_message.specs.Messages.{Argument, integer, float, text, content, long, time, double}
use Rattle.osc_message.specs.Messages.{symbol, character, rgba, midi, true_, false_, nil, infinitum}
use Rattle.osc_message.specs.Messages.{array_start, array_end}

-- the argument of a word under i f c r m; nil under any other tag
abbrev pub word_argument : ℕ → ℕ → Argument
word_argument tag number =
    if tag == 105 then integer (cast_signed w32 number) else if tag == 102 then float number
    else if tag == 99 then character number else if tag == 114 then rgba number
    else if tag == 109 then midi number else nil

-- the argument of eight bytes under h t d; nil under any other tag
abbrev pub long_argument : ℕ → ℕ → Argument
long_argument tag number =
    if tag == 104 then long (cast_signed w64 number) else if tag == 116 then time number
    else if tag == 100 then double number else nil

-- the argument of a string under s S; nil under any other tag
abbrev pub text_argument : ℕ → List ℕ → Argument
text_argument tag bytes =
    if tag == 115 then text bytes else if tag == 83 then symbol bytes else nil

-- the argument under T F N I [ ]
abbrev pub bare_argument : ℕ → Argument
bare_argument tag =
    if tag == 84 then true_ else if tag == 70 then false_ else if tag == 78 then nil
    else if tag == 73 then infinitum else if tag == 91 then array_start
    else array_end

-- the argument of a known tag, and the place after it
abbrev pub argument_read : ℕ → List ℕ → ℕ → Result (Argument × ℕ) Fault
argument_read tag bytes at =
    if is_word_tag tag
    then and_then (word_read bytes at) (λ word. Ok (word_argument tag word.0, word.1)) else
    if is_long_tag tag
    then and_then (tag_read bytes at) (λ word. Ok (long_argument tag word.0, word.1)) else
    if is_text_tag tag
    then and_then (string_read bytes at)
    (λ string. Ok (text_argument tag string.0, string.1)) else
    if is_blob_tag tag then and_then (blob_read bytes at) (λ blob. Ok (content blob.0, blob.1)) else
    Ok (bare_argument tag, at)

-- the place after the arguments of the tags
abbrev pub arguments_end : List ℕ → List ℕ → ℕ → Result ℕ Fault
arguments_end [] bytes at = Ok at
arguments_end (tag ∷ tags) bytes at =
    and_then (argument_read tag bytes at) (λ argument. arguments_end tags bytes argument.1)

-- the arguments of the tags
abbrev pub arguments_of : List ℕ → List ℕ → ℕ → List Argument
arguments_of [] bytes at = []
arguments_of (tag ∷ tags) bytes at = elim (argument_read tag bytes at) [
  | Ok argument ↦ argument.0 ∷ arguments_of tags bytes argument.1
  | Err fault ↦ []
]
