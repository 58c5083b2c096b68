-- What a message carries that is drawn: one number, or one text.
use Rattle.std.specs.Prelude.{ℕ, ◌-◌, ◌==◌, ◌||◌, Bool, nat_le, nat_lt, if◌then◌else◌, List, []}
use Rattle.std.specs.Prelude.{◌∷◌, ◌++◌, length, filter, map, codes, Option, Some, None}
use Rattle.std.specs.Int.{w32, w64, cast_unsigned}
use Rattle.std.specs.Str.{is_utf8}
use Rattle.osc_atoms.specs.declared.limits.TheConstants.{MAX_BYTES}
use Rattle.osc_message.specs.Arguments.{message_arguments}
use Rattle.osc_message.specs.Messages.{Argument, integer, float, text, content, long, time, double}
use Rattle.osc_message.specs.Messages.{symbol, character, rgba, midi, true_, false_, nil, infinitum}
use Rattle.osc_message.specs.Messages.{array_start, array_end}
use Rattle.osc_message.specs.Reading.{is_message}
use Rattle.osc_picture.specs.declared.row.Sort.TheVariants.{Marks, Curve, Texts}
use Rattle.osc_drawing.specs.declared.carried.Carried.{Carried}
use Rattle.osc_drawing.specs.Numbers.{one_at, zero_at, of_integer, of_long, of_float, of_double}

-- nothing that is drawn
abbrev pub nothing : Carried
nothing = record { sort = Marks; number = 0; words = [] }

abbrev pub a_number : ℕ → Carried
a_number number = record { sort = Curve; number = number; words = [] }

abbrev pub a_text : List ℕ → Carried
a_text words = record { sort = Texts; number = 0; words = words }

-- a number, where there is one
abbrev pub some_number : Option ℕ → Carried
some_number None = nothing
some_number (Some number) = a_number number

-- whether a byte begins a character
abbrev pub begins_char : ℕ → Bool
begins_char byte = nat_lt byte 128 || nat_le 192 byte

-- the bytes of so many characters
abbrev pub front : ℕ → List ℕ → List ℕ
front count [] = []
front count (byte ∷ bytes) =
    if begins_char byte
    then (if count == 0 then [] else byte ∷ front (count - 1) bytes)
    else byte ∷ front count bytes

-- a byte that is a character, or a point
abbrev pub plain : ℕ → ℕ
plain byte = if nat_lt byte 128 then byte else 46

-- bytes as characters
abbrev pub as_chars : List ℕ → List ℕ
as_chars bytes = if is_utf8 bytes then bytes else map plain bytes

-- up to 24 characters, or 22 and two points
abbrev pub shortened : List ℕ → List ℕ
shortened words =
    if nat_lt 24 (length (filter begins_char words)) then front 22 words ++ codes ".." else words

-- what a lone argument carries
abbrev pub carried_by : Argument → Carried
carried_by (integer number) = a_number (of_integer (cast_unsigned w32 number))
carried_by (float bits) = some_number (of_float bits)
carried_by (text bytes) = a_text (shortened (as_chars bytes))
carried_by (content bytes) = nothing
carried_by (long number) = a_number (of_long (cast_unsigned w64 number))
carried_by (time number) = nothing
carried_by (double bits) = some_number (of_double bits)
carried_by (symbol bytes) = a_text (shortened (as_chars bytes))
carried_by (character number) = nothing
carried_by (rgba number) = nothing
carried_by (midi number) = nothing
carried_by true_ = a_number one_at
carried_by false_ = a_number zero_at
carried_by nil = nothing
carried_by infinitum = nothing
carried_by array_start = nothing
carried_by array_end = nothing

-- what arguments carry: something only where there is one
abbrev pub carried_in : List Argument → Carried
carried_in [] = nothing
carried_in (first ∷ others) = if length others == 0 then carried_by first else nothing

-- what a message carries
abbrev pub carried_of : List ℕ → Carried
carried_of message =
    if is_message MAX_BYTES message then carried_in (message_arguments message) else nothing
