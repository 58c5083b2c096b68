-- What a reading of a message tells of its arguments.
use Rattle.std.specs.Prelude.{◌≡◌, ℕ, ◌+◌, List, [], ◌∷◌, ◌++◌, length, take, drop, Option, Some}
use Rattle.std.specs.Prelude.{None, nat_lt, slice_set, if◌then◌else◌}
use Rattle.std.specs.Int.{w32, w64, cast_unsigned}
use Rattle.std.specs.Option.{option_map_or}
use Rattle.osc_atoms.specs.declared.fault.Fault.{Fault}
use Rattle.osc_atoms.specs.Atoms.{string}
use Rattle.osc_message.specs.Messages as message
use Rattle.osc_message.specs.Messages.{integer, float, text, content, long, time, double, symbol}
use Rattle.osc_message.specs.Messages.{character, rgba, midi, tag_of, atom_of, tag_string}
use Rattle.osc_message.specs.Reading.{pattern_of}
use Rattle.osc_message.specs.Arguments.{tags_of, message_arguments}
use Rattle.osc_c.specs.declared.answer.Answer.{Answer}
use Rattle.osc_c.specs.declared.argument.Argument.{Argument}
use Rattle.osc_c.specs.Answers.{bare, faulty}

-- the bits of a number; else 0
abbrev pub bits_of : message.Argument → ℕ
bits_of (integer number) = cast_unsigned w32 number
bits_of (float bits) = bits
bits_of (long number) = cast_unsigned w64 number
bits_of (time number) = number
bits_of (double bits) = bits
bits_of (character number) = number
bits_of (rgba number) = number
bits_of (midi number) = number
bits_of _ = 0

-- how many bytes stand before those of a blob: its count
abbrev pub count_size : message.Argument → ℕ
count_size (content bytes) = 4
count_size _ = 0

-- how many bytes there are, without a blob's count and the zero bytes after a text or a blob
abbrev pub own_size : message.Argument → ℕ
own_size (text bytes) = length bytes
own_size (content bytes) = length bytes
own_size (symbol bytes) = length bytes
own_size argument = length (atom_of argument)

-- an argument whose atom begins at a place
abbrev pub argument_at : ℕ → message.Argument → Argument
argument_at place argument = record {
  word = bits_of argument;
  place = place + count_size argument;
  size = own_size argument;
  tag = tag_of argument;
}

-- arguments whose atoms stand one after another from a place on
abbrev pub arguments_at : ℕ → List message.Argument → List Argument
arguments_at place [] = []
arguments_at place (argument ∷ arguments) =
    argument_at place argument ∷ arguments_at (place + length (atom_of argument)) arguments

-- how many bytes a tag string has, if there is one
abbrev pub tags_size : Option (List ℕ) → ℕ
tags_size tags = option_map_or (λ tags. length (tag_string tags)) tags 0

-- the place after the pattern and the tag string, where the first atom of a message begins
abbrev pub first_place : List ℕ → ℕ
first_place bytes = length (string (pattern_of bytes)) + tags_size (tags_of bytes)

-- a list with another written over it from its beginning on, as far as it has room
abbrev pub written_over : {X : Type 0} → List X → List X → List X
written_over before new = take (length before) new ++ drop (length new) before

-- a list with another element at a place, if it has the place
abbrev pub put_at : {X : Type 0} → List X → ℕ → X → List X
put_at xs at x = if nat_lt at (length xs) then slice_set xs at x else xs

-- a list in which each of the others is put, one after another from a place on
abbrev pub put_from : {X : Type 0} → List X → ℕ → List X → List X
put_from xs at [] = xs
put_from xs at (y ∷ ys) = put_from (put_at xs at y) (at + 1) ys

-- what a reading of a message answers and writes, by the fault that the bytes have
abbrev pub ReadsMessage : Option Fault → List ℕ → Answer → List Argument → List Argument → Type 0
ReadsMessage None bytes answer before after =
    (answer ≡ record (bare 0) { count = length (message_arguments bytes) })
    × (after ≡ written_over before (arguments_at (first_place bytes) (message_arguments bytes)))
ReadsMessage (Some fault) bytes answer before after = (answer ≡ faulty fault) × (after ≡ before)
