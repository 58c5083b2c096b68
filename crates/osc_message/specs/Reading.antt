-- Messages, read: their parts, or the first fault. `laws` ties them to what is written.
use Rattle.osc_atoms.specs.declared.limits.TheConstants.{MAX_BYTES}
use Rattle.std.specs.Prelude.{◌≡◌, ℕ, ◌+◌, ◌-◌, ◌%◌, ◌≤◌, Bool, true, false, ◌||◌, ◌==◌, ⊤, IsTrue}
use Rattle.std.specs.Prelude.{nat_le, if◌then◌else◌, List, [], ◌∷◌, length, drop, Option, Some}
use Rattle.std.specs.Prelude.{None, Result, Ok, Err, is_ok}
use Rattle.std.specs.List.{list_any, before_first}
use Rattle.std.specs.Option.{option_map_or}
use Rattle.std.specs.Result.{result_ok, result_err}
use Rattle.osc_atoms.specs.declared.fault.Fault.{Fault}
use Rattle.osc_atoms.specs.Reading.{and_then, string_read, is_zero}
use Rattle.osc_pattern.specs.declared.faults.PatternFault.{PatternFault}
use Rattle.osc_pattern.specs.Patterns.{pattern_fault}
use Rattle.osc_message.specs.Tags.{is_unknown}
use Rattle.osc_atoms.specs.Faults.{empty, not_four, too_long, start}
use Rattle.osc_message.specs.Faults.{of_pattern, no_tags, brackets, left_over}
use Rattle.osc_message.specs.ArgumentReading.{arguments_end}

-- the pattern, the tags without the comma if there is a tag string, and the place of the first byte
-- after them
pub record Parts : Type 0 where
  pub pattern : List ℕ
  pub tags : Option (List ℕ)
  pub place : ℕ

-- the bytes begin with this one
abbrev pub begins : ℕ → List ℕ → Bool
begins byte [] = false
begins byte (first ∷ rest) = first == byte

-- The first `]` that closes nothing, or else the first `[` that is never closed. So many brackets
-- are open before the tags, the outermost of them at a place; the tags stand from a second place
-- on.
abbrev pub brackets_read : ℕ → ℕ → List ℕ → ℕ → Result ⊤ Fault
brackets_read depth outer [] place = if depth == 0 then Ok tt else Err (brackets outer)
brackets_read depth outer (tag ∷ tags) place =
    if tag == 91
    then brackets_read (depth + 1) (if depth == 0 then place else outer) tags (place + 1) else
    if tag == 93
    then (if depth == 0 then Err (brackets place)
    else brackets_read (depth - 1) outer tags (place + 1)) else
    brackets_read depth outer tags (place + 1)

-- the arguments under the tags end where the bytes end
abbrev pub arguments_read : List ℕ → List ℕ → ℕ → Result ⊤ Fault
arguments_read bytes tags at =
    and_then (arguments_end tags bytes at)
    (λ end. if end == length bytes then Ok tt else Err (left_over end))

-- brackets and arguments are read where no tag is unknown; the tags stand from a place on, the
-- arguments from a second
abbrev pub tags_read : List ℕ → ℕ → List ℕ → ℕ → Result ⊤ Fault
tags_read bytes place tags at =
    if list_any is_unknown tags then Ok tt
    else and_then (brackets_read 0 place tags place) (λ _. arguments_read bytes tags at)

-- the tag string at a place, and what follows
abbrev pub tagged_read : List ℕ → List ℕ → ℕ → Result Parts Fault
tagged_read bytes pattern at = and_then (string_read bytes at) (λ string.
    and_then (tags_read bytes (at + 1) (drop 1 string.0) string.1) (λ _.
    Ok (record { pattern = pattern; tags = Some (drop 1 string.0); place = string.1 })))

-- what follows a pattern: nothing, or a tag string
abbrev pub comma_read : List ℕ → List ℕ → ℕ → Result Parts Fault
comma_read bytes pattern at =
    if at == length bytes then Ok (record { pattern = pattern; tags = None; place = at }) else
    if begins 44 (drop at bytes) then tagged_read bytes pattern at else Err (no_tags at)

-- a fault of the pattern at a place is the answer, or else what is read next
abbrev pub unless_fault : ℕ → Option PatternFault → Result Parts Fault → Result Parts Fault
unless_fault at None next = next
unless_fault at (Some fault) next = Err (of_pattern at fault.kind fault.at)

-- a lawful pattern at a place, and what follows it at a second
abbrev pub lawful_read : List ℕ → ℕ → List ℕ → ℕ → Result Parts Fault
lawful_read bytes at pattern end =
    unless_fault at (pattern_fault pattern) (comma_read bytes pattern end)

-- the message at a place, which ends where the bytes end
unfoldable pub message_read : List ℕ → ℕ → Result Parts Fault
message_read bytes at =
    if begins 47 (drop at bytes)
    then and_then (string_read bytes at) (λ string. lawful_read bytes at string.0 string.1)
    else Err (start at)

-- bytes of a length that is a multiple of 4
abbrev pub fourfold_read : List ℕ → Result Parts Fault
fourfold_read bytes = if length bytes % 4 == 0 then message_read bytes 0
    else Err (not_four (length bytes))

-- bytes of at most this length
abbrev pub within_read : ℕ → List ℕ → Result Parts Fault
within_read most bytes = if nat_le (length bytes) most then fourfold_read bytes
    else Err (too_long most)

-- some bytes of at most this length, as one message
abbrev pub limited_read : ℕ → List ℕ → Result Parts Fault
limited_read most bytes = if length bytes == 0 then Err empty else within_read most bytes

-- the fault that is read
abbrev pub message_fault : ℕ → List ℕ → Option Fault
message_fault most bytes = result_err (limited_read most bytes)

-- the parts of bytes that are one message, whatever their length
abbrev pub parts_of : List ℕ → Option Parts
parts_of bytes = if length bytes % 4 == 0 then result_ok (message_read bytes 0) else None

-- the arguments under known tags are read to their end
abbrev pub are_read : List ℕ → List ℕ → ℕ → Bool
are_read bytes tags place = list_any is_unknown tags || is_ok (arguments_end tags bytes place)

-- the arguments of a message with these parts are read to their end, if its tags are known
abbrev pub has_arguments : List ℕ → Parts → Bool
has_arguments bytes parts = option_map_or (λ tags. are_read bytes tags parts.place) parts.tags true

-- bytes of a size that places can count are a message with these parts
pub record IsReadable (bytes : List ℕ) (parts : Parts) : Type 0 where
  pub read : parts_of bytes ≡ Some parts
  pub whole : length bytes % 4 ≡ 0
  pub small : length bytes ≤ MAX_BYTES
  pub aligned : parts.place % 4 ≡ 0
  pub inside : parts.place ≤ length bytes
  pub arguments : IsTrue (has_arguments bytes parts)

-- the bytes are read as a message
abbrev pub is_message : ℕ → List ℕ → Bool
is_message most bytes = is_ok (limited_read most bytes)

-- the bytes before the first zero
abbrev pub pattern_of : List ℕ → List ℕ
pattern_of bytes = before_first is_zero bytes
