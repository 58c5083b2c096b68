-- What the words of a cue say: its address, its arguments and its message.
use Rattle.std.specs.Prelude.{ℕ, ◌+◌, ◌-◌, ◌==◌, ◌&&◌, ◌||◌, Bool, true, not, nat_le}
use Rattle.std.specs.Prelude.{nat_lt, min, ◌^◌}
use Rattle.std.specs.Prelude.{if◌then◌else◌, List, [], ◌∷◌, length, position, codes, bytes_eq}
use Rattle.std.specs.Prelude.{Option, Some, None, option_map, Result, Ok, Err}
use Rattle.std.specs.List.{list_any}
use Rattle.osc_pattern.specs.declared.faults.PatternFault.{PatternFault}
use Rattle.osc_pattern.specs.Patterns.{is_pattern, pattern_fault, matches, begins_with_slash}
use Rattle.osc_message.specs.Messages.{Argument, known, message_text}
use Rattle.osc_cues.specs.declared.fault.Fault.{Fault}
use Rattle.osc_cues.specs.declared.fault.Fault.TheVariants.{NotAddress, AddressByte, EmptyName}
use Rattle.osc_cues.specs.declared.fault.Fault.TheVariants.{OpenGroup, NoMethod, OpenBracket}
use Rattle.osc_cues.specs.declared.fault.Fault.TheVariants.{CloseBracket, NoAddress}
use Rattle.osc_cues.specs.declared.fault.WordFault.{WordFault}
use Rattle.osc_cues.specs.declared.scan.Span.{Span}
use Rattle.osc_cues.specs.declared.brackets.Brackets.{Brackets}
use Rattle.osc_cues.specs.Arguments.{argument_read}
use Rattle.osc_cues.specs.Faults.{wrong_at, made}
use Rattle.osc_cues.specs.Words.{word_at}

abbrev pub fault_at : ℕ → Fault → WordFault
fault_at at fault = record { at = at; fault = fault }

-- a step on what was read, where nothing is wrong yet
abbrev pub and_then : {X Y E : Type 0} → Result X E → (X → Result Y E) → Result Y E
and_then (Ok value) next = next value
and_then (Err error) next = Err error

-- Addresses.

-- a byte that no address or pattern of a cue has
abbrev pub is_bad : ℕ → Bool
is_bad byte = not (nat_le 33 byte && nat_le byte 126) || byte == 35

-- the end, or a slash
abbrev pub begins_no_name : List ℕ → Bool
begins_no_name [] = true
begins_no_name (first ∷ rest) = first == 47

-- the first slash, from a place on, that no name follows
abbrev pub empty_name : ℕ → List ℕ → Option ℕ
empty_name place [] = None
empty_name place (first ∷ rest) =
    if first == 47 && begins_no_name rest then Some place else empty_name (place + 1) rest

-- the first bracket or brace that isn't closed
abbrev pub open_group : List ℕ → Option ℕ
open_group word = option_map (λ (fault : PatternFault). fault.at) (pattern_fault word)

abbrev pub earlier_of : ℕ → ℕ → WordFault
earlier_of empty group =
    if nat_lt empty group then fault_at empty EmptyName else fault_at group OpenGroup

-- the earlier of two faults
abbrev pub earlier : Option ℕ → Option ℕ → Option WordFault
earlier None None = None
earlier (Some empty) None = Some (fault_at empty EmptyName)
earlier None (Some group) = Some (fault_at group OpenGroup)
earlier (Some empty) (Some group) = Some (earlier_of empty group)

abbrev pub name_fault : List ℕ → Option ℕ → Option WordFault
name_fault word (Some at) = Some (fault_at at AddressByte)
name_fault word None = earlier (empty_name 0 word) (open_group word)

-- what is wrong with an address or a pattern
abbrev pub address_fault : List ℕ → Option WordFault
address_fault word =
    if begins_with_slash word then name_fault word (position is_bad word)
    else Some (fault_at 0 NotAddress)

-- a method answers it
abbrev pub is_answered : List (List ℕ) → List ℕ → Bool
is_answered methods word = is_pattern word && list_any (matches word) methods

-- the address, where a method answers it
abbrev pub answered : List (List ℕ) → List ℕ → Option WordFault → Result (List ℕ) WordFault
answered methods word (Some fault) = Err fault
answered methods word None =
    if is_answered methods word then Ok word else wrong_at 0 NoMethod

abbrev pub address_read : List (List ℕ) → List ℕ → Result (List ℕ) WordFault
address_read methods word = answered methods word (address_fault word)

-- Arguments.

-- a place of a word that begins at a place of its line; all places of lines fit 64 bits
abbrev pub place_in : ℕ → ℕ → ℕ
place_in from at = min (from + at) (2 ^ 64 - 1)

-- a fault of a word that begins at this place
abbrev pub moved : {X : Type 0} → ℕ → Result X WordFault → Result X WordFault
moved from (Ok value) = Ok value
moved from (Err fault) = wrong_at (place_in from fault.at) fault.fault

-- the argument of a word of a line
abbrev pub argument_at : List ℕ → Span → Result Argument WordFault
argument_at line span = moved span.from (argument_read (word_at line span))

-- the arguments of words of a line
abbrev pub arguments_at : List ℕ → List Span → Result (List Argument) WordFault
arguments_at line [] = Ok []
arguments_at line (span ∷ spans) = and_then (argument_at line span)
    (λ argument. made (λ arguments. argument ∷ arguments) (arguments_at line spans))

-- where the first open bracket stands, with one more at this place
abbrev pub opened_from : Brackets → ℕ → ℕ
opened_from brackets place = if brackets.depth == 0 then place else brackets.opened

-- How many brackets are open after a word, where the first of them stands, and where a bracket
-- closes none.
abbrev pub opened_at : Brackets → ℕ → Brackets
opened_at brackets place = record brackets {
  depth = brackets.depth + 1;
  opened = opened_from brackets place;
}

abbrev pub first_of : Option ℕ → ℕ → ℕ
first_of (Some first) place = first
first_of None place = place

abbrev pub closed_at : Brackets → ℕ → Brackets
closed_at brackets place =
    if brackets.depth == 0
    then record brackets { closing = Some (first_of brackets.closing place) }
    else record brackets { depth = brackets.depth - 1 }

abbrev pub bracketed : Brackets → ℕ → List ℕ → Brackets
bracketed brackets place word =
    if bytes_eq word (codes "[") then opened_at brackets place else
    if bytes_eq word (codes "]") then closed_at brackets place else brackets

-- after words of a line
abbrev pub brackets_in : List ℕ → Brackets → List Span → Brackets
brackets_in line brackets [] = brackets
brackets_in line brackets (span ∷ spans) =
    brackets_in line (bracketed brackets span.from (word_at line span)) spans

abbrev pub unopened : Brackets
unopened = record { depth = 0; opened = 0; closing = None }

-- a bracket that closes none, or else the first that is never closed
abbrev pub fault_in : Brackets → Option ℕ → Option WordFault
fault_in brackets (Some place) = Some (fault_at place CloseBracket)
fault_in brackets None =
    if brackets.depth == 0 then None else Some (fault_at brackets.opened OpenBracket)

abbrev pub brackets_fault : List ℕ → List Span → Option WordFault
brackets_fault line spans =
    let after = brackets_in line unopened spans in fault_in after after.closing

abbrev pub unless : {X : Type 0} → Option WordFault → X → Result X WordFault
unless (Some fault) value = Err fault
unless None value = Ok value

-- the message of an address and the words of its arguments
abbrev pub message_at : List ℕ → List Span → List ℕ → Result (List ℕ) WordFault
message_at line spans address = and_then (arguments_at line spans)
    (λ arguments.
    unless (brackets_fault line spans) (message_text (known address arguments)))

-- the message of the words after a moment
abbrev pub words_say : List (List ℕ) → List ℕ → List Span → Result (List ℕ) WordFault
words_say methods line [] = wrong_at (length line) NoAddress
words_say methods line (span ∷ spans) =
    and_then (moved span.from (address_read methods (word_at line span)))
    (message_at line spans)
