-- What is told of a wrong line: a line for its place and what is wrong, the line itself, and a
-- caret below the fault.
use Rattle.std.specs.Prelude.{ℕ, ◌+◌, ◌*◌, ◌/◌, ◌%◌, ◌^◌, ◌-◌, ◌==◌, Bool, min, ℤ, pos, ◌+ℤ◌}
use Rattle.std.specs.Prelude.{unsigned_abs, if◌then◌else◌, List, [], ◌∷◌, ◌++◌, length, take, drop}
use Rattle.std.specs.Prelude.{map, replicate, position, codes, Option, Some, None}
use Rattle.std.specs.List.{list_any}
use Rattle.std.specs.Char.{is_ascii_control}
use Rattle.std.specs.Fmt.{decimal}
use Rattle.osc_cues.specs.declared.fault.Fault.{Fault}
use Rattle.osc_cues.specs.declared.fault.Fault.TheVariants.{NotMoment, NotTime, ZoneAlone, NotDay}
use Rattle.osc_cues.specs.declared.fault.Fault.TheVariants.{EarlyDay, PastTags, BeforeLine, Gone}
use Rattle.osc_cues.specs.declared.fault.Fault.TheVariants.{NoTempo, NotBeat, TempoForm, NotTempo}
use Rattle.osc_cues.specs.declared.fault.Fault.TheVariants.{NotMeter, NoAddress, NotAddress}
use Rattle.osc_cues.specs.declared.fault.Fault.TheVariants.{EmptyName, AddressByte, OpenGroup}
use Rattle.osc_cues.specs.declared.fault.Fault.TheVariants.{NoMethod, NotNumber, LeadingZero}
use Rattle.osc_cues.specs.declared.fault.Fault.TheVariants.{LongInt, TooLong, LargeFloat}
use Rattle.osc_cues.specs.declared.fault.Fault.TheVariants.{LargeDouble, NotArgument, OpenText}
use Rattle.osc_cues.specs.declared.fault.Fault.TheVariants.{InnerQuote, QuotedEscape, PlainEscape}
use Rattle.osc_cues.specs.declared.fault.Fault.TheVariants.{PlainByte, ZeroByte, NotText}
use Rattle.osc_cues.specs.declared.fault.Fault.TheVariants.{NotWhole, NotBlob, NotEight}
use Rattle.osc_cues.specs.declared.fault.Fault.TheVariants.{NotSixteen, NotCharacter, NoType}
use Rattle.osc_cues.specs.declared.fault.Fault.TheVariants.{Comma, OpenBracket, CloseBracket}
use Rattle.osc_cues.specs.declared.fault.Fault.TheVariants.{LargeMoment}
use Rattle.osc_cues.specs.declared.wrong_line.WrongLine.{WrongLine}
use Rattle.osc_cues.specs.declared.advice.Cite.{Cite}
use Rattle.osc_cues.specs.declared.advice.Cite.TheVariants.{Nothing, Rest, Ten, Char, Letter}
use Rattle.osc_cues.specs.declared.advice.Cite.TheVariants.{Pointed}
use Rattle.osc_cues.specs.Words.{is_blank, begins_char}
use Rattle.osc_cues.specs.Guesses.{nearest}

-- Times.

-- the last two digits of a number
unfoldable pub two : ℕ → List ℕ
two number = (48 + number / 10 % 10) ∷ (48 + number % 10) ∷ []

-- the last three
unfoldable pub three : ℕ → List ℕ
three number = (48 + number / 100 % 10) ∷ (48 + number / 10 % 10) ∷ (48 + number % 10) ∷ []

-- the milliseconds of a time tag, to the nearest, by a clock that is so many seconds ahead of UTC,
-- from two days before 1900
unfoldable pub millis_of : ℤ → ℕ → ℕ
millis_of ahead tag =
    (tag * 1000 + 2 ^ 31) / 2 ^ 32 + unsigned_abs (ahead +ℤ pos 172_800) * 1000

-- seconds as a time of day, as `20:15:03`
abbrev pub clock_text : ℕ → List ℕ
clock_text seconds =
    two (seconds / 3600 % 24) ++ codes ":" ++ two (seconds / 60 % 60) ++ codes ":"
    ++ two (seconds % 60)

-- `20:15:03.300`
abbrev pub day_time : ℕ → List ℕ
day_time millis = clock_text (millis / 1000) ++ codes "." ++ three millis

abbrev pub time_text : ℤ → ℕ → List ℕ
time_text ahead tag = day_time (millis_of ahead tag)

-- Parts of a line.

-- a space in place of a tab, and a question mark in place of any other control character
abbrev pub shown : ℕ → ℕ
shown byte = if byte == 9 then 32 else if is_ascii_control byte then 63 else byte

-- what a line has from a place on
abbrev pub back : List ℕ → ℕ → List ℕ
back line at = drop (min at (length line)) line

abbrev pub front_or : List ℕ → Option ℕ → List ℕ
front_or text None = text
front_or text (Some place) = take place text

-- the rest of a word from a place on
abbrev pub word_from : List ℕ → ℕ → List ℕ
word_from line at = front_or (back line at) (position is_blank (back line at))

abbrev pub char_or : ℕ → List ℕ → Option ℕ → List ℕ
char_or first others None = first ∷ others
char_or first others (Some place) = first ∷ take place others

-- the first character of a text
abbrev pub char_of : List ℕ → List ℕ
char_of [] = []
char_of (first ∷ others) = char_or first others (position begins_char others)

-- a point in place of a comma
abbrev pub pointed : ℕ → ℕ
pointed byte = if byte == 44 then 46 else shown byte

-- a pattern has one of these bytes
abbrev pub is_pattern_byte : ℕ → Bool
is_pattern_byte byte = list_any (λ other. byte == other) (codes "?*[]{}")

-- Texts.

-- what stands before the word that is wrong
unfoldable pub before : Fault → List ℕ
before TempoForm = codes "a tempo is written as in: tempo 96 in 4 from 20:00:00"
before NoAddress = codes "an address is missing: it begins with a slash"
before EmptyName = codes "a slash has no name after it"
before AddressByte = codes "an address has no "
before LeadingZero = codes "a whole number has no zero before it"
before OpenText = codes "the text isn't closed by a double quote"
before InnerQuote = codes "a double quote within a text is written \\\""
before QuotedEscape = codes "after a backslash stands \", \\ or x and two hexadecimal digits"
before PlainEscape = codes "after a backslash stands x and two hexadecimal digits"
before PlainByte = codes "such a character stands in double quotes"
before ZeroByte = codes "a text holds no zero byte"
before NotBlob = codes "a blob is two hexadecimal digits for each byte"
before NotSixteen = codes "t: has 16 hexadecimal digits"
before NotCharacter = codes "c: has one character, or 8 hexadecimal digits"
before Comma = codes "a number has a point and no comma: "
before OpenBracket = codes "[ is never closed"
before CloseBracket = codes "] closes no bracket"
before LargeMoment = codes "the cues of this moment are more than the 65,504 bytes of a packet"
before _ = []

-- what stands after it
unfoldable pub after : Fault → List ℕ
after NotMoment = codes " is no moment: a moment is 20:00:00, +0.625, 1|1 or now"
after NotTime = codes " is no time of day: the last is 23:59:59"
after ZoneAlone = codes " has a zone and no date: write 2026-11-29T"
after NotDay = codes " is no day of the calendar"
after EarlyDay = codes " is before 1900-01-01T00:00:00Z, where time tags begin"
after PastTags = codes " is past 2036-02-07T06:28:15Z, where time tags end"
after (BeforeLine tag) = codes " is before the line before, which is at "
after (Gone tag) = codes " has gone by: it is "
after NoTempo =
    codes " is a bar and a beat, and no line `tempo 96 in 4 from 20:00:00` stands before it"
after (NotBeat meter) = codes " is no beat: bars count from 1, and the beats of a bar from 1 to "
after NotTempo = codes " is no tempo: it is a number of beats a minute, as 96 or 112.5"
after NotMeter = codes " is no number of beats in a bar"
after NotAddress = codes " is no address: an address begins with a slash"
after OpenGroup = codes " isn't closed before the next slash"
after NotNumber = codes " is no number: a number is 7, -7, 0.75 or 1e-3"
after LongInt = codes " is more than 32 bits: h:"
after TooLong = codes " is more than 64 bits"
after LargeFloat = codes " is too large for a float; d:"
after LargeDouble = codes " is too large for a double"
after NotArgument = codes " is no argument: a text stands in double quotes, \""
after NotText = codes " is no text: a text stands in double quotes"
after NotWhole = codes " is no whole number"
after NotEight = codes ": has 8 hexadecimal digits"
after NoType = codes ": is no type: the types are i h f d s S b c r m t"
after _ = []

-- what stands at the end
unfoldable pub end : Fault → List ℕ
end (Gone tag) = codes "; --skip leaves out what has gone by"
end LongInt = codes " has 64"
end LargeFloat = codes " is a double"
end NotArgument = codes "\""
end _ = []

-- what is cited of a line
abbrev pub cite_of : Fault → Cite
cite_of NotDay = Ten
cite_of TempoForm = Nothing
cite_of NoAddress = Nothing
cite_of EmptyName = Nothing
cite_of AddressByte = Char
cite_of OpenGroup = Char
cite_of LeadingZero = Nothing
cite_of OpenText = Nothing
cite_of InnerQuote = Nothing
cite_of QuotedEscape = Nothing
cite_of PlainEscape = Nothing
cite_of PlainByte = Nothing
cite_of ZeroByte = Nothing
cite_of NotBlob = Nothing
cite_of NotEight = Letter
cite_of NotSixteen = Nothing
cite_of NotCharacter = Nothing
cite_of NoType = Char
cite_of Comma = Pointed
cite_of OpenBracket = Nothing
cite_of CloseBracket = Nothing
cite_of LargeMoment = Nothing
cite_of _ = Rest

-- what is cited of a line whose fault is at this place
abbrev pub cited : Cite → List ℕ → ℕ → List ℕ
cited Nothing line at = []
cited Rest line at = map shown (word_from line at)
cited Ten line at = map shown (take 10 (word_from line at))
cited Char line at = map shown (char_of (word_from line at))
cited Letter line at = map shown (char_of (word_from line (at - 2)))
cited Pointed line at = map pointed (word_from line at)

-- what is told after that: a time, a number, or the word again
abbrev pub detail : ℤ → Fault → List ℕ → ℕ → List ℕ
detail ahead (BeforeLine tag) line at = time_text ahead tag
detail ahead (Gone tag) line at = time_text ahead tag
detail ahead (NotBeat meter) line at = decimal meter
detail ahead ZoneAlone line at = map shown (word_from line at)
detail ahead LongInt line at = map shown (word_from line at)
detail ahead LargeFloat line at = map shown (word_from line at)
detail ahead NotArgument line at = map shown (word_from line at)
detail ahead _ line at = []

abbrev pub meant_text : List ℕ → List ℕ
meant_text name = codes "; did you mean " ++ name ++ codes "?"

abbrev pub guess_text : Option (List ℕ) → List ℕ
guess_text None = []
guess_text (Some name) = meant_text name

-- what is told of an address that none of these methods answers
abbrev pub no_method : List (List ℕ) → List ℕ → List ℕ
no_method methods word =
    if list_any is_pattern_byte word
    then codes "the patch has no method that " ++ map shown word ++ codes " matches"
    else codes "the patch has no method " ++ map shown word ++ guess_text (nearest word methods)

abbrev pub plain_message : ℤ → Fault → List ℕ → ℕ → List ℕ
plain_message ahead fault line at =
    before fault ++ cited (cite_of fault) line at ++ after fault ++ detail ahead fault line at
    ++ end fault

-- what is wrong with a line
abbrev pub message_text : ℤ → List (List ℕ) → Fault → List ℕ → ℕ → List ℕ
message_text ahead methods NoMethod line at = no_method methods (word_from line at)
message_text ahead methods fault line at = plain_message ahead fault line at

-- `line 24, column 17: `
abbrev pub heading : ℕ → ℕ → List ℕ
heading line column =
    codes "line " ++ decimal line ++ codes ", column " ++ decimal column ++ codes ": "

-- a line by itself, and the spaces that begin the next
abbrev pub line_text : List ℕ → List ℕ
line_text text = codes "\n    " ++ map shown text ++ codes "\n    "

-- a caret at a column
abbrev pub caret : ℕ → List ℕ
caret column = replicate (column - 1) 32 ++ codes "^\n"

-- three lines: the place and what is wrong, the line, and a caret below the fault; by a clock that
-- is so many seconds ahead of UTC, where a patch has these methods
abbrev pub wrong_text : ℤ → List (List ℕ) → WrongLine → List ℕ
wrong_text ahead methods wrong =
    heading wrong.line wrong.column ++ message_text ahead methods wrong.fault wrong.text wrong.at
    ++ line_text wrong.text ++ caret wrong.column
