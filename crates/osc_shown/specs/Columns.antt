-- The columns of a line.
use Rattle.std.specs.Prelude.{ℕ, ◌-◌, ◌==◌, Bool, not, ◌&&◌, ◌||◌, nat_le, nat_lt, max}
use Rattle.std.specs.Prelude.{if◌then◌else◌, List, [], ◌∷◌, ◌++◌, length, take, filter, replicate}
use Rattle.std.specs.Prelude.{codes, Option, Some, None}
use Rattle.std.specs.Fmt.{decimal}
use Rattle.osc_shown.specs.declared.look.Look.{Look}
use Rattle.osc_shown.specs.declared.wall_clock.WallClock.{WallClock}
use Rattle.osc_shown.specs.Times.{millis_of, time_text, bare_seconds}

-- a byte that begins a character: all but those from 0x80 to 0xBF
abbrev pub begins_char : ℕ → Bool
begins_char byte = nat_lt byte 128 || nat_le 192 byte

-- how many characters bytes are
abbrev pub width : List ℕ → ℕ
width bytes = length (filter begins_char bytes)

-- as many spaces as stand before a tail at the most
abbrev pub spaces : List ℕ
spaces = replicate 48 32

-- spaces up to the 48th character, and at least two
abbrev pub gap : ℕ → List ℕ
gap width = take (max (48 - width) 2) spaces

-- the front of a line, and its tail from the 49th character on, if it has one
abbrev pub laid_out : List ℕ → List ℕ → List ℕ
laid_out front tail = if length tail == 0 then front else front ++ gap (width front) ++ tail

-- the colour of a mark: red, magenta, faint, or the terminal's own (ECMA-48, "SGR")
abbrev pub colour : ℕ → List ℕ
colour mark =
    if mark == 33 then codes "\u{1b}[31m" else
    if mark == 63 then codes "\u{1b}[35m" else
    if mark == 126 then codes "\u{1b}[2m" else []

-- the end of a colour
abbrev pub colour_end : ℕ → List ℕ
colour_end mark = if mark == 33 || mark == 63 || mark == 126 then codes "\u{1b}[0m" else []

-- the colour, where a line has colours
abbrev pub begun : Bool → ℕ → List ℕ
begun colours mark = if colours then colour mark else []

abbrev pub ended : Bool → ℕ → List ℕ
ended colours mark = if colours then colour_end mark else []

-- after spaces up to 12 characters
abbrev pub on_the_right : List ℕ → List ℕ
on_the_right text = take (12 - length text) spaces ++ text

-- how many seconds a moment is after another one, as `     300.125`
abbrev pub seconds_since : ℕ → ℕ → List ℕ
seconds_since since moment = on_the_right (bare_seconds (millis_of moment - millis_of since))

-- the time of day of a moment, or how many seconds it is after the one from which on they count
abbrev pub moment_text : Option ℕ → WallClock → ℕ → List ℕ
moment_text None clock moment = time_text clock moment
moment_text (Some since) clock moment = seconds_since since moment

-- the same, or dashes where there is no moment: 12 characters, or more where so many seconds are
abbrev pub when_text : Look → Option ℕ → List ℕ
when_text look None = codes "--:--:--.---"
when_text look (Some moment) = moment_text look.since look.clock moment

-- a caller after a space, if one is shown
abbrev pub caller_text : Option ℕ → List ℕ
caller_text None = []
caller_text (Some caller) = 32 ∷ decimal caller

-- the time, the caller if one is shown, a space, the mark, the join and a space: without a caller 16
-- characters
abbrev pub head_text : Look → Option ℕ → ℕ → ℕ → List ℕ
head_text look moment mark join =
    when_text look moment ++ caller_text look.caller ++ 32 ∷ mark ∷ join ∷ 32 ∷ []

-- a line with this front and tail, in the colour of its mark where lines have colours
abbrev pub painted : Bool → ℕ → List ℕ → List ℕ → List ℕ
painted colours mark front tail =
    begun colours mark ++ laid_out front tail ++ ended colours mark ++ codes "\n"

-- a line: its head, its words, without a caller from the 17th character on, and its tail
abbrev pub line_text : Look → Option ℕ → ℕ → ℕ → List ℕ → List ℕ → List ℕ
line_text look moment mark join words tail =
    painted look.colours mark (head_text look moment mark join ++ words) tail

-- where only some lines are shown, it is those with the marks `!` and `?`
abbrev pub is_left_out : Look → ℕ → Bool
is_left_out look mark = look.quiet && not (mark == 33) && not (mark == 63)
