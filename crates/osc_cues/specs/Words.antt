-- The lines of a sheet, and the words of a line.
use Rattle.std.specs.Prelude.{ℕ, ◌+◌, ◌-◌, ◌==◌, ◌||◌, Bool, nat_eq, nat_lt, nat_le, min, filter}
use Rattle.std.specs.Prelude.{if◌then◌else◌, List, [], ◌∷◌, ◌++◌, length, take, drop, Result, Ok}
use Rattle.std.specs.List.{slice_split, starts_with, ends_with}
use Rattle.osc_cues.specs.declared.fault.Fault.TheVariants.{OpenText}
use Rattle.osc_cues.specs.declared.fault.WordFault.{WordFault}
use Rattle.osc_cues.specs.declared.scan.Mode.{Mode}
use Rattle.osc_cues.specs.declared.scan.Mode.TheVariants.{Between, Letter, Colon, Plain, Quoted}
use Rattle.osc_cues.specs.declared.scan.Mode.TheVariants.{Escaped, Comment}
use Rattle.osc_cues.specs.declared.scan.Span.{Span}
use Rattle.osc_cues.specs.declared.scan.Scan.{Scan}
use Rattle.osc_cues.specs.Faults.{wrong_at}

abbrev pub is_line_feed : ℕ → Bool
is_line_feed byte = byte == 10

-- without the three bytes that may mark its start as UTF-8
abbrev pub without_mark : List ℕ → List ℕ
without_mark bytes =
    if starts_with nat_eq bytes (239 ∷ 187 ∷ 191 ∷ []) then drop 3 bytes else bytes

-- the lines of a sheet: what stands between its line feeds
abbrev pub lines_of : List ℕ → List (List ℕ)
lines_of bytes = slice_split is_line_feed (without_mark bytes)

-- a line without the one carriage return that may stand at its end
abbrev pub without_return : List ℕ → List ℕ
without_return line = if ends_with nat_eq line (13 ∷ []) then take (length line - 1) line else line

-- a space or a tab
abbrev pub is_blank : ℕ → Bool
is_blank byte = byte == 32 || byte == 9

-- a byte of a word's front: a quote, a letter that a colon and a quote may follow, or any other
abbrev pub front_mode : ℕ → Mode
front_mode byte =
    if byte == 34 then Quoted else if byte == 115 || byte == 83 then Letter else Plain

-- a byte after such a letter
abbrev pub letter_mode : ℕ → Mode
letter_mode byte = if byte == 58 then Colon else Plain

-- a byte between quotes
abbrev pub quoted_mode : ℕ → Mode
quoted_mode byte = if byte == 34 then Plain else if byte == 92 then Escaped else Quoted

abbrev pub in_mode : Scan → Mode → Scan
in_mode scan mode = record scan { mode = mode }

-- a word begins at this place
abbrev pub begun_at : Scan → ℕ → ℕ → Scan
begun_at scan place byte =
    record scan { mode = front_mode byte; begun = place; opened = place }

-- a word ends before this place
abbrev pub ended_at : Scan → ℕ → Scan
ended_at scan place =
    record scan {
      mode = Between;
      spans = scan.spans ++ record { from = scan.begun; to = place } ∷ [];
    }

-- a byte between words
abbrev pub between : Scan → ℕ → ℕ → Scan
between scan place byte =
    if is_blank byte then scan else
    if byte == 35 then in_mode scan Comment else begun_at scan place byte

-- a byte of a word, outside quotes, and the mode after it
abbrev pub in_word : Scan → ℕ → ℕ → Mode → Scan
in_word scan place byte mode =
    if is_blank byte then ended_at scan place else in_mode scan mode

-- a byte after `s:` or `S:`
abbrev pub after_colon : Scan → ℕ → ℕ → Scan
after_colon scan place byte =
    if byte == 34 then record scan { mode = Quoted; opened = place }
    else in_word scan place byte Plain

-- a byte at a place, in a mode
abbrev pub step : Mode → Scan → ℕ → ℕ → Scan
step Between scan place byte = between scan place byte
step Letter scan place byte = in_word scan place byte (letter_mode byte)
step Colon scan place byte = after_colon scan place byte
step Plain scan place byte = in_word scan place byte Plain
step Quoted scan place byte = in_mode scan (quoted_mode byte)
step Escaped scan place byte = in_mode scan Quoted
step Comment scan place byte = scan

-- bytes from a place on
abbrev pub scanned : ℕ → Scan → List ℕ → Scan
scanned place scan [] = scan
scanned place scan (byte ∷ bytes) = scanned (place + 1) (step scan.mode scan place byte) bytes

abbrev pub unscanned : Scan
unscanned = record { mode = Between; begun = 0; opened = 0; spans = [] }

-- the words of a line that ends at this place; a text that isn't closed is a fault
abbrev pub finished : Mode → Scan → ℕ → Result (List Span) WordFault
finished Between scan end = Ok scan.spans
finished Comment scan end = Ok scan.spans
finished Quoted scan end = wrong_at scan.opened OpenText
finished Escaped scan end = wrong_at scan.opened OpenText
finished Letter scan end = Ok (ended_at scan end).spans
finished Colon scan end = Ok (ended_at scan end).spans
finished Plain scan end = Ok (ended_at scan end).spans

abbrev pub finished_at : Scan → ℕ → Result (List Span) WordFault
finished_at scan end = finished scan.mode scan end

-- the words of a line, by their places, before a comment
abbrev pub spans_of : List ℕ → Result (List Span) WordFault
spans_of line = finished_at (scanned 0 unscanned line) (length line)

-- the word at a place
abbrev pub end_of : List ℕ → Span → ℕ
end_of line span = min span.to (length line)

abbrev pub start_of : List ℕ → Span → ℕ
start_of line span = min span.from (end_of line span)

abbrev pub word_at : List ℕ → Span → List ℕ
word_at line span = take (end_of line span - start_of line span) (drop (start_of line span) line)

-- a byte that begins a character: all but those from 0x80 to 0xBF
abbrev pub begins_char : ℕ → Bool
begins_char byte = nat_lt byte 128 || nat_le 192 byte

-- the column of a place, counted from 1 in characters
abbrev pub column_of : List ℕ → ℕ → ℕ
column_of line at = length (filter begins_char (take at line)) + 1
