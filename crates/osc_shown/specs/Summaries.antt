-- The lines before and after those of a whole recording.
use Rattle.std.specs.Prelude.{ℕ, ◌-◌, ◌/◌, ◌%◌, ◌==◌, Bool, ◌&&◌, if◌then◌else◌, List, [], ◌++◌}
use Rattle.std.specs.Prelude.{length, codes}
use Rattle.std.specs.Fmt.{decimal}
use Rattle.osc_shown.specs.declared.summary.Sums.{Sums}
use Rattle.osc_shown.specs.Numbers.{thousands}
use Rattle.osc_shown.specs.Tails.{comma}
use Rattle.osc_shown.specs.Times.{millis_of, seconds_text}

-- how many entries there are
abbrev pub entries_text : ℕ → List ℕ
entries_text number =
    if number == 1 then codes "1 entry" else thousands number ++ codes " entries"

-- how large a recording is
abbrev pub size_words : ℕ → List ℕ
size_words size = codes "-- a recording of " ++ thousands size ++ codes " bytes in "

-- how many entries it has, and what happens to late bundles
abbrev pub kept_words : ℕ → Bool → List ℕ
kept_words entries discards =
    entries_text entries ++ codes "; late bundles are "
    ++ (if discards then codes "discarded" else codes "performed")

-- what stands before the lines of a recording
abbrev pub opening_words : ℕ → ℕ → Bool → List ℕ
opening_words size entries discards = size_words size ++ kept_words entries discards

-- hours, if there are any
abbrev pub hours_part : ℕ → List ℕ
hours_part hours = if hours == 0 then [] else decimal hours ++ codes " h "

-- minutes, if there are any of them or of hours
abbrev pub minutes_part : ℕ → ℕ → List ℕ
minutes_part hours minutes =
    if hours == 0 && minutes == 0 then [] else decimal minutes ++ codes " min "

-- how long so many milliseconds are
abbrev pub lasting : ℕ → List ℕ
lasting millis =
    hours_part (millis / 3_600_000) ++ minutes_part (millis / 3_600_000) (millis / 60_000 % 60)
    ++ seconds_text (millis % 60_000)

-- a number of these
abbrev pub counted : ℕ → List ℕ → List ℕ
counted number one = thousands number ++ one ++ (if number == 1 then [] else codes "s")

-- with a number of these, after a comma where something stands before it, unless it is 0
abbrev pub with_some : List ℕ → ℕ → List ℕ → List ℕ
with_some before number what =
    if number == 0 then before else comma before ++ thousands number ++ what

-- what else there was
abbrev pub others : Sums → List ℕ
others sums =
    with_some (with_some (with_some (with_some [] sums.unheard (codes " called no method"))
    sums.discarded (codes " discarded")) sums.refused (codes " refused")) sums.waiting
    (codes " waiting")

-- it stands after a semicolon, if there is anything
abbrev pub after_semicolon : List ℕ → List ℕ
after_semicolon words = if length words == 0 then [] else codes "; " ++ words

-- how long a recording lasted
abbrev pub span_words : Sums → List ℕ
span_words sums = lasting (millis_of sums.last - millis_of sums.first) ++ codes ": "

-- how many messages were called, and how many calls they made
abbrev pub made_words : Sums → List ℕ
made_words sums =
    counted sums.messages (codes " message") ++ codes ", " ++ counted sums.calls (codes " call")

-- all of these, and what else there was
abbrev pub sums_words : Sums → List ℕ
sums_words sums = span_words sums ++ made_words sums ++ after_semicolon (others sums)

-- what stands after the lines of a recording
abbrev pub totals_words : Sums → List ℕ
totals_words sums = codes "-- " ++ sums_words sums

-- the same, where not all of its lines were shown
abbrev pub whole_totals_words : Sums → List ℕ
whole_totals_words sums = codes "-- of the whole recording, " ++ sums_words sums

-- what stands after them where it ends within the entry that begins at a byte
abbrev pub cut_words : ℕ → List ℕ
cut_words at = codes "-- cut off at byte " ++ thousands at ++ codes ": what stands above is whole"
