-- What a sheet says, line by line.
use Rattle.osc_cues.specs.declared.limits.TheConstants.{MAX_SHEET, ROOM}
use Rattle.std.specs.Prelude.{ℕ, ◌+◌, ◌-◌, ◌*◌, ◌==◌, ◌&&◌, Bool, not, nat_le, nat_lt}
use Rattle.std.specs.Prelude.{if◌then◌else◌, List, [], ◌∷◌, ◌++◌, length, codes, bytes_eq}
use Rattle.std.specs.Prelude.{Option, Some, None, option_and_then, Result, Ok, Err}
use Rattle.std.specs.Prelude.{IfSome, IfOk, unwrap_or, slice_get, is_none}
use Rattle.osc_packet.specs.Bundling.{IsSpelled}
use Rattle.osc_cues.specs.declared.fault.Fault.{Fault}
use Rattle.osc_cues.specs.declared.fault.Fault.TheVariants.{TempoForm, NotTempo, NotMeter}
use Rattle.osc_cues.specs.declared.fault.Fault.TheVariants.{BeforeLine, Gone, LargeMoment}
use Rattle.osc_cues.specs.declared.fault.WordFault.{WordFault}
use Rattle.osc_cues.specs.declared.setting.Setting.{Setting}
use Rattle.osc_cues.specs.declared.setting.Tempo.{Tempo}
use Rattle.osc_cues.specs.declared.scan.Span.{Span}
use Rattle.osc_cues.specs.declared.cue.Cue.{Cue}
use Rattle.osc_cues.specs.declared.wrong_line.WrongLine.{WrongLine}
use Rattle.osc_cues.specs.declared.wrong_line.SheetError.{SheetError}
use Rattle.osc_cues.specs.declared.wrong_line.SheetError.TheVariants.{TooLong, Lines}
use Rattle.osc_cues.specs.declared.said.Said.{Said}
use Rattle.osc_cues.specs.declared.said.Said.TheVariants.{Nothing, Counted, Cued}
use Rattle.osc_cues.specs.declared.draft.Draft.{Draft}
use Rattle.osc_cues.specs.Faults.{wrong_at, made}
use Rattle.osc_cues.specs.Numbers.{has_zero_first}
use Rattle.osc_cues.specs.Cuts.{number_cut, fraction_cut}
use Rattle.osc_cues.specs.Moments.{moment_read, moment_at, tag_of, IsMoment, IsTempo}
use Rattle.osc_cues.specs.Words.{lines_of, without_return, spans_of, word_at, column_of}
use Rattle.osc_cues.specs.Cues.{and_then, words_say}
use Rattle.osc_cues.specs.Plans.{Plan}

-- Tempos.

-- a thousandth of a beat a minute at least, where nothing follows
abbrev pub pace_of : ℕ → ℕ → List ℕ → Option ℕ
pace_of whole part rest =
    if length rest == 0 && nat_lt 0 (whole * 1000 + part) then Some (whole * 1000 + part)
    else None

-- beats a minute, as `96` or `112.5`, in thousandths
abbrev pub pace_read : List ℕ → Option ℕ
pace_read word =
    option_and_then (λ whole.
    option_and_then (λ part. pace_of whole.0 part.0 part.1) (fraction_cut 3 whole.1))
    (number_cut 3 word)

-- at least one, and no zero before it, where nothing follows
abbrev pub meter_of : ℕ → List ℕ → List ℕ → Option ℕ
meter_of number word rest =
    if length rest == 0 && nat_lt 0 number && nat_lt number 100 && not (has_zero_first word)
    then Some number else None

-- the beats of a bar, from 1 to 99
abbrev pub meter_read : List ℕ → Option ℕ
meter_read word = option_and_then (λ cut. meter_of cut.0 word cut.1) (number_cut 2 word)

-- a fault at a word that isn't read
abbrev pub or_wrong : {X : Type 0} → ℕ → Fault → Option X → Result X WordFault
or_wrong at fault (Some value) = Ok value
or_wrong at fault None = wrong_at at fault

-- a fault of a whole word
abbrev pub at_word : {X : Type 0} → ℕ → Result X Fault → Result X WordFault
at_word at (Ok value) = Ok value
at_word at (Err fault) = wrong_at at fault

-- the moment of a word of a line
abbrev pub moment_in : Setting → Draft → List ℕ → Span → Result ℕ WordFault
moment_in setting draft line span =
    at_word span.from (moment_read setting draft.before draft.tempo (word_at line span))

abbrev pub pace_at : List ℕ → Span → Result ℕ WordFault
pace_at line span = or_wrong span.from NotTempo (pace_read (word_at line span))

abbrev pub meter_at : List ℕ → Span → Result ℕ WordFault
meter_at line span = or_wrong span.from NotMeter (meter_read (word_at line span))

-- a tempo of the words of its parts
abbrev pub tempo_of : Setting → Draft → List ℕ → Span → Span → Span → Result Tempo WordFault
tempo_of setting draft line first second third =
    and_then (pace_at line first) (λ pace.
    and_then (meter_at line second) (λ meter.
    made (λ origin. record { origin = origin; pace = pace; meter = meter })
    (moment_in setting draft line third)))

-- the word at a place is this
abbrev pub is_word : List ℕ → Span → List ℕ → Bool
is_word line span word = bytes_eq (word_at line span) word

-- the word at a place among these, or else the first of its line
abbrev pub span_at : Span → List Span → ℕ → Span
span_at first spans place = unwrap_or (slice_get spans place) first

-- the words after `tempo` are `N in M from MOMENT`
abbrev pub is_tempo_form : List ℕ → Span → List Span → Bool
is_tempo_form line first spans =
    length spans == 5 && is_word line (span_at first spans 1) (codes "in")
    && is_word line (span_at first spans 3) (codes "from")

-- `tempo 96 in 4 from 20:00:00`; any other form is a fault of the last word
abbrev pub tempo_says : Setting → Draft → List ℕ → Span → List Span → Result Tempo WordFault
tempo_says setting draft line first spans =
    if is_tempo_form line first spans
    then tempo_of setting draft line (span_at first spans 0) (span_at first spans 2)
    (span_at first spans 4)
    else wrong_at (span_at first spans (length spans - 1)).from TempoForm

-- Cues.

abbrev pub order_fault : Option ℕ → ℕ → Option Fault
order_fault None moment = None
order_fault (Some before) moment =
    if nat_lt moment before then Some (BeforeLine (tag_of before)) else None

-- the time tag before which a cue has gone by: now, or that before which cues are left out
abbrev pub least_of : Setting → ℕ
least_of setting = unwrap_or setting.skip setting.now

abbrev pub has_gone : Setting → ℕ → Bool
has_gone setting moment = nat_lt moment (moment_at (least_of setting))

abbrev pub gone_fault : Setting → ℕ → Option Fault
gone_fault setting moment =
    if has_gone setting moment && is_none setting.skip then Some (Gone setting.now) else None

abbrev pub or_fault : Option Fault → Option Fault → Option Fault
or_fault (Some fault) other = Some fault
or_fault None other = other

-- what is wrong with a moment after the line before: it is before that, or has gone by
abbrev pub time_fault : Setting → Option ℕ → ℕ → Option Fault
time_fault setting before moment =
    or_fault (order_fault before moment) (gone_fault setting moment)

-- the message of the words after a moment, unless something is wrong with that
abbrev pub message_unless : Option Fault → List (List ℕ) → List ℕ → Span → List Span
    → Result (List ℕ) WordFault
message_unless (Some fault) methods line first spans = wrong_at first.from fault
message_unless None methods line first spans = words_say methods line spans

-- a moment and the message then, or what is wrong with it
abbrev pub cue_says : List (List ℕ) → Setting → Draft → List ℕ → Span → List Span
    → Result Said WordFault
cue_says methods setting draft line first spans =
    made (λ moment. Cued moment
    (message_unless (time_fault setting draft.before moment) methods line first spans))
    (moment_in setting draft line first)

-- what words say
abbrev pub spans_say : List (List ℕ) → Setting → Draft → List ℕ → List Span
    → Result Said WordFault
spans_say methods setting draft line [] = Ok Nothing
spans_say methods setting draft line (first ∷ spans) =
    if is_word line first (codes "tempo")
    then made (λ tempo. Counted tempo) (tempo_says setting draft line first spans)
    else cue_says methods setting draft line first spans

-- what a line says
abbrev pub line_says : List (List ℕ) → Setting → Draft → List ℕ → Result Said WordFault
line_says methods setting draft line =
    and_then (spans_of line) (λ spans. spans_say methods setting draft line spans)

-- Sheets.

abbrev pub wrong_line : ℕ → List ℕ → WordFault → WrongLine
wrong_line number line wrong =
    record {
      line = number;
      column = column_of line wrong.at;
      at = wrong.at;
      fault = wrong.fault;
      text = line;
    }

-- the next wrong line
abbrev pub with_wrong : Draft → ℕ → List ℕ → WordFault → Draft
with_wrong draft number line wrong =
    record draft { wrong = draft.wrong ++ wrong_line number line wrong ∷ [] }

-- how many bytes the cues of a moment may still have, each with its size before it
abbrev pub room_at : Draft → ℕ → ℕ
room_at draft tag = if draft.last == tag then draft.room else ROOM

-- the next cue
abbrev pub with_cue : Draft → ℕ → List ℕ → Draft
with_cue draft tag message = record draft {
  last = tag;
  room = room_at draft tag - (length message + 4);
  cues = draft.cues ++ record { tag = tag; message = message } ∷ [];
}

-- a cue, if there is room for it
abbrev pub entered : Draft → ℕ → List ℕ → ℕ → List ℕ → Draft
entered draft number line tag message =
    if nat_le (length message + 4) (room_at draft tag) then with_cue draft tag message
    else with_wrong draft number line (record { at = 0; fault = LargeMoment })

-- a cue at a moment; one that has gone by is left out
abbrev pub settled : Setting → Draft → ℕ → List ℕ → ℕ → Result (List ℕ) WordFault → Draft
settled setting draft number line moment (Err wrong) = with_wrong draft number line wrong
settled setting draft number line moment (Ok message) =
    if has_gone setting moment then draft
    else entered draft number line (tag_of moment) message

-- after a line that says this
abbrev pub after_said : Setting → Draft → ℕ → List ℕ → Result Said WordFault → Draft
after_said setting draft number line (Err wrong) = with_wrong draft number line wrong
after_said setting draft number line (Ok Nothing) = draft
after_said setting draft number line (Ok (Counted tempo)) =
    record draft { tempo = Some tempo; first = Some (unwrap_or draft.first tempo) }
after_said setting draft number line (Ok (Cued moment message)) =
    settled setting (record draft { before = Some moment }) number line moment message

-- after a line
abbrev pub after_line : List (List ℕ) → Setting → Draft → ℕ → List ℕ → Draft
after_line methods setting draft number line =
    after_said setting draft number line (line_says methods setting draft line)

-- after lines, counted from a number on
abbrev pub read_from : List (List ℕ) → Setting → ℕ → Draft → List (List ℕ) → Draft
read_from methods setting number draft [] = draft
read_from methods setting number draft (text ∷ texts) =
    read_from methods setting (number + 1)
    (after_line methods setting draft number (without_return text)) texts

-- nothing
abbrev pub unread : Draft
unread =
    record {
      before = None;
      tempo = None;
      first = None;
      last = 0;
      room = ROOM;
      cues = [];
      wrong = [];
    }

-- the sheet, or all wrong lines
abbrev pub outcome : Plan → List WrongLine → Result Plan SheetError
outcome plan [] = Ok plan
outcome plan (line ∷ lines) = Err (Lines (line ∷ lines))

abbrev pub outcome_of : Draft → Result Plan SheetError
outcome_of draft = outcome (record { cues = draft.cues; tempo = draft.first }) draft.wrong

-- the cues of a sheet and its first tempo, or why it isn't read
abbrev pub sheet_of : List (List ℕ) → Setting → List ℕ → Result Plan SheetError
sheet_of methods setting bytes =
    if nat_lt MAX_SHEET (length bytes) then Err TooLong
    else outcome_of (read_from methods setting 1 unread (lines_of bytes))

-- what is kept of the lines so far: moments that have time tags
pub record IsReading (draft : Draft) : Type 0 where
  pub before : IfSome draft.before IsMoment
  pub tempo : IfSome draft.tempo IsTempo
  pub first : IfSome draft.first IsTempo

abbrev pub IsSaid : Said → Type 0
IsSaid Nothing = Unit {0}
IsSaid (Counted tempo) = IsTempo tempo
IsSaid (Cued moment message) = IsMoment moment × IfOk message IsSpelled
