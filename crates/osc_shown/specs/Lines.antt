-- The lines of a unit.
use Rattle.std.specs.Prelude.{◌≡◌, ℕ, ◌==◌, Bool, true, false, if◌then◌else◌, List, [], ◌∷◌, ◌++◌}
use Rattle.std.specs.Prelude.{length, codes, Option, Some, None, is_some}
use Rattle.std.specs.List.{flat_map}
use Rattle.osc_message.specs.Reading.{pattern_of}
use Rattle.osc_message.specs.Arguments.{message_arguments, tags_of, unknown_of}
use Rattle.osc_packet.specs.Units.{TimedUnit}
use Rattle.osc_shown.specs.declared.answered.Answered.{Answered}
use Rattle.osc_shown.specs.declared.arrival.Arrival.{Arrival}
use Rattle.osc_shown.specs.declared.look.Look.{Look}
use Rattle.osc_shown.specs.declared.route.Route.{Route}
use Rattle.osc_shown.specs.Arguments.{AreWords}
use Rattle.osc_shown.specs.Columns.{line_text, is_left_out}
use Rattle.osc_shown.specs.Numbers.{thousands}
use Rattle.osc_shown.specs.Tails.{joined, from_words, wait_words, goes, due_mark, mark_of}
use Rattle.osc_shown.specs.Tails.{tail_of, waits}
use Rattle.osc_shown.specs.Texts.{shown_byte}
use Rattle.osc_shown.specs.Times.{IsDated}

-- What the lines of a unit say: how they look, when it came and from whom, what the server
-- answered, its time tag, and where methods send.
pub record Reported : Type 0 where
  pub look : Look
  pub arrival : Arrival
  pub answer : Answered
  pub tag : ℕ
  pub routes : List Route

-- the tags of a message, one of which is unknown, after a comma
abbrev pub tags_text : Option (List ℕ) → List ℕ
tags_text None = []
tags_text (Some tags) = codes " ," ++ flat_map shown_byte tags

-- The words of a message: its pattern, and a word for each argument, whole or cut where it is long,
-- or its tags where one is unknown.
pub record IsMessageText (whole : Bool) (message words : List ℕ) : Type 0 where
  pub said : List ℕ
  pub known : is_some (unknown_of message) ≡ false
      → AreWords whole (message_arguments message) said
  pub unknown : is_some (unknown_of message) ≡ true → said ≡ tags_text (tags_of message)
  pub text : words ≡ pattern_of message ++ said

-- how the messages of a unit are joined, by whether a message is the first and whether it is the
-- last: `{`, `|` .., `}`, and a space where there is one alone
abbrev pub join_of : Bool → Bool → ℕ
join_of true true = 32
join_of true false = 123
join_of false false = 124
join_of false true = 125

-- the mark of a message
abbrev pub mark_in : Reported → List ℕ → ℕ
mark_in report message = mark_of report.answer (due_mark message report.routes)

-- its tail
abbrev pub tail_in : Reported → List ℕ → List ℕ
tail_in report message =
    tail_of report.arrival report.answer report.tag (goes report.look.whole message report.routes)

-- the line of a message under a mark
abbrev pub IsMarkedLine : Reported → ℕ → ℕ → List ℕ → List ℕ → Type 0
IsMarkedLine report mark join message line =
    (words : List ℕ) × IsMessageText report.look.whole message words
    × (line ≡ line_text report.look report.arrival.moment mark join words (tail_in report message))

-- the line of a message, or nothing where it is left out
pub record IsMessageLine (report : Reported) (join : ℕ) (message line : List ℕ) : Type 0 where
  pub left : is_left_out report.look (mark_in report message) ≡ true → line ≡ []
  pub shown : is_left_out report.look (mark_in report message) ≡ false
      → IsMarkedLine report (mark_in report message) join message line

-- the lines of the messages that are left of a unit
abbrev pub AreMessageLines : Reported → Bool → List (List ℕ) → List ℕ → Type 0
AreMessageLines report first [] lines = lines ≡ []
AreMessageLines report first (message ∷ messages) lines =
    (one : List ℕ) × (others : List ℕ)
    × IsMessageLine report (join_of first (length messages == 0)) message one
    × AreMessageLines report false messages others × (lines ≡ one ++ others)

-- how many messages more a unit has
abbrev pub more_text : ℕ → List ℕ
more_text count = if count == 0 then [] else codes " and " ++ thousands count ++ codes " more"

-- what a unit that waits is shown as: its first message
abbrev pub IsUnitText : Bool → List (List ℕ) → List ℕ → Type 0
IsUnitText whole [] words = words ≡ codes "(no message)"
IsUnitText whole (message ∷ messages) words =
    (said : List ℕ) × IsMessageText whole message said
    × (words ≡ said ++ more_text (length messages))

-- the tail of a unit that waits: for when, how long from then on, and who has sent it
abbrev pub IsWaitingTail : Look → Arrival → ℕ → List ℕ → Type 0
IsWaitingTail look arrival tag tail =
    (due : List ℕ) × IsDated look.clock arrival.moment tag due
    × (tail ≡ joined (codes "for " ++ due ++ wait_words arrival.moment tag)
    (from_words arrival.sender))

-- the one line of a unit that waits
pub record IsWaitingLine (look : Look) (arrival : Arrival) (unit : TimedUnit) (line : List ℕ)
    : Type 0 where
  pub words : List ℕ
  pub tail : List ℕ
  pub said : IsUnitText look.whole unit.messages words
  pub waits : IsWaitingTail look arrival unit.tag tail
  pub text : line ≡ line_text look arrival.moment 126 32 words tail

-- the same, or nothing where it is left out
pub record IsWaiting (look : Look) (arrival : Arrival) (unit : TimedUnit) (line : List ℕ)
    : Type 0 where
  pub left : look.quiet ≡ true → line ≡ []
  pub shown : look.quiet ≡ false → IsWaitingLine look arrival unit line

-- the line of a unit that has no message, or nothing where it is left out
abbrev pub empty_line : Reported → List ℕ
empty_line report =
    if is_left_out report.look (mark_of report.answer 32) then []
    else line_text report.look report.arrival.moment (mark_of report.answer 32) 32
    (codes "(no message)") (tail_of report.arrival report.answer report.tag [])

-- the lines of a unit that doesn't wait: one for each message, or one where there is none
pub record AreEach (report : Reported) (messages : List (List ℕ)) (lines : List ℕ) : Type 0 where
  pub empty : (length messages == 0) ≡ true → lines ≡ empty_line report
  pub each : (length messages == 0) ≡ false → AreMessageLines report true messages lines

-- what the lines of a unit say
abbrev pub report_of : Look → Arrival → Answered → List Route → ℕ → Reported
report_of look arrival answer routes tag =
    record { look = look; arrival = arrival; answer = answer; tag = tag; routes = routes }

-- The lines of a unit, by what the server answered: one where it waits, else one for each message.
pub record AreUnitLines (look : Look) (arrival : Arrival) (answer : Answered) (routes : List Route)
    (unit : TimedUnit) (lines : List ℕ) : Type 0 where
  pub waiting : waits answer ≡ true → IsWaiting look arrival unit lines
  pub other : waits answer ≡ false
      → AreEach (report_of look arrival answer routes unit.tag) unit.messages lines

-- these were added
abbrev pub AddsUnit : Look → Arrival → Answered → List Route → TimedUnit → List ℕ → List ℕ → Type 0
AddsUnit look arrival answer routes unit before after =
    (lines : List ℕ) × AreUnitLines look arrival answer routes unit lines
    × (after ≡ before ++ lines)
