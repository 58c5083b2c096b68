-- What happened to a message.
use Rattle.std.specs.Prelude.{ℕ, ◌==◌, Bool, true, false, if◌then◌else◌}
use Rattle.std.specs.Prelude.{List, [], ◌∷◌, ◌++◌, length, codes, Option, Some, None}
use Rattle.std.specs.Net.Text.{socket_v4_text}
use Rattle.std.specs.declared.net.socket_addr.SocketAddrV4.{SocketAddrV4}
use Rattle.osc_message.specs.Reading.{pattern_of}
use Rattle.osc_message.specs.Arguments.{unknown_of}
use Rattle.osc_shown.specs.declared.answered.Answered.{Answered}
use Rattle.osc_shown.specs.declared.answered.Answered.TheVariants.{Due, Late, Waiting, Discarded}
use Rattle.osc_shown.specs.declared.answered.Answered.TheVariants.{UnitsFull, PoolFull, RecordFull}
use Rattle.osc_shown.specs.declared.arrival.Arrival.{Arrival}
use Rattle.osc_shown.specs.declared.route.Route.{Route}
use Rattle.osc_shown.specs.Places.{hits, going}
use Rattle.osc_shown.specs.Texts.{shown_byte}
use Rattle.osc_shown.specs.Times.{span_text}

-- a comma after a part, if there is one
abbrev pub comma : List ℕ → List ℕ
comma part = if length part == 0 then part else part ++ codes ", "

-- two parts, and a comma between them where there are both
abbrev pub joined : List ℕ → List ℕ → List ℕ
joined part [] = part
joined part (byte ∷ more) = comma part ++ byte ∷ more

-- who has sent it
abbrev pub from_words : Option SocketAddrV4 → List ℕ
from_words None = []
from_words (Some sender) = codes "from " ++ socket_v4_text sender

-- how much later it came than its time tag says
abbrev pub late_words : Option ℕ → ℕ → List ℕ
late_words None tag = codes "late"
late_words (Some moment) tag = codes "late by " ++ span_text tag moment

-- how long it waits from then on
abbrev pub wait_words : Option ℕ → ℕ → List ℕ
wait_words None tag = []
wait_words (Some moment) tag = codes ", in " ++ span_text moment tag

-- a message with an unknown tag calls no method
abbrev pub unknown_words : ℕ → List ℕ
unknown_words tag = codes "unknown type " ++ shown_byte tag ++ codes ", so it calls nothing"

-- where a message goes, in a list that is whole or has the first addresses alone
abbrev pub goes_by : Bool → Option ℕ → List ℕ → List Route → List ℕ
goes_by whole None message routes =
    going whole (pattern_of message) (hits (pattern_of message) routes)
goes_by whole (Some tag) message routes = unknown_words tag

abbrev pub goes : Bool → List ℕ → List Route → List ℕ
goes whole message routes = goes_by whole (unknown_of message) message routes

-- the mark of a message that is called: `?` where it calls no method
abbrev pub called_mark : Option ℕ → ℕ → ℕ
called_mark (Some tag) count = 63
called_mark None count = if count == 0 then 63 else 32

abbrev pub due_mark : List ℕ → List Route → ℕ
due_mark message routes =
    called_mark (unknown_of message) (length (hits (pattern_of message) routes))

-- The mark by the answer, where this is that of a message that is called: `~` where it waits, `!`
-- where it is discarded or refused.
abbrev pub mark_of : Answered → ℕ → ℕ
mark_of Due called = called
mark_of Late called = called
mark_of Waiting called = 126
mark_of Discarded called = 33
mark_of UnitsFull called = 33
mark_of PoolFull called = 33
mark_of RecordFull called = 33

-- what happened to a message of a unit with this tag, which goes there where it is called
abbrev pub outcome : Answered → Option ℕ → ℕ → List ℕ → List ℕ
outcome Due moment tag there = there
outcome Late moment tag there = joined there (late_words moment tag)
outcome Waiting moment tag there = []
outcome Discarded moment tag there = codes "discarded, " ++ late_words moment tag
outcome UnitsFull moment tag there = codes "refused, the queue is full"
outcome PoolFull moment tag there = codes "refused, no room for its messages"
outcome RecordFull moment tag there = codes "refused, the recording is full"

-- the tail of a line: what happened to it, and who has sent it
abbrev pub tail_of : Arrival → Answered → ℕ → List ℕ → List ℕ
tail_of arrival answer tag there =
    joined (outcome answer arrival.moment tag there) (from_words arrival.sender)

-- the answer says that a unit waits
abbrev pub waits : Answered → Bool
waits Due = false
waits Late = false
waits Waiting = true
waits Discarded = false
waits UnitsFull = false
waits PoolFull = false
waits RecordFull = false
