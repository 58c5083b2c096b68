-- What the kinds in memory hold, and which of their calls fail.
use Rattle.std.specs.Prelude.{◌≡◌, ℕ, min, false, IsTrue, if◌then◌else◌, List, [], ◌∷◌, length}
use Rattle.std.specs.Prelude.{drop, get_or, Option, Some, None}
use Rattle.osc_edge.specs.declared.memory_source.MemorySource.{MemorySource}
use Rattle.osc_edge.specs.declared.memory_sink.MemorySink.{MemorySink}
use Rattle.osc_edge.specs.declared.memory_link.MemoryLink.{MemoryLink}
use Rattle.osc_edge.specs.declared.memory_clock.MemoryClock.{MemoryClock}
use Rattle.osc_edge.specs.declared.steady.SteadySource.{SteadySource}
use Rattle.osc_edge.specs.declared.steady.SteadySink.{SteadySink}
use Rattle.osc_edge.specs.declared.source.Taken.{Taken}
use Rattle.osc_edge.specs.declared.source.Taken.TheVariants.{Bytes, Failed}
use Rattle.osc_edge.specs.declared.sink.Put.{Put}
use Rattle.osc_edge.specs.declared.sink.Put.TheVariants.{Took, NoMemory, Failed as FailedToTake}
use Rattle.osc_edge.specs.declared.link.Datagram.{Datagram}
use Rattle.osc_edge.specs.declared.link.Datagram.TheVariants.{Got, Quiet, End}
use Rattle.osc_edge.specs.declared.link.Datagram.TheVariants.{Failed as FailedToGet}
use Rattle.osc_edge.specs.declared.clock.Moment.{Moment}
use Rattle.osc_edge.specs.declared.clock.Moment.TheVariants.{At, Failed as FailedToTell}
use Rattle.osc_edge.specs.Calls.{CallsToCome, fails_next}

-- the bytes that a source has left
abbrev pub source_bytes : MemorySource → List ℕ
source_bytes source = drop source.at source.bytes.items

-- the calls of a source
abbrev pub source_calls : MemorySource → CallsToCome
source_calls source = source.calls

-- a call that fails gives nothing; any other gives all that is left and has room, at most 4,096
-- bytes
abbrev pub taken_of : CallsToCome → List ℕ → List ℕ → Taken
taken_of calls left into = if fails_next calls then Failed
    else Bytes (min 4096 (min (length left) (length into)))

-- the bytes that a sink holds
abbrev pub memory_bytes : MemorySink → List ℕ
memory_bytes sink = sink.bytes.items

-- the calls of a sink
abbrev pub sink_calls : MemorySink → CallsToCome
sink_calls sink = sink.calls

-- a call that fails takes nothing; any other takes the piece, at most 4,096 bytes of it, or finds
-- no memory
abbrev pub PutIs : CallsToCome → List ℕ → Put → Type 0
PutIs calls piece (Took count) = (fails_next calls ≡ false) × (count ≡ min 4096 (length piece))
PutIs calls piece FailedToTake = IsTrue (fails_next calls)
PutIs calls piece NoMemory = fails_next calls ≡ false

-- the bytes that a steady source has left
abbrev pub steady_left : SteadySource → List ℕ
steady_left source = drop source.at source.bytes.items

-- the bytes that a steady sink holds
abbrev pub steady_bytes : SteadySink → List ℕ
steady_bytes sink = sink.bytes.items

-- a steady sink takes the whole piece, or finds no memory
abbrev pub IsWholeOrNoMemory : List ℕ → Put → Type 0
IsWholeOrNoMemory piece (Took count) = count ≡ length piece
IsWholeOrNoMemory piece FailedToTake = ⊥
IsWholeOrNoMemory piece NoMemory = Unit {0}

-- the turns that a link has left
abbrev pub link_turns : MemoryLink → List (Option (List ℕ))
link_turns link = drop link.at link.turns.items

-- the calls of a link
abbrev pub link_calls : MemoryLink → CallsToCome
link_calls link = link.calls

-- the answer to the first of the turns, or the end
abbrev pub turn_answer : List (Option (List ℕ)) → Datagram
turn_answer [] = End
turn_answer (None ∷ turns) = Quiet
turn_answer (Some datagram ∷ turns) = Got (length datagram)

-- a call that fails gives nothing; any other gives the first of the turns left
abbrev pub datagram_of : CallsToCome → List (Option (List ℕ)) → Datagram
datagram_of calls left = if fails_next calls then FailedToGet else turn_answer left

-- the moments that a clock has left
abbrev pub clock_moments : MemoryClock → List ℕ
clock_moments clock = drop clock.at clock.moments.items

-- the calls of a clock
abbrev pub clock_calls : MemoryClock → CallsToCome
clock_calls clock = clock.calls

-- a call that fails gives nothing; any other gives the first of the moments left
abbrev pub moment_of : CallsToCome → List ℕ → Moment
moment_of calls left = if fails_next calls then FailedToTell else At (get_or left 0 0)
