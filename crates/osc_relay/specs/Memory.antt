-- What an outlet in memory holds, and which of its sends fail.
use Rattle.std.specs.Prelude.{ℕ, List}
use Rattle.osc_relay.specs.declared.memory_outlet.MemoryOutlet.{MemoryOutlet}
use Rattle.osc_edge.specs.Calls.{CallsToCome}

-- the datagrams that were sent since the reset
abbrev pub memory_datagrams : MemoryOutlet → List (List ℕ)
memory_datagrams outlet = outlet.sent.items

-- how many sends were made, and which fail
abbrev pub outlet_calls : MemoryOutlet → CallsToCome
outlet_calls outlet = record { made = outlet.made; fails = outlet.fails.items }
