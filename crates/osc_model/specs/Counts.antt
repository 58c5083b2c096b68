-- How much of a server's tables is in use.
use Rattle.std.specs.Prelude.{ℕ, ◌+◌, ◌-◌, List, [], ◌∷◌, length}
use Rattle.osc_packet.specs.Units.{blocks}
use Rattle.osc_model.specs.State.{State, Queued}

-- the blocks that queued units take
abbrev pub queued_blocks : List Queued → ℕ
queued_blocks [] = 0
queued_blocks (unit ∷ units) = blocks unit.2 + queued_blocks units

-- how many more units may be queued
abbrev pub free_places : State → ℕ
free_places state = state.caps.units - length state.queue

-- how many blocks are free
abbrev pub free_blocks : State → ℕ
free_blocks state = state.caps.blocks - queued_blocks state.queue

-- how many bytes are left for entries
abbrev pub free_bytes : State → ℕ
free_bytes state = state.caps.recording - state.recorded
