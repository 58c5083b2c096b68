-- What a server is between two events.
use Rattle.std.specs.Prelude.{ℕ, ◌<◌, List, []}
use Rattle.std.specs.List.{AllByRecursion}
use Rattle.osc_packet.specs.Units.{TimedUnit}
use Rattle.osc_pattern.specs.Methods.{Method}
use Rattle.osc_queue.specs.Timed.{Item, unit_of}
use Rattle.osc_tree.specs.Registry.{Registry}
use Rattle.osc_model.specs.Limits.{Limits, header_size}

-- a queued unit: the moment from which it is due, its number, and its effective tag and messages
abbrev pub Queued : Type 0
Queued = Item TimedUnit

-- each unit has a number below this one
abbrev pub AreNumbered : ℕ → List Queued → Type 0
AreNumbered next queue = AllByRecursion (λ unit. unit_of unit < next) queue

-- the methods in the order of adding, the units in the order of their release, and how many bytes
-- are recorded
pub record State : Type 0 where
  pub caps : Limits
  pub methods : List Method
  pub queue : List Queued
  pub clock : ℕ
  pub next_id : ℕ
  pub next_unit : ℕ
  pub callers : ℕ
  pub recorded : ℕ

-- a server that has just opened: no methods, no units, its clock at 1, one caller, and the bytes of
-- the header
abbrev pub opening : Limits → State
opening caps =
    record {
      caps = caps;
      methods = [];
      queue = [];
      clock = 1;
      next_id = 0;
      next_unit = 0;
      callers = 1;
      recorded = header_size;
    }

-- the methods, with their limits
abbrev pub registry : State → Registry
registry state =
    record {
      methods = state.methods;
      method_limit = state.caps.methods;
      node_limit = state.caps.nodes;
    }
