-- Inside the servers (osc_core, osc_replay): calls of methods that are named by their ids.
use Rattle.std.specs.Prelude.{ℕ, List, [], unwrap_or}
use Rattle.osc_pattern.specs.Methods.{Method}
use Rattle.osc_tree.specs.Registry.{address_by_id}
use Rattle.osc_model.specs.Events.{Call}

-- the call of the method with an id, with the unit's message at an index
abbrev pub call_by : List Method → ℕ → List ℕ → ℕ → Call
call_by methods index message id =
    record {
      index = index;
      id = id;
      address = unwrap_or (address_by_id methods id) [];
      message = message;
    }
