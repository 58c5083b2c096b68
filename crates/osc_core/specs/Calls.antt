-- Inside the crate: calls by the ids of methods.
use Rattle.std.specs.Prelude.{ℕ, List, [], if◌then◌else◌, is_some}
use Rattle.osc_pattern.specs.Methods.{Method}
use Rattle.osc_message.specs.Reading.{pattern_of}
use Rattle.osc_message.specs.Arguments.{unknown_of}
use Rattle.osc_tree.specs.Matching.{matching_ids}
use Rattle.osc_method.specs.declared.call.Call.{Call as CodeCall}
use Rattle.osc_model.specs.Events.{Hit, Invocation}
use Rattle.osc_model.specs.Calls.{call_by}

-- the invocation that a call makes of the method with an id
abbrev pub invocation_by : List Method → CodeCall → ℕ → Invocation
invocation_by methods call id =
    record { unit = call.unit; call = call_by methods call.index call.message id }

-- the ids of the methods that a message invokes
abbrev pub invoked_ids : List Method → List ℕ → List ℕ
invoked_ids methods message = if is_some (unknown_of message) then []
    else matching_ids (pattern_of message) methods

-- the hit of an invocation
abbrev pub hit_by : Invocation → Hit
hit_by invocation = record { index = invocation.call.index; id = invocation.call.id }
