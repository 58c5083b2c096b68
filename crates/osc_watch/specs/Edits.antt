-- The edits of the list of methods that a history makes.
use Rattle.std.specs.Prelude.{true, false, List, Option, Some, None}
use Rattle.std.specs.List.{filter_map}
use Rattle.osc_model.specs.Events.{Entry, Event, Answer, add, remove, added, removed}
use Rattle.osc_watch.specs.declared.row.Edit.{Edit}

-- the edit that an event with this answer makes, if it makes one: the method that is added enters,
-- and the one that is removed leaves
abbrev pub edit_by : Event → Answer → Option Edit
edit_by (add address) (added id) = Some (record { id = id; address = address; enters = true })
edit_by (remove address) (removed id) =
    Some (record { id = id; address = address; enters = false })
edit_by _ _ = None

-- the edits of a history, in order
abbrev pub edits_of : List Entry → List Edit
edits_of history = filter_map (λ entry. edit_by entry.event entry.answer) history
