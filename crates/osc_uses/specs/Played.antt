-- What caller 0 plays on a server.
use Rattle.std.specs.Prelude.{List, [], ◌∷◌}
use Rattle.osc_model.specs.Limits.{Limits}
use Rattle.osc_model.specs.Events.{Event}
use Rattle.osc_model.specs.History.{Performance, onward}

-- a server that has just opened
abbrev pub opened : Limits → Performance
opened caps = record { caps = caps; history = [] }

-- a performance goes on by events of caller 0, one after another
unfoldable pub played : Performance → List Event → Performance
played performance [] = performance
played performance (event ∷ events) = played (onward performance 0 event) events
