-- What is marked after all entries: what waits, and the methods that are there.
use Rattle.std.specs.Prelude.{List, [], ◌∷◌, ◌++◌, Some, unwrap_or}
use Rattle.osc_pattern.specs.Methods.{Method}
use Rattle.osc_queue.specs.Timed.{Item, unit_of}
use Rattle.osc_story.specs.Standings.{Standing, Handed}
use Rattle.osc_drawing.specs.declared.arrival.Arrival.{Arrival}
use Rattle.osc_drawing.specs.declared.mark.Draft.{Draft}
use Rattle.osc_drawing.specs.declared.mark.Form.TheVariants.{Waits, Stands}
use Rattle.osc_drawing.specs.declared.mark.Mark.{Mark}
use Rattle.osc_drawing.specs.declared.mark.Owner.TheVariants as owner
use Rattle.osc_drawing.specs.declared.mark.Stamp.{Stamp}
use Rattle.osc_drawing.specs.Gatherings.{Gathered, drafted}
use Rattle.osc_drawing.specs.Marks.{mark_of, all_targets, arrival_of}

-- a unit waits since it came, or since the end
abbrev pub waiting_draft : Stamp → List Arrival → Item Handed → Draft
waiting_draft end came item =
    drafted Waits (Some (unwrap_or (arrival_of (unit_of item) came) end)) end

-- marks of the messages that wait
abbrev pub waiting_marks : Stamp → List Arrival → List Method → List (Item Handed) → List Mark
waiting_marks end came methods [] = []
waiting_marks end came methods (item ∷ items) =
    all_targets (waiting_draft end came item) methods item.2.unit.messages
    ++ waiting_marks end came methods items

-- a method is there since it came
abbrev pub standing_draft : Stamp → List Arrival → Method → Draft
standing_draft end came method = drafted Stands (arrival_of method.id came) end

-- marks of the methods that are there
abbrev pub standing_marks : Stamp → List Arrival → List Method → List Mark
standing_marks end came [] = []
standing_marks end came (method ∷ methods) =
    mark_of (standing_draft end came method) owner.Neither method.address
    ∷ standing_marks end came methods

-- with both
abbrev pub with_end : Stamp → Standing → Gathered → Gathered
with_end end standing gathered =
    record gathered {
      marks = (gathered.marks
          ++ waiting_marks end gathered.units standing.methods standing.waiting)
          ++ standing_marks end gathered.methods standing.methods;
    }
