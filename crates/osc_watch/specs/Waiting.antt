-- The changes that are noted and not published.
use Rattle.std.specs.Prelude.{List, [], ◌∷◌, map, Option, Some, None}
use Rattle.osc_watch.specs.declared.row.Edit.{Edit}
use Rattle.osc_watch.specs.declared.reached.Change.{Change}
use Rattle.osc_watch.specs.declared.reached.Reached.{Reached}
use Rattle.osc_watch.specs.Listing.{edit_of}

-- the change that is held, if there is one
abbrev pub held_list : Option Change → List Change
held_list None = []
held_list (Some change) = change ∷ []

-- their edits
abbrev pub edits_in : List Change → List Edit
edits_in changes = map (λ change. edit_of change.edit) changes

-- what is reached by the last of them
abbrev pub newest : Reached → List Change → Reached
newest reached [] = reached
newest reached (change ∷ changes) = newest change.reached changes
