-- What callers see of a pass and of its turn.
use Rattle.std.specs.Prelude.{◌≡◌, ◌+◌, false, [], ◌∷◌, slice_index_or}
use Rattle.osc_turn.specs.declared.pass.Pass.{Pass}
use Rattle.osc_turn.specs.declared.view.View.{View}
use Rattle.osc_turn.specs.declared.turn.Turn.{Turn}
use Rattle.osc_turn.specs.Rule.{spent}
use Rattle.osc_turn.specs.Steps.{longer, past}

-- what the pass knows
abbrev pub view : Pass → View
view p = slice_index_or p.badge.views 0 spent

-- the value as it was when the turn was opened
abbrev pub opened_with : {S : Type 0} → Turn S → S
opened_with turn = turn.table.shared.key.value.0

-- the pass is one of this turn's, and knows how many entries its history had when it was opened
abbrev pub IsPassOf : {S : Type 0} → Turn S → Pass → Type 0
IsPassOf turn p = (p.badge.table_id ≡ turn.table.shared.table_id)
    × ((view p).opened_at ≡ turn.table.shared.key.value.1)

-- the first pass once it has made another
abbrev pub one_more : View → View
one_more v = record v { made = v.made + 1 }

-- a guest: it has the next number, has seen what its maker has seen, and has done nothing yet
abbrev pub guest_of : View → View
guest_of v =
    record {
      numbers = v.made ∷ [];
      spare = [];
      made = 0;
      seen = v.seen;
      olds = [];
      words = [];
      taken = 0;
      holds = false;
      kind = v.kind;
      opened_at = v.opened_at;
    }

-- a pass that was told what another has seen: it has seen the longer of both lists, and is
-- otherwise as it was
abbrev pub met_by : View → View → View
met_by v w =
    record v {
      seen = longer v.seen w.seen;
      olds = past v ∷ record { numbers = []; seen = w.seen } ∷ [];
    }
