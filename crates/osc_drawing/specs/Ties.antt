-- The bundles of a picture, by marks: those that called more than one row.
use Rattle.std.specs.Prelude.{ℕ, ◌+◌, ◌==◌, ◌&&◌, min, max, Bool, true, false, nat_lt}
use Rattle.std.specs.Prelude.{if◌then◌else◌, List, [], ◌∷◌, ◌++◌, length, Option, Some, None}
use Rattle.std.specs.Prelude.{position}
use Rattle.std.specs.Str.{bytes_eq}
use Rattle.osc_picture.specs.declared.bundle.Bundle.{Bundle}
use Rattle.osc_drawing.specs.declared.mark.Form.{Form}
use Rattle.osc_drawing.specs.declared.mark.Form.TheVariants.{Called, Unheard, Crossed, Waits}
use Rattle.osc_drawing.specs.declared.mark.Form.TheVariants.{Removed, Stands}
use Rattle.osc_drawing.specs.declared.mark.Mark.{Mark}
use Rattle.osc_drawing.specs.declared.tie.Tie.{Tie}
use Rattle.osc_drawing.specs.declared.view.View.{View}
use Rattle.osc_drawing.specs.Rows.{at_of, is_within}

-- whether a mark is a part of what a unit does at once
abbrev pub is_part : Form → Bool
is_part Called = true
is_part Unheard = true
is_part Crossed = true
is_part Waits = false
is_part Removed = false
is_part Stands = false

-- the place of an address
abbrev pub place_among : List (List ℕ) → List ℕ → Option ℕ
place_among addresses address = position (λ other. bytes_eq other address) addresses

abbrev pub or_after : Option ℕ → ℕ → Option ℕ → Option ℕ
or_after (Some place) count other = Some place
or_after None count None = None
or_after None count (Some place) = Some (count + place)

-- its place among the rows, and those of patterns after them
abbrev pub place_of : List (List ℕ) → List (List ℕ) → List ℕ → Option ℕ
place_of rows unheard address =
    or_after (place_among rows address) (length rows) (place_among unheard address)

-- the place of a mark that is a part of a bundle
abbrev pub part_place : View → List (List ℕ) → List (List ℕ) → Mark → Option ℕ
part_place view rows unheard mark =
    if is_part mark.form && is_within view (at_of view mark.at)
    then place_of rows unheard mark.address else None

-- no unit yet
abbrev pub no_tie : Tie
no_tie = record { order = 0; at = 0; count = 0; highest = 0; lowest = 0 }

-- the first row of a unit
abbrev pub new_tie : View → Mark → ℕ → Tie
new_tie view mark place = record {
  order = mark.at.order;
  at = at_of view mark.at;
  count = 1;
  highest = place;
  lowest = place;
}

-- one more
abbrev pub wider : Tie → ℕ → Tie
wider tie place =
    record tie {
      count = 2;
      highest = min tie.highest place;
      lowest = max tie.lowest place;
    }

-- the bundle of a unit that has more than one
abbrev pub bundle_of : Tie → List Bundle
bundle_of tie =
    if nat_lt 1 tie.count
    then record { at = tie.at; highest = tie.highest; lowest = tie.lowest } ∷ [] else []

-- whether a mark is of the same unit
abbrev pub is_same : Tie → Mark → Bool
is_same tie mark = nat_lt 0 tie.count && tie.order == mark.at.order

-- a mark at a place goes on with the unit, or begins the next one
abbrev pub tie_with : View → Tie → Mark → ℕ → Tie
tie_with view tie mark place =
    if is_same tie mark then wider tie place else new_tie view mark place

abbrev pub tie_after : View → Tie → Mark → Option ℕ → Tie
tie_after view tie mark None = tie
tie_after view tie mark (Some place) = tie_with view tie mark place

abbrev pub bundle_before : Tie → Mark → Option ℕ → List Bundle
bundle_before tie mark None = []
bundle_before tie mark (Some place) = if is_same tie mark then [] else bundle_of tie

-- the bundles of a unit and of marks after it
abbrev pub bundles_after : View → List (List ℕ) → List (List ℕ) → Tie → List Mark → List Bundle
bundles_after view rows unheard tie [] = bundle_of tie
bundles_after view rows unheard tie (mark ∷ marks) =
    bundle_before tie mark (part_place view rows unheard mark)
    ++ bundles_after view rows unheard
    (tie_after view tie mark (part_place view rows unheard mark)) marks

abbrev pub bundles_of : View → List (List ℕ) → List (List ℕ) → List Mark → List Bundle
bundles_of view rows unheard marks = bundles_after view rows unheard no_tie marks
