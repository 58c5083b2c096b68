-- The rows of a picture, by marks.
use Rattle.std.specs.Prelude.{ℕ, ◌+◌, ◌*◌, ◌/◌, ◌==◌, ◌&&◌, not, min, max, Bool, true}
use Rattle.std.specs.Prelude.{false, nat_le, nat_lt, if◌then◌else◌, List, [], ◌∷◌, ◌++◌, map, take}
use Rattle.std.specs.Prelude.{insert, Option, Some, None, unwrap_or}
use Rattle.std.specs.List.{list_any, position_or_len}
use Rattle.std.specs.Str.{bytes_eq}
use Rattle.std.specs.Ordering.{is_lt, nat_cmp}
use Rattle.std.specs.Cmp.Lexicographic.{slice_cmp}
use Rattle.osc_picture.specs.declared.row.Call.{Call}
use Rattle.osc_picture.specs.declared.row.Row.{Row}
use Rattle.osc_picture.specs.declared.row.Sort.{Sort}
use Rattle.osc_picture.specs.declared.row.Sort.TheVariants.{Marks, Curve, Texts}
use Rattle.osc_picture.specs.declared.stay.Stay.{Stay}
use Rattle.osc_drawing.specs.declared.mark.Form.{Form}
use Rattle.osc_drawing.specs.declared.mark.Form.TheVariants.{Called, Unheard, Crossed, Waits}
use Rattle.osc_drawing.specs.declared.mark.Form.TheVariants.{Removed, Stands}
use Rattle.osc_drawing.specs.declared.mark.Mark.{Mark}
use Rattle.osc_drawing.specs.declared.mark.Owner.{Owner}
use Rattle.osc_drawing.specs.declared.mark.Owner.TheVariants as owner
use Rattle.osc_drawing.specs.declared.mark.Stamp.{Stamp}
use Rattle.osc_drawing.specs.declared.view.View.{View}
use Rattle.osc_drawing.specs.Numbers.{one_at, zero_at, number_words}

-- the milliseconds since the start of 1900, to the nearest
abbrev pub millis_of : ℕ → ℕ
millis_of moment = (moment * 1000 + 2_147_483_648) / 4_294_967_296

-- where something stands in a picture: which call it is, or when it was, at the begin or later
abbrev pub at_of : View → Stamp → ℕ
at_of view stamp =
    if view.frame.by_order then stamp.order else max (millis_of stamp.moment) view.begin

-- Until when something stands that stood at the end of its recording: until then, or on where that
-- is the end of the last one.
abbrev pub until_of : View → Stamp → Option ℕ
until_of view end =
    if end.moment == view.end.moment && end.order == view.end.order then None
    else Some (at_of view end)

-- whether that is within the picture
abbrev pub is_within : View → ℕ → Bool
is_within view at = nat_le view.frame.first at && nat_le at view.frame.last

-- whether a stay has something within it
abbrev pub ends_within : View → Option ℕ → Bool
ends_within view None = true
ends_within view (Some to) = nat_le view.frame.first to

abbrev pub meets : View → Stay → Bool
meets view stay = nat_le stay.from view.frame.last && ends_within view stay.to

-- What is drawn of an address: how its calls are drawn, when the method was there, its calls, the
-- numbers and the texts that they carried, what waited, was discarded or refused, and what called
-- nothing.
pub record Drawn : Type 0 where
  pub address : List ℕ
  pub sort : Sort
  pub lives : List Stay
  pub calls : List ℕ
  pub numbers : List Call
  pub low : ℕ × List ℕ
  pub high : ℕ × List ℕ
  pub texts : List (ℕ × List ℕ)
  pub waits : List Stay
  pub crosses : List ℕ
  pub unheard : List ℕ

-- the same of a row
abbrev pub drawn_of : Row → Drawn
drawn_of row = record {
  address = row.address;
  sort = row.sort;
  lives = row.lives.items;
  calls = row.calls.items;
  numbers = row.numbers.items;
  low = row.low;
  high = row.high;
  texts = row.texts.items;
  waits = row.waits.items;
  crosses = row.crosses.items;
  unheard = row.unheard.items;
}

-- an end of a range
abbrev pub bound_of : ℕ → ℕ × List ℕ
bound_of number = (number, number_words number)

-- nothing is drawn yet
abbrev pub blank : Sort → List ℕ → Drawn
blank sort address = record {
  address = address;
  sort = sort;
  lives = [];
  calls = [];
  numbers = [];
  low = bound_of zero_at;
  high = bound_of one_at;
  texts = [];
  waits = [];
  crosses = [];
  unheard = [];
}

-- one more, if it is within the picture
abbrev pub with_place : View → List ℕ → ℕ → List ℕ
with_place view places at = if is_within view at then places ++ at ∷ [] else places

-- one more stay
abbrev pub with_stay : View → List Stay → Stay → List Stay
with_stay view stays stay = if meets view stay then stays ++ stay ∷ [] else stays

-- one more wait, before the first of those that came later
abbrev pub is_later : Stay → Stay → Bool
is_later stay other = nat_lt stay.from other.from

abbrev pub with_wait : View → List Stay → Stay → List Stay
with_wait view waits stay =
    if meets view stay then insert waits (position_or_len (is_later stay) waits) stay else waits

-- one more number; of those before the picture begins the last one stays, at its begin
abbrev pub with_number : View → List Call → ℕ → ℕ → List Call
with_number view numbers at number =
    if nat_lt at view.frame.first
    then record { at = view.frame.first; number = number } ∷ []
    else if nat_le at view.frame.last
    then numbers ++ record { at = at; number = number } ∷ []
    else numbers

abbrev pub with_text : View → List (ℕ × List ℕ) → ℕ → List ℕ → List (ℕ × List ℕ)
with_text view texts at words = if is_within view at then texts ++ (at, words) ∷ [] else texts

-- what a call carried, as all calls of the row are drawn
abbrev pub with_carried : View → ℕ → Mark → Sort → Drawn → Drawn
with_carried view at mark Marks drawn = drawn
with_carried view at mark Curve drawn =
    record drawn { numbers = with_number view drawn.numbers at mark.carried.number }
with_carried view at mark Texts drawn =
    record drawn { texts = with_text view drawn.texts at mark.carried.words }

-- from when to when a message waited, where it did
abbrev pub with_waited : View → Option Stamp → Option ℕ → List Stay → List Stay
with_waited view None to waits = waits
with_waited view (Some came) to waits =
    with_wait view waits (record { from = at_of view came; to = to })

abbrev pub also_waited : View → Option Stamp → Option ℕ → Drawn → Drawn
also_waited view came to drawn =
    record drawn { waits = with_waited view came to drawn.waits }

-- from when to when a method was there
abbrev pub life_of : View → Mark → Option ℕ → Stay
life_of view mark to = record { from = at_of view (unwrap_or mark.came mark.at); to = to }

abbrev pub with_life : View → Stay → Drawn → Drawn
with_life view life drawn = record drawn { lives = with_stay view drawn.lives life }

abbrev pub with_call : View → ℕ → Drawn → Drawn
with_call view at drawn = record drawn { calls = with_place view drawn.calls at }

abbrev pub with_cross : View → ℕ → Drawn → Drawn
with_cross view at drawn = record drawn { crosses = with_place view drawn.crosses at }

abbrev pub with_unheard : View → ℕ → Drawn → Drawn
with_unheard view at drawn = record drawn { unheard = with_place view drawn.unheard at }

-- one more mark of the address
abbrev pub with_form : View → Mark → Form → Drawn → Drawn
with_form view mark Called drawn =
    also_waited view mark.came (Some (at_of view mark.at))
    (with_carried view (at_of view mark.at) mark drawn.sort
    (with_call view (at_of view mark.at) drawn))
with_form view mark Unheard drawn =
    also_waited view mark.came (Some (at_of view mark.at))
    (with_unheard view (at_of view mark.at) drawn)
with_form view mark Crossed drawn = with_cross view (at_of view mark.at) drawn
with_form view mark Waits drawn = also_waited view mark.came (until_of view mark.at) drawn
with_form view mark Removed drawn =
    with_life view (life_of view mark (Some (at_of view mark.at))) drawn
with_form view mark Stands drawn = with_life view (life_of view mark (until_of view mark.at)) drawn

-- one more mark, if it is of the address
abbrev pub with_own : View → Mark → Drawn → Drawn
with_own view mark drawn =
    if bytes_eq mark.address drawn.address then with_form view mark mark.form drawn else drawn

-- marks, one after another
abbrev pub with_marks : View → List Mark → Drawn → Drawn
with_marks view [] drawn = drawn
with_marks view (mark ∷ marks) drawn = with_marks view marks (with_own view mark drawn)

-- the least and the greatest number, and 0 and 1
abbrev pub least : ℕ → List Call → ℕ
least low [] = low
least low (call ∷ calls) = least (min low call.number) calls

abbrev pub most : ℕ → List Call → ℕ
most high [] = high
most high (call ∷ calls) = most (max high call.number) calls

abbrev pub with_range : Drawn → Drawn
with_range drawn =
    record drawn {
      low = bound_of (least zero_at drawn.numbers);
      high = bound_of (most one_at drawn.numbers);
    }

-- how all calls are drawn, with one that is drawn so
abbrev pub joined : Option Sort → Sort → Sort
joined None sort = sort
joined (Some Curve) Curve = Curve
joined (Some Texts) Texts = Texts
joined _ _ = Marks

abbrev pub is_call : Form → Bool
is_call Called = true
is_call _ = false

abbrev pub sort_with : Option Sort → Mark → List ℕ → Option Sort
sort_with before mark address =
    if is_call mark.form && bytes_eq mark.address address
    then Some (joined before mark.carried.sort) else before

abbrev pub sort_after : Option Sort → List ℕ → List Mark → Sort
sort_after before address [] = unwrap_or before Marks
sort_after before address (mark ∷ marks) =
    sort_after (sort_with before mark address) address marks

-- the row of an address
abbrev pub row_of : View → List Mark → List ℕ → Drawn
row_of view marks address =
    with_range (with_marks view marks (blank (sort_after None address marks) address))

abbrev pub rows_of : View → List Mark → List (List ℕ) → List Drawn
rows_of view marks addresses = map (row_of view marks) addresses

-- whether an address is one of some
abbrev pub is_among : List (List ℕ) → List ℕ → Bool
is_among addresses address = list_any (λ other. bytes_eq other address) addresses

-- whether an address is before another, by their bytes
abbrev pub is_before : List ℕ → List ℕ → Bool
is_before address other = is_lt (slice_cmp nat_cmp address other)

-- an address enters in the order of bytes, unless it is there
abbrev pub entered : List ℕ → List (List ℕ) → List (List ℕ)
entered address addresses =
    if is_among addresses address then addresses
    else insert addresses (position_or_len (is_before address) addresses) address

abbrev pub is_method : Owner → Bool
is_method owner.Method = true
is_method _ = false

abbrev pub is_pattern : Owner → Bool
is_pattern owner.Pattern = true
is_pattern _ = false

-- the addresses that have a row, after some
abbrev pub more_rows : List (List ℕ) → List Mark → List (List ℕ)
more_rows addresses [] = addresses
more_rows addresses (mark ∷ marks) =
    more_rows (if is_method mark.owner then entered mark.address addresses else addresses) marks

-- the patterns that have one, since they are none of these addresses
abbrev pub more_unheard : List (List ℕ) → List (List ℕ) → List Mark → List (List ℕ)
more_unheard rows patterns [] = patterns
more_unheard rows patterns (mark ∷ marks) =
    more_unheard rows (if is_pattern mark.owner && not (is_among rows mark.address)
    then entered mark.address patterns else patterns) marks

-- all of each, and those that are drawn
abbrev pub all_rows : List Mark → List (List ℕ)
all_rows marks = more_rows [] marks

abbrev pub all_unheard : List Mark → List (List ℕ)
all_unheard marks = more_unheard (all_rows marks) [] marks

abbrev pub most_rows : List (List ℕ) → List (List ℕ)
most_rows addresses = take 200 addresses
