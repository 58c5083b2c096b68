-- The words above a picture.
use Rattle.std.specs.Prelude.{◌≡◌, ℕ, ◌+◌, ◌-◌, ◌%◌, ◌==◌, not, ◌&&◌, Bool, true, false, nat_lt}
use Rattle.std.specs.Prelude.{if◌then◌else◌, List, [], ◌∷◌, ◌++◌, length, take, drop, codes, Option}
use Rattle.std.specs.Prelude.{Some, None, unwrap_or}
use Rattle.std.specs.List.{flat_map, position_or_len}
use Rattle.osc_queue.specs.Timed.{Item}
use Rattle.osc_shown.specs.declared.summary.Sums.{Sums}
use Rattle.osc_shown.specs.declared.wall_clock.WallClock.{WallClock}
use Rattle.osc_shown.specs.Numbers.{thousands}
use Rattle.osc_shown.specs.Summaries.{lasting, made_words, after_semicolon, others}
use Rattle.osc_shown.specs.Times.{millis_of, IsDate, day_of, weekday_text, zone_text, time_text}
use Rattle.osc_story.specs.Standings.{Handed}
use Rattle.osc_story.specs.Totals.{more}
use Rattle.osc_drawing.specs.declared.heading.Heading.{Heading}
use Rattle.osc_drawing.specs.declared.mark.Mark.{Mark}
use Rattle.osc_drawing.specs.declared.mark.Owner.{Owner}
use Rattle.osc_drawing.specs.declared.mark.Owner.TheVariants as owner
use Rattle.osc_drawing.specs.Pictures.{is_in_order}
use Rattle.osc_drawing.specs.Rows.{all_rows, all_unheard, entered, is_among}
use Rattle.osc_drawing.specs.Sketches.{Sketched, totals_of}

-- how many messages wait, and so many more
abbrev pub more_waiting : ℕ → List (Item Handed) → ℕ
more_waiting count [] = count
more_waiting count (item ∷ items) = more_waiting (more count (length item.2.unit.messages)) items

-- the first moment after a tick, or where the clock stands
abbrev pub first_of : Sketched → ℕ
first_of sketch = unwrap_or sketch.first sketch.standing.clock

-- how much was told
abbrev pub sums_in : Sketched → Sums
sums_in sketch = record {
  first = first_of sketch;
  last = sketch.standing.clock;
  messages = (totals_of sketch).messages;
  calls = (totals_of sketch).calls;
  unheard = (totals_of sketch).unheard;
  discarded = (totals_of sketch).discarded;
  refused = (totals_of sketch).refused;
  waiting = more_waiting 0 sketch.standing.waiting;
}

abbrev pub sums_words : Sums → List ℕ
sums_words sums =
    (lasting (millis_of sums.last - millis_of sums.first) ++ codes ": ") ++ made_words sums
    ++ after_semicolon (others sums)

abbrev pub is_byte : ℕ → ℕ → Bool
is_byte wanted byte = byte == wanted

-- the words after the first of a byte, and a space
abbrev pub words_after : ℕ → List ℕ → List ℕ
words_after wanted words = drop (position_or_len (is_byte wanted) words + 2) words

-- how long it lasted stands before a colon, and is left out where calls stand in their order
abbrev pub told_words : Bool → List ℕ → List ℕ
told_words in_order words = if in_order then words_after 58 words else words

-- words as lines: those before and after a semicolon, if there is one
abbrev pub halves : List ℕ → List (List ℕ)
halves words =
    if nat_lt (position_or_len (is_byte 59) words) (length words)
    then take (position_or_len (is_byte 59) words) words ∷ words_after 59 words ∷ []
    else words ∷ []

abbrev pub sums_of : Sketched → List (List ℕ)
sums_of sketch = halves (told_words (is_in_order sketch) (sums_words (sums_in sketch)))

-- where a recording is cut off
abbrev pub cut_words : ℕ → List ℕ
cut_words at = codes "the recording is cut off at byte " ++ thousands at

abbrev pub cut_note : Option ℕ → List (List ℕ)
cut_note None = []
cut_note (Some at) = cut_words at ∷ []

-- how many addresses have no row, since only 200 of a kind have
abbrev pub left_out : List (List ℕ) → List (List ℕ) → ℕ
left_out rows unheard = more (length rows - 200) (length unheard - 200)

abbrev pub left_out_words : ℕ → List ℕ
left_out_words count = thousands count ++ codes " addresses more aren't drawn"

abbrev pub left_out_note : ℕ → List (List ℕ)
left_out_note count = if count == 0 then [] else left_out_words count ∷ []

-- the methods that are there and have no row
abbrev pub is_neither : Owner → Bool
is_neither owner.Neither = true
is_neither _ = false

abbrev pub more_never : List (List ℕ) → List (List ℕ) → List Mark → List (List ℕ)
more_never rows never [] = never
more_never rows never (mark ∷ marks) =
    more_never rows (if is_neither mark.owner && not (is_among rows mark.address)
    then entered mark.address never else never) marks

abbrev pub all_never : List Mark → List (List ℕ)
all_never marks = more_never (all_rows marks) [] marks

-- addresses with a comma between them
abbrev pub after_comma : List ℕ → List ℕ
after_comma address = codes ", " ++ address

abbrev pub listed : List (List ℕ) → List ℕ
listed [] = []
listed (first ∷ others) = first ++ flat_map after_comma others

abbrev pub others_words : ℕ → List ℕ
others_words count =
    if nat_lt 4 count then codes " and " ++ thousands (count - 4) ++ codes " more" else []

-- the first four of them, and how many more there are
abbrev pub never_note : List (List ℕ) → List (List ℕ)
never_note never =
    if length never == 0 then []
    else (codes "never called: " ++ listed (take 4 never) ++ others_words (length never)) ∷ []

abbrev pub notes_of : List Mark → Option ℕ → List (List ℕ)
notes_of marks cut =
    cut_note cut ++ left_out_note (left_out (all_rows marks) (all_unheard marks))
    ++ never_note (all_never marks)

-- the day and the zone, and from when to when it goes
pub record IsTitle (clock : WallClock) (first last : ℕ) (title : List ℕ) : Type 0 where
  pub date : List ℕ
  pub dated : IsDate clock first date
  pub is : title ≡ (weekday_text (day_of clock first % 7) ++ codes " " ++ date ++ codes ", "
      ++ zone_text clock) ++ codes ", " ++ take 8 (time_text clock first) ++ codes " to "
      ++ take 8 (time_text clock last)

-- the title of a sketch
pub record IsTitleOf (clock : WallClock) (sketch : Sketched) (title : List ℕ) : Type 0 where
  pub in_order : is_in_order sketch ≡ true
      → title ≡ codes "In order: the clock doesn't move"
  pub timed : is_in_order sketch ≡ false
      → IsTitle clock (first_of sketch) sketch.standing.clock title

-- the words above the picture of a sketch, of a recording that is cut at a place
pub record IsHeading (clock : WallClock) (sketch : Sketched) (cut : Option ℕ) (heading : Heading)
    : Type 0 where
  pub title : IsTitleOf clock sketch heading.title
  pub sums : heading.sums.items ≡ sums_of sketch
  pub notes : heading.notes.items ≡ notes_of sketch.gathered.marks cut
