-- Parts whose lists are read once for all names: what their items match, and that they stand for a
-- part.
use Rattle.std.specs.Prelude.{◌≡◌, ℕ, ◌+◌, ◌*◌, ◌≤◌, ◌/◌, ◌%◌, Bool, true, false, ◌==◌, not}
use Rattle.std.specs.Prelude.{if◌then◌else◌, List, [], ◌∷◌, length, take, get_or}
use Rattle.std.specs.Int.{bit_at}
use Rattle.std.specs.List.{list_any}
use Rattle.osc_pattern.specs.declared.bytes.ByteSet.{ByteSet}
use Rattle.osc_pattern.specs.declared.limits.TheConstants.{MOST_READY}
use Rattle.osc_pattern.specs.declared.ready.Ready.{Ready}
use Rattle.osc_pattern.specs.declared.ready.Ready.TheVariants.{Set, Many, Other}
use Rattle.osc_pattern.specs.declared.ready.ReadyPart.{ReadyPart}
use Rattle.osc_pattern.specs.declared.ready.Part.{Part}
use Rattle.osc_pattern.specs.Items.{item_text}
use Rattle.osc_pattern.specs.Cuts.{after_item}
use Rattle.osc_pattern.specs.Reading.{match_part}
use Rattle.osc_pattern.specs.Repeats.{after_times}
use Rattle.osc_pattern.specs.Views.{item_of}

-- whether the byte is one of the set
abbrev pub is_one_of : ByteSet → ℕ → Bool
is_one_of bytes byte = bit_at (get_or bytes.words (byte / 64) 0) (byte % 64) == 1

-- whether the byte is one of the set, or whether it is none of them
abbrev pub is_as : ByteSet → Bool → ℕ → Bool
is_as bytes true byte = is_one_of bytes byte
is_as bytes false byte = not (is_one_of bytes byte)

-- what is left of a name after a first byte that passes the test
abbrev pub after_one : (ℕ → Bool) → List ℕ → List (List ℕ)
after_one test [] = []
after_one test (byte ∷ name) = if test byte then name ∷ [] else []

-- what is left of a name after a text of an item that was made ready
abbrev pub after_ready : Ready → List ℕ → List (List ℕ)
after_ready (Set set) name = after_one (is_as set.bytes set.within) name
after_ready (Many many) name = after_times many.times many.unit.now name
after_ready (Other item) name = after_item (item_of item) name

-- whether the items match a name, and the text after them
abbrev pub match_ready : List Ready → List ℕ → List ℕ → Bool
match_ready [] rest name = match_part rest name
match_ready (item ∷ items) rest name = list_any (match_ready items rest) (after_ready item name)

-- how many bytes of a part an item takes at least
abbrev pub ready_size : Ready → ℕ
ready_size (Set set) = 1
ready_size (Many many) = many.times * length many.unit.now
ready_size (Other item) = length (item_text (item_of item))

abbrev pub all_ready_size : List Ready → ℕ
all_ready_size [] = 0
all_ready_size (item ∷ items) = ready_size item + all_ready_size items

-- the items and the text after them stand for a part, and aren't longer
pub record IsReady (items : List Ready) (rest part : List ℕ) : Type 0 where
  pub same : (name : List ℕ) → match_ready items rest name ≡ match_part part name
  pub size : all_ready_size items + length rest ≤ length part

-- the part stands for the text
abbrev pub StandsFor : Part → List ℕ → Type 0
StandsFor part text = IsReady part.items.now part.rest.now text

-- what was made ready of a text has room, and stands for it
pub record IsReadOf (ready : ReadyPart) (text : List ℕ) : Type 0 where
  pub few : ready.count ≤ MOST_READY
  pub stands : IsReady (take ready.count ready.items) ready.rest.now text
