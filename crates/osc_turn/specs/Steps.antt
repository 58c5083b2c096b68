-- What each step on a word tells the pass that makes it.
use Rattle.std.specs.Prelude.{◌≡◌, ◌≢◌, ℕ, ◌+◌, ◌/◌, ◌<◌, ◌≤◌, max, nat_le, Bool, true, false}
use Rattle.std.specs.Prelude.{if◌then◌else◌, List, [], ◌∷◌, ◌++◌, length, Option, Some, MatchBool}
use mathlib.Core.Option.{some}
use lib.ListN.{get_elem?}
use Rattle.atomic_table.specs.Table.{Me}
use Rattle.osc_turn.specs.declared.limits.TheConstants.{MAX_PASSES}
use Rattle.osc_turn.specs.declared.view.Entry.{Entry}
use Rattle.osc_turn.specs.declared.view.Past.{Past}
use Rattle.osc_turn.specs.declared.view.View.{View}
use Rattle.osc_turn.specs.History.{StartsWith, entry, texts, own}
use Rattle.osc_turn.specs.Numbers.{times}
use Rattle.osc_turn.specs.Rule.{number_of, Covers}

-- the history goes on from what was seen, with no further own entry
abbrev pub Grows : View → List Entry → Type 0
Grows v log = StartsWith log v.seen × ((n : ℕ) → 0 < times n v.numbers → own n log ≡ own n v.seen)

-- the view after this word was found, where this was the history
abbrev pub found_at : View → List Entry → ℕ → View
found_at v log r = record v { seen = log; words = v.words ++ r ∷ [] }

-- the word r was found: the whole history is seen, which has half as many entries
abbrev pub Finds : View → ℕ → View → Type 0
Finds v r w = (w ≡ found_at v w.seen r) × Grows v w.seen × (length w.seen ≡ r / 2)

-- the view after the turn was taken
abbrev pub holding : View → List Entry → ℕ → View
holding v log r =
    record v { seen = log; words = v.words ++ r ∷ []; taken = v.taken + 1; holds = true }

-- the word r was found, and the turn was taken
abbrev pub Takes : View → ℕ → View → Type 0
Takes v r w = (w ≡ holding v w.seen r) × Grows v w.seen × (length w.seen ≡ r / 2)

-- the view after the turn was given back, where this is now the history
abbrev pub given : View → List Entry → View
given v log = record v { seen = log; holds = false }

-- the turn was given back, with an own entry or with none
abbrev pub Gives : View → Bool → View → Type 0
Gives v ran w =
    MatchBool ran ((text : List ℕ) × (w ≡ given v (v.seen ++ entry (number_of v) text ∷ [])))
    (w ≡ given v v.seen)

-- a view, and the slots that its seat holds
abbrev Sat : Type 0 → Type 0
Sat S = Me (Option S) View

module _ {S : Type 0} where
  abbrev pub Looks : Sat S → ℕ → Sat S → Type 0
  Looks m r m' = Finds m.0 r m'.0 × (m'.1 ≡ m.1)

  abbrev pub GivesBack : Sat S → Sat S → Type 0
  GivesBack m m' = (m'.0 ≡ given m.0 m.0.seen) × (m'.1 ≡ [])

  module _ (stands : S → List (List ℕ) → Type 0) (kind_of : S → List ℕ) where
    -- the seat has the value, which stands for what was seen
    abbrev pub Has : S → View → List (ℕ × Option S) → Type 0
    Has x v slots = (slots ≡ (0, Some x) ∷ []) × stands x (texts v.seen) × (kind_of x ≡ v.kind)

    -- the turn and the value were taken where this word was found
    abbrev pub Tries : ℕ → Sat S → ℕ → Sat S → Type 0
    Tries word m r m' = (r ≡ word → Takes m.0 r m'.0 × ((x : S) × Has x m'.0 m'.1))
        × (r ≢ word → Looks m r m')

    abbrev pub GivesEntry : Sat S → Sat S → Type 0
    GivesEntry m m' = (text : List ℕ)
        × (m'.0 ≡ given m.0 (m.0.seen ++ entry (number_of m.0) text ∷ [])) × (m'.1 ≡ [])
        × ((x : S) → m.1 ≡ (0, Some x) ∷ [] → stands x (texts m'.0.seen))

-- the lists of the last join begin what is seen now, and each has the own entries that came with
-- the other
abbrev pub Remembers : View → Type 0
Remembers v = ((k : ℕ) (a : Past) → get_elem? v.olds k ≡ some a → StartsWith v.seen a.seen)
    × ((k l : ℕ) (a b : Past) → get_elem? v.olds k ≡ some a → get_elem? v.olds l ≡ some b
    → Covers a b)

-- the view after a number was drawn
abbrev pub drew : View → ℕ → View
drew v n = record v { spare = n ∷ []; made = n + 1 }

module _ {S : Type 0} where
  -- the number of passes was read, and the first pass knew it
  abbrev pub Counts : Sat S → ℕ → Sat S → Type 0
  Counts m r m' = (m' ≡ m) × (0 < times 0 m.0.numbers → r ≡ m.0.made) × (r ≤ MAX_PASSES)
      × ((n : ℕ) → times n m.0.numbers ≤ 1) × Remembers m.0

  -- a number was drawn that no entry has
  abbrev pub Draws : Sat S → ℕ → Sat S → Type 0
  Draws m r m' = (r ≡ m.0.made) × (own r m.0.seen ≡ []) × (m' ≡ (drew m.0 r, m.1))

-- the two views after a split: the second one has seen the same, and gets the number that was
-- drawn, or none
abbrev pub kept_of : View → View
kept_of v = record v { spare = [] }

abbrev pub split_off : View → View
split_off v =
    record {
      numbers = v.spare;
      spare = [];
      made = 0;
      seen = v.seen;
      olds = [];
      words = [];
      taken = 0;
      holds = false;
      kind = v.kind;
      opened_at = v.opened_at;
    }

abbrev pub longer : List Entry → List Entry → List Entry
longer a b = if nat_le (length a) (length b) then b else a

abbrev pub past : View → Past
past v = record { numbers = v.numbers; seen = v.seen }

-- the view after another was joined into it: it has the numbers of both, has seen the longer list,
-- and knows which two lists these were
abbrev pub joined : View → View → View
joined v w =
    record v {
      numbers = v.numbers ++ w.numbers;
      made = max v.made w.made;
      seen = longer v.seen w.seen;
      olds = past v ∷ past w ∷ [];
    }
