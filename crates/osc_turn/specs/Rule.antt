-- The rule of the turn, which holds between any two steps.
-- Word 0 is the turn. Half of it is the number of entries in the history, and it is odd while a
-- pass holds the turn.
-- Word 1 is the number of passes that were made. The one slot has the value, and is empty while the
-- turn is held.
use Rattle.std.specs.Prelude.{◌≡◌, ◌≢◌, ℕ, ◌/◌, ◌%◌, ◌<◌, ◌≤◌, ◌⊎◌, true, false, List, [], ◌∷◌}
use Rattle.std.specs.Prelude.{length, slice_index, Option, Some}
use mathlib.Core.Option.{some, none}
use mathlib.Core.Option as maybe
use lib.ListN.{get_elem?}
use Rattle.atomic_table.specs.Table.{State}
use Rattle.osc_turn.specs.declared.limits.TheConstants.{MAX_PASSES}
use Rattle.osc_turn.specs.declared.view.Entry.{Entry}
use Rattle.osc_turn.specs.declared.view.Past.{Past}
use Rattle.osc_turn.specs.declared.view.View.{View}
use Rattle.osc_turn.specs.History.{StartsWith, entries_of, texts, own}
use Rattle.osc_turn.specs.Numbers.{weigh, weigh_below, times, total, numbers_of}

-- what the first pass knows of a turn whose value had these entries: all of them are its own, and
-- one pass was made
abbrev pub reopening : List ℕ → List (List ℕ) → View
reopening kind h =
    record {
      numbers = 0 ∷ [];
      spare = [];
      made = 1;
      seen = entries_of h;
      olds = [];
      words = [];
      taken = 0;
      holds = false;
      kind = kind;
      opened_at = length h;
    }

-- what the first pass knows of a turn whose value had no entries
abbrev pub opening : List ℕ → View
opening kind = reopening kind []

-- what is left of a view that was joined into another: nothing
abbrev pub spent : View
spent = record {
  numbers = [];
  spare = [];
  made = 0;
  seen = [];
  olds = [];
  words = [];
  taken = 0;
  holds = false;
  kind = [];
  opened_at = 0;
}

-- the number of a pass
abbrev pub number_of : View → ℕ
number_of v = slice_index v.numbers 0

-- what a pass knows between two calls: it has one number and does not hold the turn, and the first
-- pass alone knows how many were made
abbrev pub Rests : View → Type 0
Rests v = (v.numbers ≡ number_of v ∷ []) × (v.spare ≡ []) × (v.holds ≡ false)
    × (number_of v ≡ 0 → 0 < v.made)
    × (number_of v ≢ 0 → v.made ≡ 0)

-- of the numbers of the one, the other had seen no fewer own entries
abbrev pub Covers : Past → Past → Type 0
Covers a b = (n : ℕ) → 0 < times n a.numbers → StartsWith (own n a.seen) (own n b.seen)

-- what one view knows of the history, at these two words
pub record Fits (log : List Entry) (kind : List ℕ × ℕ) (turn drawn : ℕ) (v : View) : Type 0 where
  -- it has seen a beginning of the history, and all entries of its own
  pub seen : StartsWith log v.seen
  pub own_seen : (n : ℕ) → 0 < times n v.numbers → own n v.seen ≡ own n log
  -- a number that no pass has yet has no entries
  pub fresh : (n : ℕ) → 0 < times n v.spare → own n log ≡ []
  -- whoever holds the turn has one number and has seen all
  pub holder : v.holds ≡ true → (turn % 2 ≡ 1) × (v.seen ≡ log) × (v.numbers ≡ number_of v ∷ [])
      × (v.spare ≡ [])
  -- the two lists of its last join are beginnings of what it has seen, each with the own entries
  -- that came with the other
  pub olds : (k : ℕ) (a : Past) → get_elem? v.olds k ≡ some a → StartsWith v.seen a.seen
  pub covers : (k l : ℕ) (a b : Past) → get_elem? v.olds k ≡ some a → get_elem? v.olds l ≡ some b
      → Covers a b
  -- the view with the number 0 knows how many passes were made, and it alone draws numbers
  pub first : 0 < times 0 v.numbers → v.made ≡ drawn
  pub later : times 0 v.numbers ≡ 0 → (v.made ≡ 0) × (v.spare ≡ [])
  -- each view knows the value's kind, and how many entries the history had when the turn was opened
  pub alike : (v ≡ spent) ⊎ ((v.kind, v.opened_at) ≡ kind)

-- what holds of the value's slot and of all views, where this is the history, these are the two
-- words, and this seat holds the turn, if one does
pub record Standing {S : Type 0} (stands : S → List (List ℕ) → Type 0) (kind_of : S → List ℕ)
    (homes : List (maybe.Option (Option S))) (views : List View) (log : List Entry)
    (kind : List ℕ × ℕ) (holder turn drawn : ℕ) : Type 0 where
  pub counted : turn / 2 ≡ length log
  -- the value of a free turn stands for the history; the slot of a taken one is empty
  pub at_home : turn % 2 ≡ 0 → (x : S) × (homes ≡ some (Some x) ∷ []) × stands x (texts log)
      × (kind_of x ≡ kind.0)
  pub away : turn % 2 ≡ 1 → homes ≡ none ∷ []
  -- as many views hold the turn as the word modulo 2
  pub held : turn % 2 ≡ 1 → (v : View) × (get_elem? views holder ≡ some v) × (v.holds ≡ true)
  pub one_holder : (j : ℕ) (v : View) → get_elem? views j ≡ some v → v.holds ≡ true → j ≡ holder
  pub each_view : (j : ℕ) (v : View) → get_elem? views j ≡ some v → Fits log kind turn drawn v
  -- however numbers are weighed, those in the views weigh what those below word 1 do: each stands
  -- in one view, once
  pub numbered : (h : ℕ → ℕ) → total (λ v. weigh h (numbers_of v)) views ≡ weigh_below h drawn
  pub few : drawn ≤ MAX_PASSES
  -- entries are under numbers that were drawn
  pub named : (n : ℕ) → drawn ≤ n → own n log ≡ []

-- the rule of a turn whose value had these entries when the turn was opened: the history begins
-- with them, under the first pass's number
pub record Turns {S : Type 0} (stands : S → List (List ℕ) → Type 0) (kind_of : S → List ℕ)
    (opened : List (List ℕ)) (s : State (Option S) View) : Type 0 where
  pub log : List Entry
  pub kind : List ℕ × ℕ
  pub holder : ℕ
  pub two_words : length s.words ≡ 2
  pub begun : StartsWith log (entries_of opened)
  pub counted : kind.1 ≡ length opened
  pub standing : Standing stands kind_of s.homes s.views log kind holder (slice_index s.words 0)
      (slice_index s.words 1)
