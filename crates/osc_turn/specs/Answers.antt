-- What a call says of its pass, where `v` is what the pass knew before and `w` what it knows then.
use Rattle.std.specs.Prelude.{◌≡◌, ◌⊎◌, ℕ, ◌+◌, ◌/◌, ◌%◌, ◌<◌, Bool, if◌then◌else◌, List, [], ◌∷◌}
use Rattle.std.specs.Prelude.{◌++◌, length, MatchBool, ⊤}
use Rattle.osc_turn.specs.declared.tried.Tried.{Tried}
use Rattle.osc_turn.specs.declared.tried.Tried.TheVariants.{Done, Busy}
use Rattle.osc_turn.specs.declared.view.Entry.{Entry}
use Rattle.osc_turn.specs.declared.view.View.{View}
use Rattle.osc_turn.specs.History.{StartsWith, entry, texts, own}
use Rattle.osc_turn.specs.Rule.{number_of}

-- the fact holds where the job was run
abbrev pub IfDone : Tried → (Bool → Type 0) → Type 0
IfDone (Done ran) P = P ran
IfDone (Busy found) P = ⊤

-- the fact holds where the turn was another's
abbrev pub IfBusy : Tried → (ℕ → Type 0) → Type 0
IfBusy (Done ran) P = ⊤
IfBusy (Busy found) P = P found

-- the call took the turn exactly once, and next to that found words and saw entries
abbrev pub TakesOnce : View → View → Type 0
TakesOnce v w = w ≡ record v { seen = w.seen; words = w.words; taken = v.taken + 1 }

-- the call did not take the turn: it found words and saw entries
abbrev pub TakesNone : View → View → Type 0
TakesNone v w = w ≡ record v { seen = w.seen; words = w.words }

-- the number of entries that the call added
abbrev pub added : Bool → ℕ
added ran = if ran then 1 else 0

-- the last word that was found is even, and the pass has seen half as many entries, and then its
-- own one
abbrev pub FindsFree : Bool → View → View → Type 0
FindsFree ran v w = (more : List ℕ) × (word : ℕ) × (w.words ≡ v.words ++ more ++ word ∷ [])
    × (word % 2 ≡ 0) × (length w.seen ≡ word / 2 + added ran)

-- two words were found and no other: an even one, and at taking the turn the same
abbrev pub FindsTwice : View → View → Type 0
FindsTwice v w = (word : ℕ) × (w.words ≡ v.words ++ word ∷ word ∷ []) × (word % 2 ≡ 0)

-- the pass's own entries are the earlier ones
abbrev pub KeepsOwn : View → View → Type 0
KeepsOwn v w = own (number_of v) w.seen ≡ own (number_of v) v.seen

-- the pass's own entries are the earlier ones and the one that the call added, each once
abbrev pub AddsOwn : Bool → View → View → Type 0
AddsOwn ran v w = MatchBool ran
    ((text : List ℕ)
    × (own (number_of v) w.seen ≡ own (number_of v) v.seen ++ entry (number_of v) text ∷ []))
    (KeepsOwn v w)

-- One word was found, and it is odd: the turn was another's. Or a free turn was found and then a
-- greater word: another call took it first.
abbrev pub FindsTaken : ℕ → View → View → Type 0
FindsTaken found v w = ((w.words ≡ v.words ++ found ∷ []) × (found % 2 ≡ 1))
    ⊎ ((first : ℕ) × (w.words ≡ v.words ++ first ∷ found ∷ []) × (first % 2 ≡ 0) × (first < found))

-- The job was run once, on a value that stood for the list `found`. That list goes on from what the
-- pass had seen, with no further own entry.
-- What the pass has seen then is that list, and after it the one entry that the job added, under
-- the pass's number.
pub record Ran {J : Type 0} (did : J → J → List (List ℕ) → List (List ℕ) → Type 0) (old new : J)
    (ran : Bool) (v w : View) : Type 0 where
  pub found : List Entry
  pub goes_on : StartsWith found v.seen
  pub no_other_own : own (number_of v) found ≡ own (number_of v) v.seen
  pub then_seen : MatchBool ran
      ((text : List ℕ) × (w.seen ≡ found ++ entry (number_of v) text ∷ [])) (w.seen ≡ found)
  pub did_so : did old new (texts found) (texts w.seen)
