-- What a call says of its token, where `v` is what the token knew before and `w` what it knows
-- then.
use Rattle.std.specs.Prelude.{◌≡◌, ℕ, ◌+◌, ◌/◌, length, List, [], ◌∷◌, ◌++◌, MatchBool, Some}
use Rattle.osc_model.specs.Limits.{Limits}
use Rattle.osc_model.specs.Events.{Event, Answer, adds_entry, Entry}
use Rattle.osc_model.specs.History.{Legal, stepped_in}
use Rattle.osc_record.specs.Reading.{entry_in}
use Rattle.osc_core.specs.Standing.{text_with, AreTexts, history_in}
use Rattle.osc_turn.specs.declared.view.Entry.{Entry as Seen}
use Rattle.osc_turn.specs.declared.view.View.{View}
use Rattle.osc_turn.specs.History.{StartsWith, texts, entry, own}
use Rattle.osc_turn.specs.Rule.{number_of}
use Rattle.osc_turn.specs.Answers.{FindsFree, FindsTaken, TakesNone, KeepsOwn}
use Rattle.osc_live.specs.Seen.{history_of, performance_in}

-- the text of an entry comes after these
pub record AddsText (one : Entry) (before after : List (List ℕ)) : Type 0 where
  pub text : List ℕ
  pub mark : List ℕ
  pub last : after ≡ before ++ text ∷ []
  pub text_is : text ≡ text_with mark one
  pub read : entry_in text ≡ Some one

-- A caller's event was answered by the rules after the entries of these texts, and its entry, if
-- the answer adds one, was added to them. They are the texts of a legal history.
pub record Plays (caps : Limits) (caller : ℕ) (event : Event) (answer : Answer)
    (before after : List (List ℕ)) : Type 0 where
  pub legal : Legal caps (history_in after)
  pub written : AreTexts (history_in after) after
  pub answered : answer ≡ (stepped_in (performance_in caps before) event).answer
  pub added : MatchBool (adds_entry answer)
      (AddsText (record { caller = caller; event = event; answer = answer }) before after)
      (after ≡ before)

-- The last entry that is seen is the call's, under the token's number, and the answer is by the
-- rules after the entries before it. The token's own entries are the earlier ones and this one,
-- each once.
pub record EndsWith (caps : Limits) (caller : ℕ) (event : Event) (answer : Answer)
    (v w : View) : Type 0 where
  pub before : List Seen
  pub text : List ℕ
  pub mark : List ℕ
  pub last : w.seen ≡ before ++ entry (number_of v) text ∷ []
  pub text_is : text ≡ text_with mark (record { caller = caller; event = event; answer = answer })
  pub read : entry_in text ≡ Some (record { caller = caller; event = event; answer = answer })
  pub answered : answer ≡ (stepped_in (performance_in caps (texts before)) event).answer
  pub own_once : own (number_of v) w.seen
      ≡ own (number_of v) v.seen ++ entry (number_of v) text ∷ []

-- no entry was added, and the answer is by the rules after what is seen
pub record AddsNone (caps : Limits) (event : Event) (answer : Answer) (v w : View) : Type 0 where
  pub answered : answer ≡ (stepped_in (performance_in caps (texts w.seen)) event).answer
  pub own_same : own (number_of v) w.seen ≡ own (number_of v) v.seen

abbrev pub IsAnswered : Limits → ℕ → Event → Answer → View → View → Type 0
IsAnswered caps caller event answer v w =
    MatchBool (adds_entry answer) (EndsWith caps caller event answer v w)
    (AddsNone caps event answer v w)

-- the token took the turn once, and otherwise found words and saw entries
abbrev pub TakesTurn : View → View → Type 0
TakesTurn v w = w ≡ record v { seen = w.seen; olds = w.olds; words = w.words; taken = v.taken + 1 }

-- A caller's event took the turn once and was answered: what is seen goes on from what was seen,
-- and is the texts of a legal history; the answer is by the rules there, and its entry is the last
-- one that is seen; the last word that was found is even, and half of it is the number of entries
-- before.
pub record Calls (caps : Limits) (caller : ℕ) (event : Event) (answer : Answer)
    (v w : View) : Type 0 where
  pub goes_on : StartsWith w.seen v.seen
  pub legal : Legal caps (history_of w)
  pub written : AreTexts (history_of w) (texts w.seen)
  pub answered : IsAnswered caps caller event answer v w
  pub once : TakesTurn v w
  pub counted : FindsFree (adds_entry answer) v w

-- A call found this word, by which the turn was another's, and did nothing: what is seen goes on
-- from what was seen, to half as many entries as the word; the token didn't take the turn, and has
-- no further own entry.
pub record IsBusy (word : ℕ) (v w : View) : Type 0 where
  pub goes_on : StartsWith w.seen v.seen
  pub not_taken : TakesNone v w
  pub found : FindsTaken word v w
  pub then_seen : length w.seen ≡ word / 2
  pub none_added : KeepsOwn v w

-- A look at the turn: one word was found, and half of it is the number of entries that are seen
-- then. What is seen goes on from what was seen; the token didn't take the turn, and has no further
-- own entry.
pub record Looks (entries : ℕ) (v w : View) : Type 0 where
  pub goes_on : StartsWith w.seen v.seen
  pub not_taken : TakesNone v w
  pub found : (word : ℕ) × (w.words ≡ v.words ++ word ∷ []) × (entries ≡ word / 2)
  pub then_seen : length w.seen ≡ entries
  pub none_added : KeepsOwn v w
