-- What is read of the recording while the turn is held.
use Rattle.std.specs.Prelude.{◌≡◌, ℕ, List, ◌++◌, length, take, drop, false}
use Rattle.osc_turn.specs.declared.view.View.{View}
use Rattle.osc_turn.specs.History.{StartsWith, texts, own}
use Rattle.osc_turn.specs.Rule.{number_of}
use Rattle.osc_turn.specs.Answers.{FindsFree}
use Rattle.osc_model.specs.Limits.{Limits}
use Rattle.osc_model.specs.Recordings.{record_text}
use Rattle.osc_model.specs.History.{Legal}
use Rattle.osc_core.specs.Standing.{history_in, AreTexts}
use Rattle.osc_live.specs.Seen.{history_of}
use Rattle.osc_live.specs.Calls.{TakesTurn}

-- as many bytes of the text, from the place on, as there are and fit
abbrev pub part : List ℕ → ℕ → List ℕ → List ℕ
part text from into = take (length into) (drop from text)

-- these bytes written over the first ones
abbrev pub overwritten : List ℕ → List ℕ → List ℕ
overwritten bytes into = bytes ++ drop (length bytes) into

-- so many bytes of the text were written, from the place on
pub record Writes (text : List ℕ) (from : ℕ) (old new : List ℕ) (count : ℕ) : Type 0 where
  pub bytes : new ≡ overwritten (part text from old) old
  pub counted : count ≡ length (part text from old)

-- inside the turn: no entry was added, and the recording of all entries was read
pub record Copied (caps : Limits) (from : ℕ) (old new : List ℕ) (count : ℕ)
    (before after : List (List ℕ)) : Type 0 where
  pub same : after ≡ before
  pub legal : Legal caps (history_in after)
  pub written : AreTexts (history_in after) after
  pub writes : Writes (record_text caps (history_in after)) from old new count

-- A read took the turn once, and added no entry: what is seen goes on from what was seen, and is
-- the texts of a legal history, whose recording was read; the last word that was found is even, and
-- half of it is the number of entries.
pub record Reads (caps : Limits) (from : ℕ) (old new : List ℕ) (count : ℕ)
    (v w : View) : Type 0 where
  pub goes_on : StartsWith w.seen v.seen
  pub legal : Legal caps (history_of w)
  pub written : AreTexts (history_of w) (texts w.seen)
  pub writes : Writes (record_text caps (history_of w)) from old new count
  pub once : TakesTurn v w
  pub counted : FindsFree false v w
  pub own_same : own (number_of v) w.seen ≡ own (number_of v) v.seen
