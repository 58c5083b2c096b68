-- Recordings that are played again up to a row, printed and counted.
use Rattle.std.proofs.Common.{◌≡◌, ℕ, ◌+◌, ◌≤◌, cond, Bool, true, List, [], ◌∷◌, ◌++◌, length, Err, sym, ap, subst, ◌∙◌, arith, refl}
use Rattle.std.specs.Prelude.{count_by}
use Rattle.std.proofs.lemmas.List.Sums.{count_by-le-length, sum_by_push}
use Rattle.osc_model.specs.Limits.{Limits}
use Rattle.osc_model.specs.State.{State, opening}
use Rattle.osc_model.specs.Events.{Entry, is_added}
use Rattle.osc_model.specs.History.{IsLawful}
use Rattle.osc_record.specs.Reading.{Placed}
use Rattle.osc_record.specs.Unread.{Remaining, HasHeader, Reads}
use Rattle.osc_replay.specs.Answers.{IsTextUnlessShort}
use Rattle.osc_replay.specs.Onward.{IsReplayedTo, IsReplayed, IsPlayedUnlessShort}
use Rattle.osc_replay.specs.Playing.{Goes}
use Rattle.osc_replay.specs.declared.fault.ReplayFault.{ReplayFault}
use Rattle.osc_replay.specs.declared.fault.ReplayFault.TheVariants.{Malformed, Disagrees, NoMemory}
use Rattle.osc_replay.proofs.Formed.{opened}
use Rattle.osc_replay.proofs.Replayed.{IsPlayed, played_more, more_before, played_all}

-- the rows so far are played
abbrev pub played_of : (bytes : List ℕ) (left : Remaining) (state : State) (text : List ℕ) (entries adds : ℕ) → IsReplayedTo bytes left state text entries adds
    → IsPlayed bytes left state text entries
played_of bytes left state text entries adds is = record {
  caps = is.caps;
  before = is.before;
  formed = is.formed;
  legal = is.legal;
  state_is = is.state_is;
  text_is = is.text_is;
  number_is = is.entries_are;
}

-- none are so far
pub replayed_none : (bytes : List ℕ) (left : Remaining) → HasHeader bytes left → length bytes ≤ 1073741824 → IsReplayedTo bytes left (opening left.caps) [] 0 0
replayed_none bytes left is small = record {
  caps = left.caps;
  before = [];
  formed = opened bytes left is;
  legal = (is.lawful, tt);
  state_is = refl;
  text_is = refl;
  entries_are = refl;
  adds_are = refl;
  small = small;
}

-- one more is
pub replayed_more : (bytes : List ℕ) (left rest : Remaining) (placed : Placed) (state new : State) (text more : List ℕ) (entries adds : ℕ)
    → IsReplayedTo bytes left state text entries adds → Reads left placed rest → IsLawful placed.entry.event → Goes placed.entry state new text more
    → IsReplayedTo bytes rest new more (entries + 1) (adds + cond (is_added placed.entry.answer) 1 0)
replayed_more bytes left rest placed state new text more entries adds is reads lawful goes =
    let here = played_of bytes left state text entries adds is in
    let next = played_more bytes left rest placed state new text more entries here reads lawful goes in
    let before : next.before ≡ is.before ++ placed.entry ∷ [] = more_before bytes left rest placed state new text more entries here reads lawful goes in
    record {
      caps = next.caps;
      before = next.before;
      formed = next.formed;
      legal = next.legal;
      state_is = next.state_is;
      text_is = next.text_is;
      entries_are = next.number_is;
      adds_are = omega (
        arith,
        is.adds_are,
        sum_by_push (λ (e : Entry). cond (is_added e.answer) 1 0) is.before placed.entry,
        ap (count_by (λ (e : Entry). is_added e.answer)) before,
      );
      small = is.small;
    }

-- no more methods were added than there are rows
pub few_counted : (bytes : List ℕ) (left : Remaining) (state : State) (text : List ℕ) (entries adds : ℕ) → IsReplayedTo bytes left state text entries adds
    → adds ≤ entries
few_counted bytes left state text entries adds is =
    omega (arith, is.adds_are, is.entries_are, count_by-le-length (λ (e : Entry). is_added e.answer) is.before)

-- where none is left, all are played
pub replayed_all : (bytes : List ℕ) (left : Remaining) (caps : Limits) (state : State) (text : List ℕ) (entries adds : ℕ) (prints : Bool)
    → IsReplayedTo bytes left state text entries adds → left.caps ≡ caps → left.rest ≡ [] → prints ≡ true
    → IsReplayed bytes caps state prints text entries adds
replayed_all bytes left caps state text entries adds prints is same none printed =
    let here = played_of bytes left state text entries adds is in
    let limits : is.caps ≡ caps = sym is.formed.caps_are ∙ same in
    subst (λ (l : Limits). IsReplayed bytes l state prints text entries adds) limits
    (record {
      history = is.before;
      recording_of = played_all bytes left state text entries here none;
      state_is = is.state_is;
      text_is = is.text_is;
      entries_are = is.entries_are;
      adds_are = is.adds_are;
      prints_calls = printed;
      small = is.small;
    })

-- a fault that is no answer to the recording of a legal history, unless memory ran out
pub short_at_most : (X : Type 0) (fault : ReplayFault) (text : List ℕ) → IsTextUnlessShort (Err fault) text → IsPlayedUnlessShort {X = X} (Err fault)
short_at_most X (Malformed at) text is = absurd is
short_at_most X (Disagrees entry kept computed) text is = absurd is
short_at_most X NoMemory text is = tt
