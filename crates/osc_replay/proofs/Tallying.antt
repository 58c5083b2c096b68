-- Recordings that are checked up to an entry.
use Rattle.std.proofs.Common.{◌≡◌, ℕ, ◌+◌, ◌≤◌, cond, List, [], ◌++◌, Result, Err, OnOk}
use Rattle.std.proofs.Common.{refl, sym, ap}
use Rattle.std.proofs.Common.{subst, ◌∙◌, arith}
use Rattle.std.specs.Prelude.{count_by}
use Rattle.std.proofs.lemmas.List.Sums.{count_by-le-length, sum_by_push}
use Rattle.osc_model.specs.Limits.{Limits}
use Rattle.osc_model.specs.State.{State, opening}
use Rattle.osc_model.specs.Events.{Entry, Answer, adds_entry, is_added}
use Rattle.osc_model.specs.Step.{step}
use Rattle.osc_model.specs.History.{IsLawful}
use Rattle.osc_model.proofs.Onward.{adds_is}
use Rattle.osc_record.specs.Reading.{Placed}
use Rattle.osc_record.specs.Unread.{Remaining, HasHeader, Reads}
use Rattle.osc_record.proofs.Readings.{texts_differ}
use Rattle.osc_replay.specs.Answers.{IsTextUnlessShort}
use Rattle.osc_replay.specs.Checking.{IsCheckOf, IsCheckedUnlessShort, lines_of}
use Rattle.osc_replay.specs.Disagreeing.{IsRecordingOf}
use Rattle.osc_replay.specs.Playing.{Goes}
use Rattle.osc_replay.specs.declared.checked.Checked.{Checked}
use Rattle.osc_replay.specs.declared.fault.ReplayFault.{ReplayFault}
use Rattle.osc_replay.specs.declared.fault.ReplayFault.TheVariants.{Malformed, Disagrees, NoMemory}
use Rattle.osc_replay.proofs.Reached.{StaysWithin}
use Rattle.osc_replay.proofs.Agreeing.{Played, on_both}
use Rattle.osc_replay.proofs.Replayed.{AllFit, IsPlayed, played_none, none_before, played_more, more_before, formed_of}

-- where the two answers are one, the entry is played
pub made_agrees : (r : Result (Unit {0}) ReplayFault) (state new : State) (kept : Entry) (answer : Answer) (lines : List ℕ) → Played state new kept answer lines
    → OnOk r (kept.answer ≡ answer) → OnOk r (Goes kept state new [] (lines_of state kept))
made_agrees r state new kept answer lines is agree =
    on_both r (λ agree again.
    (let same : kept.answer ≡ (step state kept.event).answer = agree ∙ is.enters.answer_is in
    record {
      enrolled = is.enrolled;
      adds = adds_is kept.answer (ap adds_entry same ∙ is.enters.adds);
      answer_is = same;
      state_is = is.enters.state_is;
      text = refl;
    })) agree agree

-- the same behind a text
prints : (entry : Entry) (old new : State) (text : List ℕ) → Goes entry old new [] (lines_of old entry) → Goes entry old new text (text ++ lines_of old entry)
prints entry old new text goes =
    record { enrolled = goes.enrolled; adds = goes.adds; answer_is = goes.answer_is; state_is = goes.state_is; text = refl }

-- the entries so far are played, and counted
pub record IsCheckedTo (bytes : List ℕ) (left : Remaining) (state : State) (number adds : ℕ) : Type 0 where
  pub text : List ℕ
  pub played : IsPlayed bytes left state text number
  pub adds_are : adds ≡ count_by (λ entry. is_added entry.answer) played.before

pub checked_none : (bytes : List ℕ) (left : Remaining) → HasHeader bytes left → IsCheckedTo bytes left (opening left.caps) 0 0
checked_none bytes left is = record {
  text = [];
  played = played_none bytes left is;
  adds_are = ap (count_by (λ (e : Entry). is_added e.answer)) (sym (none_before bytes left is));
}

pub checked_more : (bytes : List ℕ) (left rest : Remaining) (placed : Placed) (state new : State) (number adds : ℕ) → IsCheckedTo bytes left state number adds
    → Reads left placed rest → IsLawful placed.entry.event → Goes placed.entry state new [] (lines_of state placed.entry)
    → IsCheckedTo bytes rest new (number + 1) (adds + cond (is_added placed.entry.answer) 1 0)
checked_more bytes left rest placed state new number adds is reads lawful goes = record {
  text = is.text ++ lines_of state placed.entry;
  played = played_more bytes left rest placed state new is.text (is.text ++ lines_of state placed.entry) number is.played reads lawful
      (prints placed.entry state new is.text goes);
  adds_are = omega (
    arith,
    is.adds_are,
    sum_by_push (λ (e : Entry). cond (is_added e.answer) 1 0) is.played.before placed.entry,
    ap (count_by (λ (e : Entry). is_added e.answer))
        (more_before bytes left rest placed state new is.text (is.text ++ lines_of state placed.entry) number is.played reads lawful
        (prints placed.entry state new is.text goes)),
  );
}

-- no more methods were added than there are entries
pub few_added : (bytes : List ℕ) (left : Remaining) (state : State) (number adds : ℕ) → IsCheckedTo bytes left state number adds → adds ≤ number
few_added bytes left state number adds is =
    omega (arith, is.adds_are, is.played.number_is, count_by-le-length (λ (e : Entry). is_added e.answer) is.played.before)

-- where no entry is left, all are counted
pub checked_all : (bytes : List ℕ) (left : Remaining) (state : State) (number adds : ℕ) (checked : Checked) (is : IsCheckedTo bytes left state number adds)
    → checked.caps ≡ is.played.caps → checked.entries ≡ number → checked.adds ≡ adds → checked.callers ≡ state.callers
    → IsCheckOf checked is.played.caps is.played.before
checked_all bytes left state number adds checked is caps entries added callers = record {
  caps_are = caps;
  entries_are = entries ∙ is.played.number_is;
  adds_are = added ∙ is.adds_are;
  callers_are = callers ∙ ap (λ (s : State). s.callers) is.played.state_is;
}

-- the bytes record one history
pub one_checked : AllFit → StaysWithin → (bytes : List ℕ) (checked : Checked) (caps other : Limits) (history others : List Entry)
    → IsRecordingOf bytes caps history → IsCheckOf checked caps history → IsRecordingOf bytes other others → IsCheckOf checked other others
one_checked fit within bytes checked caps other history others one is two =
    let same = texts_differ caps other history others (formed_of fit within caps history one.legal).record_
    (formed_of fit within other others two.legal).record_ (sym one.text ∙ two.text) in
    subst (λ (l : Limits). IsCheckOf checked l others) same.0 (subst (IsCheckOf checked caps) same.1 is)

-- a fault that is no answer to a legal history's recording but for want of memory
pub short_so : (fault : ReplayFault) (text : List ℕ) (caps : Limits) (history : List Entry) → IsTextUnlessShort (Err fault) text
    → IsCheckedUnlessShort (Err fault) caps history
short_so (Malformed at) text caps history is = absurd is
short_so (Disagrees entry kept computed) text caps history is = absurd is
short_so NoMemory text caps history is = tt
