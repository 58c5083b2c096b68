-- Recordings that are replayed up to an entry.
use Rattle.std.proofs.Common.{◌≡◌, ℕ, ◌+◌, ◌≤◌, List, [], ◌∷◌, ◌++◌, length, Err, inr, refl, sym, ap, subst, ◌∙◌, arith, length-append, append_assoc}
use Rattle.std.proofs.lemmas.List.{append-nil}
use Rattle.std.specs.List.{flat_map, AllByRecursion}
use Rattle.osc_print.specs.Entries.{event_line, invocation_text}
use Rattle.osc_model.specs.Limits.{Limits}
use Rattle.osc_model.specs.State.{State, opening}
use Rattle.osc_model.specs.Events.{Entry, adds_entry}
use Rattle.osc_model.specs.Recordings.{entry_text, record_text}
use Rattle.osc_model.specs.Step.{step}
use Rattle.osc_model.specs.History.{IsLawful, Legal, LegalFrom, after}
use Rattle.osc_model.proofs.Onward.{is_adds, after_more, legal_more, legal_split}
use Rattle.osc_record.specs.Reading.{Placed, IsRecord}
use Rattle.osc_record.specs.Unread.{Remaining, HasHeader, Reads}
use Rattle.osc_record.proofs.Kept.{entry_some}
use Rattle.osc_record.proofs.Readings.{texts_differ}
use Rattle.osc_replay.specs.Formed.{IsFormed, IsUnformedAt, HasNoLawful, IsFormedTo, EndsFormed, IsStuckAt}
use Rattle.osc_replay.specs.Printed.{printed}
use Rattle.osc_replay.specs.Disagreeing.{computed_text, DisagreesAt, IsRecordingOf}
use Rattle.osc_replay.specs.Answers.{OnMalformed, OnDisagrees, IsTextUnlessShort}
use Rattle.osc_replay.specs.Playing.{IsReached, Goes, Differs}
use Rattle.osc_replay.specs.declared.fault.ReplayFault.{ReplayFault}
use Rattle.osc_replay.specs.declared.fault.ReplayFault.TheVariants.{Malformed, Disagrees, NoMemory}
use Rattle.osc_replay.proofs.Formed.{texts, AreLawful, Recordable, record_length, opened, formed_more, formed_all, stuck_here, stuck_behind, no_place}
use Rattle.osc_replay.proofs.Printing.{printed-append}
use Rattle.osc_replay.proofs.Agreeing.{computed_is}
use Rattle.osc_replay.proofs.Reached.{StaysWithin}

-- the entries so far are a legal history, which the server played and the text prints
pub record IsPlayed (bytes : List ℕ) (left : Remaining) (state : State) (text : List ℕ) (number : ℕ) : Type 0 where
  pub caps : Limits
  pub before : List Entry
  pub formed : IsFormedTo bytes caps before left
  pub legal : Legal caps before
  pub state_is : state ≡ after (opening caps) before
  pub text_is : text ≡ printed caps before
  pub number_is : number ≡ length before

pub played_none : (bytes : List ℕ) (left : Remaining) → HasHeader bytes left → IsPlayed bytes left (opening left.caps) [] 0
played_none bytes left is = record {
  caps = left.caps;
  before = [];
  formed = opened bytes left is;
  legal = (is.lawful, tt);
  state_is = refl;
  text_is = refl;
  number_is = refl;
}

pub reached : (bytes : List ℕ) (left : Remaining) (state : State) (text : List ℕ) (number : ℕ) → IsPlayed bytes left state text number → IsReached state
reached bytes left state text number is = record { performance = record { caps = is.caps; history = is.before }; legal = is.legal; is = is.state_is }

-- one entry more is played
pub played_more : (bytes : List ℕ) (left rest : Remaining) (placed : Placed) (state new : State) (text more : List ℕ) (number : ℕ)
    → IsPlayed bytes left state text number → Reads left placed rest → IsLawful placed.entry.event → Goes placed.entry state new text more
    → IsPlayed bytes rest new more (number + 1)
played_more bytes left rest placed state new text more number is reads lawful goes =
    let entry = placed.entry in
    let one = subst (λ (old : State). Goes entry old new text more) is.state_is goes in
    record {
      caps = is.caps;
      before = is.before ++ entry ∷ [];
      formed = formed_more bytes is.caps is.before left rest placed is.formed reads lawful;
      legal = (is.legal.0, legal_more (opening is.caps) is.before (entry ∷ []) is.legal.1 (one.enrolled, lawful, one.adds, one.answer_is, tt));
      state_is = one.state_is ∙ sym (after_more (opening is.caps) is.before (entry ∷ []));
      text_is =
          one.text ∙ ap (λ (l : List ℕ). l ++ (event_line entry ++ flat_map invocation_text (step (after (opening is.caps) is.before) entry.event).invocations))
          is.text_is
          ∙ ap (λ (l : List ℕ). printed is.caps is.before ++ l)
          (sym (append-nil (event_line entry ++ flat_map invocation_text (step (after (opening is.caps) is.before) entry.event).invocations)))
          ∙ sym (printed-append (opening is.caps) is.before (entry ∷ []));
      number_is = omega (arith, is.number_is, length-append is.before (entry ∷ []));
    }

-- entries are no more than their bytes
count : (entries : List Entry) → AllByRecursion Recordable entries → length entries ≤ length (texts entries)
count [] all = omega arith
count (e ∷ entries) all =
    omega (arith, count entries all.1, entry_some e.caller e.event e.answer all.0.fits, length-append (entry_text e.caller e.event e.answer) (texts entries))

-- the entries so far are those before, and the next one
pub none_before : (bytes : List ℕ) (left : Remaining) (is : HasHeader bytes left) → (played_none bytes left is).before ≡ []
unfolding played_none
none_before bytes left is = refl

pub more_before : (bytes : List ℕ) (left rest : Remaining) (placed : Placed) (state new : State) (text more : List ℕ) (number : ℕ)
    (is : IsPlayed bytes left state text number) (reads : Reads left placed rest) (lawful : IsLawful placed.entry.event)
    (goes : Goes placed.entry state new text more)
    → (played_more bytes left rest placed state new text more number is reads lawful goes).before ≡ is.before ++ placed.entry ∷ []
unfolding played_more
more_before bytes left rest placed state new text more number is reads lawful goes = refl

pub few_played : (bytes : List ℕ) (left : Remaining) (state : State) (text : List ℕ) (number : ℕ) → IsPlayed bytes left state text number
    → number ≤ length bytes
few_played bytes left state text number is =
    omega (
      arith,
      is.number_is,
      count is.before is.formed.formed.record_.all,
      record_length is.caps is.before,
      ap length is.formed.text,
      length-append
          (record_text is.caps is.before) left.rest,
    )

-- A legal history is a recording.

abbrev pub AllFit : Type 0
AllFit = (caps : Limits) (history : List Entry) → Legal caps history → AllByRecursion Recordable history

all_lawful : (state : State) (history : List Entry) → LegalFrom state history → AreLawful history
all_lawful state [] legal = tt
all_lawful state (entry ∷ history) legal = (legal.1, all_lawful (step state entry.event).state history legal.4)

record_of : AllFit → StaysWithin → (caps : Limits) (history : List Entry) → Legal caps history → IsRecord caps history
record_of fit within caps history legal = record { lawful = legal.0; all = fit caps history legal; fits = within caps history legal }

pub formed_of : AllFit → StaysWithin → (caps : Limits) (history : List Entry) → Legal caps history → IsFormed caps history
formed_of fit within caps history legal = record { record_ = record_of fit within caps history legal; lawful = all_lawful (opening caps) history legal.1 }

-- where no entry is left, the text prints the history that the bytes record
pub played_all : (bytes : List ℕ) (left : Remaining) (state : State) (text : List ℕ) (number : ℕ) (is : IsPlayed bytes left state text number) → left.rest ≡ []
    → IsRecordingOf bytes is.caps is.before
played_all bytes left state text number is none = record { legal = is.legal; text = formed_all bytes is.caps is.before left is.formed none }

-- the bytes record one history
pub one_printed : AllFit → StaysWithin → (bytes text : List ℕ) (caps other : Limits) (history others : List Entry) → IsRecordingOf bytes caps history
    → text ≡ printed caps history → IsRecordingOf bytes other others → text ≡ printed other others
one_printed fit within bytes text caps other history others one is two =
    let same = texts_differ caps other history others (record_of fit within caps history one.legal) (record_of fit within other others two.legal)
    (sym one.text ∙ two.text) in
    is ∙ ap (λ (l : Limits). printed l history) same.0 ∙ ap (printed other) same.1

-- an entry that differs is the first that disagrees, where all that follows is formed
pub disagrees : (bytes : List ℕ) (left rest : Remaining) (placed : Placed) (state : State) (text : List ℕ) (number entry : ℕ) (kept computed : List ℕ)
    → IsPlayed bytes left state text number → Reads left placed rest → IsLawful placed.entry.event → EndsFormed rest
    → Differs (Disagrees entry kept computed) number (entry_text placed.entry.caller placed.entry.event placed.entry.answer)
    (computed_text state placed.entry.caller placed.entry.event) → DisagreesAt bytes entry kept computed
disagrees bytes left rest placed state text number entry kept computed is reads lawful ends differs =
    let whole = ends bytes is.caps (is.before ++ placed.entry ∷ []) (formed_more bytes is.caps is.before left rest placed is.formed reads lawful) in
    let joined = append_assoc is.before (placed.entry ∷ []) whole.0 in
    record {
      caps = is.caps;
      before = is.before;
      entry = placed.entry;
      later = whole.0;
      formed = subst (IsFormed is.caps) joined whole.1;
      text = whole.2 ∙ ap (record_text is.caps) joined;
      legal = is.legal;
      place_is = differs.0 ∙ is.number_is;
      kept_is = differs.1;
      computed_is = differs.2 ∙ ap (λ (s : State). computed_text s placed.entry.caller placed.entry.event) is.state_is;
      differ = λ same. differs.3 (sym differs.1 ∙ same ∙ differs.2);
    }

-- no entry of a legal history disagrees
pub none_disagrees : AllFit → StaysWithin → (bytes : List ℕ) (entry : ℕ) (kept computed : List ℕ) (caps : Limits) (history : List Entry)
    → DisagreesAt bytes entry kept computed → IsRecordingOf bytes caps history → ⊥
none_disagrees fit within bytes entry kept computed caps history d is =
    let same = texts_differ d.caps caps (d.before ++ d.entry ∷ d.later) history d.formed.record_ (record_of fit within caps history is.legal)
    (sym d.text ∙ is.text) in
    let legal : LegalFrom (opening d.caps) (d.before ++ d.entry ∷ d.later) =
    subst (λ (l : Limits). LegalFrom (opening l) (d.before ++ d.entry ∷ d.later)) (sym same.0) (subst (LegalFrom (opening caps)) (sym same.1) is.legal.1) in
    let here = (legal_split (opening d.caps) d.before (d.entry ∷ d.later) legal).1 in
    let adds = is_adds d.entry.answer here.2 in
    d.differ (d.kept_is
    ∙ sym (computed_is (after (opening d.caps) d.before) d.entry.caller d.entry.event d.entry.answer here.0 here.3 (ap adds_entry (sym here.3) ∙ adds))
    ∙ sym d.computed_is)

-- what is answered where an entry isn't played, and all that follows is formed

pub stops_not_malformed : (X : Type 0) (fault : ReplayFault) (number : ℕ) (kept computed : List ℕ) (holds : ℕ → Type 0) → Differs fault number kept computed
    → OnMalformed {X = X} (Err fault) holds
stops_not_malformed X (Malformed at) number kept computed holds differs = absurd differs
stops_not_malformed X (Disagrees entry own given) number kept computed holds differs = tt
stops_not_malformed X NoMemory number kept computed holds differs = tt

pub stops_disagreeing : (X : Type 0) (bytes : List ℕ) (left rest : Remaining) (placed : Placed) (state : State) (text : List ℕ) (number : ℕ)
    (fault : ReplayFault) → IsPlayed bytes left state text number → Reads left placed rest → IsLawful placed.entry.event → EndsFormed rest
    → Differs fault number (entry_text placed.entry.caller placed.entry.event placed.entry.answer) (computed_text state placed.entry.caller placed.entry.event)
    → OnDisagrees {X = X} (Err fault) (λ entry kept computed. DisagreesAt bytes entry kept computed)
stops_disagreeing X bytes left rest placed state text number (Malformed at) is reads lawful ends differs = tt
stops_disagreeing X bytes left rest placed state text number (Disagrees entry kept computed) is reads lawful ends differs =
    disagrees bytes left rest placed state text number entry kept computed is reads lawful ends differs
stops_disagreeing X bytes left rest placed state text number NoMemory is reads lawful ends differs = tt

pub stops_short : AllFit → StaysWithin
    → (bytes : List ℕ) (left rest : Remaining) (other : Limits) (history : List Entry) (placed : Placed) (state : State) (text : List ℕ) (number : ℕ)
    (fault : ReplayFault) → IsPlayed bytes left state text number → Reads left placed rest → IsLawful placed.entry.event → EndsFormed rest
    → Differs fault number (entry_text placed.entry.caller placed.entry.event placed.entry.answer) (computed_text state placed.entry.caller placed.entry.event)
    → IsRecordingOf bytes other history → IsTextUnlessShort (Err fault) (printed other history)
stops_short fit within bytes left rest other history placed state text number (Malformed at) is reads lawful ends differs recording = absurd differs
stops_short fit within bytes left rest other history placed state text number (Disagrees entry kept computed) is reads lawful ends differs recording =
    none_disagrees fit within bytes entry kept computed other history
    (disagrees bytes left rest placed state text number entry kept computed is reads lawful ends differs) recording
stops_short fit within bytes left rest other history placed state text number NoMemory is reads lawful ends differs recording = tt

-- a place that is malformed where the entries so far are played, or behind one more

pub next_unformed : (bytes : List ℕ) (left : Remaining) (state : State) (text : List ℕ) (number at : ℕ) → IsPlayed bytes left state text number
    → HasNoLawful left at → IsUnformedAt bytes at
next_unformed bytes left state text number at is none = inr (stuck_here left at none bytes is.caps is.before is.formed)

pub later_unformed : (bytes : List ℕ) (left rest : Remaining) (placed : Placed) (state : State) (text : List ℕ) (number at : ℕ)
    → IsPlayed bytes left state text number → Reads left placed rest → IsLawful placed.entry.event → IsStuckAt rest at → IsUnformedAt bytes at
later_unformed bytes left rest placed state text number at is reads lawful stuck =
    inr (stuck_behind left rest placed at reads lawful stuck bytes is.caps is.before is.formed)

-- a legal history has no malformed place
pub none_malformed : AllFit → StaysWithin → (bytes : List ℕ) (at : ℕ) (caps : Limits) (history : List Entry) → IsUnformedAt bytes at
    → IsRecordingOf bytes caps history → ⊥
none_malformed fit within bytes at caps history unformed is = no_place bytes at caps history (formed_of fit within caps history is.legal) is.text unformed
