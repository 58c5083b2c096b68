-- How a program ends that goes on from a recording, from how its parts end.
use Rattle.std.proofs.Common.{◌≡◌, ◌≢◌, ◌⊎◌, inl, inr, ⊎_elim, ℕ, ◌+◌, ◌<◌, ◌≤◌, ◌==◌, ◌^◌, Bool, true, false, cond, ◌||◌}
use Rattle.std.proofs.Common.{List, [], ◌∷◌, ◌++◌, length, map, Option, Some}
use Rattle.std.proofs.Common.{None, IfSome, IsOkAnd, Result, Ok, Err, refl, sym, ap, subst, ◌∙◌, arith, max}
use Rattle.std.proofs.Math.Nat.{le-max_left}
use Rattle.std.specs.Option.{option_or}
use Rattle.std.proofs.lemmas.List.Sums.{count_by-le-length}
use Rattle.osc_method.specs.Heard.{Fixed}
use Rattle.osc_model.specs.Enrolled.{callers_in}
use Rattle.osc_model.specs.Events.{Entry, Room, is_added}
use Rattle.osc_model.specs.History.{IsCounted, IsSound, Legal, after}
use Rattle.osc_model.specs.Limits.{Limits}
use Rattle.osc_model.specs.Recordings.{record_text}
use Rattle.osc_model.specs.State.{opening}
use Rattle.osc_core.specs.Ids.{is_ascending}
use Rattle.osc_core.specs.Standing.{history_in}
use Rattle.osc_turn.specs.History.{texts}
use Rattle.osc_live.specs.Resuming.{roomier}
use Rattle.osc_live.proofs.Roomier.{few_callers, few_in}
use Rattle.osc_replay.specs.Checking.{IsCheckOf}
use Rattle.osc_replay.specs.Disagreeing.{IsRecordingOf}
use Rattle.osc_replay.specs.Onward.{GoesOnFrom}
use Rattle.osc_replay.specs.Printed.{printed}
use Rattle.osc_replay.specs.declared.checked.Checked.{Checked}
use Rattle.osc_script.specs.declared.fault.ScriptFault.{ScriptFault}
use Rattle.osc_script.specs.declared.line.Line.{Line}
use Rattle.osc_script.specs.declared.mode.Mode.TheVariants.{Lanes}
use Rattle.osc_script.specs.Adds.{adds_of, count_adds, is_add}
use Rattle.osc_script.specs.Scripts.{AreOf, script_of}
use Rattle.osc_words.specs.declared.command.ResumeCommand.{ResumeCommand}
use Rattle.osc_ends.specs.declared.outcome.Outcome.{Outcome}
use Rattle.osc_ends.specs.Ends.{EndsLine, left_behind}
use Rattle.osc_ends.specs.Inputs.{OfInput}
use Rattle.osc_ends.specs.Outcomes.{status_of, stopped}
use Rattle.osc_ends.specs.Printing.{bank_short_text, callers_full_text, last_text, recorded_text}
use Rattle.osc_ends.specs.Sinks.{SinkChange, Fails, IsSteady, Gains, GainsAll, GainsPart, GainsUnless, IsUntouched}
use Rattle.osc_top.specs.After.{CanGoOn, HandsBackAll, Reaches, boxes_told, callers_told}
use Rattle.osc_top.specs.EndsResumed.{AreEnough, EndsResumed, IsResumed, IsUnresumed, OfBoth}
use Rattle.osc_top.specs.History.{IsOneHistory}
use Rattle.osc_top.specs.Lanes.{first_stop, lane_count, lane_faults}
use Rattle.osc_top.specs.Recorded.{EndsBoth}
use Rattle.osc_top.specs.Resumed.{PlaysResumed, RecordsOneHistory, boxes_for, callers_for}
use Rattle.osc_top.specs.Staged.{IsStaged}
use Rattle.osc_top.specs.Taken.{IsPast, OfInputs, RefusesPastOrScript, TakesIn}
use Rattle.osc_top.specs.declared.intake.Taken.{Taken}
use Rattle.osc_top.proofs.Continued.{history_since, resumed_ascending}
use Rattle.osc_top.proofs.Dealt.{few_lanes}
use Rattle.osc_top.proofs.Inputs.{any_inputs}

-- Statuses.

abbrev is_resumed : ℕ → Bool
is_resumed status = (status == 0) || (status == 6)

resumed_test : (status : ℕ) → IsResumed status → is_resumed status ≡ true
resumed_test status (inl zero_is) = ap is_resumed zero_is
resumed_test status (inr six) = ap is_resumed six

-- a status with which not all was written
not_resumed : (status other : ℕ) → status ≡ other → is_resumed other ≡ false → IsResumed status → ⊥
not_resumed status other is none resumed =
    let clash : true ≡ false = sym (resumed_test status resumed) ∙ ap is_resumed is ∙ none in
    absurd (cc)

abbrev is_unresumed : ℕ → Bool
is_unresumed status = (status == 1) || ((status == 2) || ((status == 4) || ((status == 8) || (status == 9))))

unresumed_test : (status : ℕ) → IsUnresumed status → is_unresumed status ≡ true
unresumed_test status (inl (inl one)) = ap is_unresumed one
unresumed_test status (inl (inr (inl two))) = ap is_unresumed two
unresumed_test status (inl (inr (inr (inl four)))) = ap is_unresumed four
unresumed_test status (inl (inr (inr (inr eight)))) = ap is_unresumed eight
unresumed_test status (inr nine) = ap is_unresumed nine

-- a status with which something was played
not_unresumed : (status other : ℕ) → status ≡ other → is_unresumed other ≡ false → IsUnresumed status → ⊥
not_unresumed status other is none unresumed =
    let clash : true ≡ false = sym (unresumed_test status unresumed) ∙ ap is_unresumed is ∙ none in
    absurd (cc)

stop_resumes : (stop : Option Room) → IsResumed (status_of (stopped stop))
stop_resumes None = inl refl
stop_resumes (Some room) = inr refl

resumed_played : (status : ℕ) → IsResumed status → is_unresumed status ≡ false
resumed_played status (inl zero_is) = ap is_unresumed zero_is
resumed_played status (inr six) = ap is_unresumed six

-- what was written was played
pub written_played : (outcome : Outcome) (status : ℕ) (recording text : List ℕ) (rec out : SinkChange) → IsResumed (status_of outcome)
    → EndsBoth (status_of outcome) status recording text rec out → IsUnresumed status → ⊥
written_played outcome status recording text rec out stops both unresumed = go both.known where
  go : (status ≡ status_of outcome) ⊎ (status ≡ 3) ⊎ (status ≡ 5) → ⊥
  go (inl decided) = not_unresumed status (status_of outcome) decided (resumed_played (status_of outcome) stops) unresumed
  go (inr (inl three)) = not_unresumed status 3 three refl unresumed
  go (inr (inr five)) = not_unresumed status 5 five refl unresumed

-- out of memory promises nothing
pub short_played : (status : ℕ) → status ≡ 3 → IsUnresumed status → ⊥
short_played status three unresumed = not_unresumed status 3 three refl unresumed

ok_so : (read : Result (List Line) ScriptFault) (lines : List Line) (P : List Line → Type 0) → read ≡ Ok lines → P lines → IsOkAnd read P
ok_so read lines P is holds = subst (λ (r : Result (List Line) ScriptFault). IsOkAnd r P) (sym is) holds

of_ok : (read : Result (List Line) ScriptFault) (lines : List Line) (P : List Line → Type 0) → read ≡ Ok lines → IsOkAnd read P → P lines
of_ok read lines P is holds = subst (λ (r : Result (List Line) ScriptFault). IsOkAnd r P) is holds

some_lines : (read : Result (List Line) ScriptFault) (P : List Line → Type 0) → IsOkAnd read P → (lines : List Line) × (read ≡ Ok lines)
some_lines (Ok lines) P holds = (lines, refl)
some_lines (Err fault) P holds = absurd holds

-- As many callers are enrolled as the history says.
abbrev CountLaw : Type 0
CountLaw = (caps : Limits) (history : List Entry) → Legal caps history → (after (opening caps) history).callers ≡ callers_in history

-- What is written where there are too few boxes, or too many callers.

pub too_few : (checked : Checked) (lines : List Line) (have need status : ℕ) (out : SinkChange) → need ≡ boxes_told checked lines → have < need
    → EndsLine 8 status (bank_short_text need have) out → Reaches (Some status) checked lines have out
too_few checked lines have need status out all less line =
    inl (omega (arith, all, less), subst (λ (n : ℕ). EndsLine 8 status (bank_short_text n have) out) all line)

pub too_many : (checked : Checked) (lines : List Line) (have need most status : ℕ) (out : SinkChange) → need ≡ callers_told checked lines
    → most ≡ checked.caps.callers → boxes_told checked lines ≤ have → most < need → EndsLine 9 status (callers_full_text need most) out
    → Reaches (Some status) checked lines have out
too_many checked lines have need most status out all limit enough less line =
    inr (
      enough,
      omega (arith, all, limit, less),
      subst (λ (n : ℕ). EndsLine 9 status (callers_full_text (callers_told checked lines) n) out) limit
          (subst (λ (n : ℕ). EndsLine 9 status (callers_full_text n most) out) all line),
    )

pub reaches_so : (result same_result : Option ℕ) (checked : Checked) (lines same_lines : List Line) (have same : ℕ) (out : SinkChange)
    → result ≡ same_result → lines ≡ same_lines → have ≡ same → Reaches result checked lines have out → Reaches same_result checked same_lines same out
reaches_so result same_result checked lines same_lines have same out result_so lines_so have_so reaches =
    subst (λ (r : Option ℕ). Reaches r checked same_lines same out) result_so
    (subst (λ (l : List Line). Reaches result checked l same out) lines_so
    (subst (λ (n : ℕ). Reaches result checked lines n out) have_so reaches))

pub reaches_all : (result : Option ℕ) (checked : Checked) (lines same_lines : List Line) (have same : ℕ) (out : SinkChange) → result ≡ None
    → lines ≡ same_lines → have ≡ same → Reaches result checked lines have out
    → (boxes_told checked same_lines ≤ same) × (callers_told checked same_lines ≤ checked.caps.callers)
reaches_all result checked lines same_lines have same out none lines_so have_so reaches =
    reaches_so result None checked lines same_lines have same out none lines_so have_so reaches

-- The numbers are small.

one_of_each : (line : Line) → adds_of line.act ≤ 1
one_of_each line = go (is_add line.act) where
  go : (t : Bool) → cond t 1 0 ≤ 1
  go true = omega arith
  go false = omega arith

few_adds : (lines : List Line) → count_adds lines ≤ length lines
few_adds [] = omega arith
few_adds (line ∷ lines) = omega (arith, one_of_each line, few_adds lines)

pub few_told : ((caps : Limits) (history : List Entry) → Legal caps history → IsSound (after (opening caps) history))
    → ((caps : Limits) (history : List Entry) → Legal caps history → IsCounted (after (opening caps) history)) → (checked : Checked) (lines : List Line)
    (caps : Limits) (history : List Entry) → Legal caps history → IsCheckOf checked caps history → AreOf Lanes lines → length lines < 2 ^ 63
    → (boxes_told checked lines < 2 ^ 64) × (callers_told checked lines < 2 ^ 64)
few_told sound counted checked lines caps history legal told lanes small =
    let entries = few_in counted caps history legal in
    let callers = few_callers sound caps history legal in (
      omega (arith, entries, told.adds_are, count_by-le-length (λ (entry : Entry). is_added entry.answer) history, few_adds lines, small),
      omega (arith, callers.0, callers.1, told.callers_are, few_lanes lines lanes),
    )

-- What a check told is what the past and the lines take.
module _ (law : CountLaw) (bytes : List ℕ) (checked : Checked)
    (told : (caps : Limits) (history : List Entry) → IsRecordingOf bytes caps history → IsCheckOf checked caps history) (lines : List Line)
    (caps : Limits) (before : List Entry) (recording_of : IsRecordingOf bytes caps before) where
  boxes_are : boxes_told checked lines ≡ boxes_for before lines
  boxes_are = ap (λ (n : ℕ). n + count_adds lines) (told caps before recording_of).adds_are

  callers_are : callers_told checked lines ≡ callers_for before lines
  callers_are =
      ap (λ (n : ℕ). n + lane_count lines) ((told caps before recording_of).callers_are ∙ law caps before recording_of.legal)

  most_callers : checked.caps.callers ≡ caps.callers
  most_callers = ap (λ (l : Limits). l.callers) (told caps before recording_of).caps_are

  enough_told : (have : ℕ) → AreEnough have caps before lines
      → (boxes_told checked lines ≤ have) × (callers_told checked lines ≤ checked.caps.callers)
  enough_told have enough = (omega (arith, enough.0, boxes_are), omega (arith, enough.1, callers_are, most_callers))

  pub can_go_on : (have : ℕ) → (boxes_told checked lines ≤ have) × (callers_told checked lines ≤ checked.caps.callers) → CanGoOn bytes lines have caps before
  can_go_on have reaches = record {
    recording_of = recording_of;
    enough = (omega (arith, reaches.0, boxes_are), omega (arith, reaches.1, callers_are, most_callers));
  }

module _ (plays : Limits → List Entry → List Line → List ℕ → List ℕ → Outcome → Type 0) (bytes script : List ℕ) (have : ℕ) (rec out : SinkChange) where
  abbrev Ends : ℕ → Type 0
  Ends status = EndsResumed plays status bytes script have rec out

  pub resumed_short : (status : ℕ) → status ≡ 3 → Ends status
  resumed_short status is = record {
    known = inr (inr (inl is));
    written = λ resumed. absurd (not_resumed status 3 is refl resumed);
    cut_short = λ five. absurd (omega arith);
    refused = λ one. absurd (omega arith);
    bank_short = λ eight. absurd (omega arith);
    callers_full = λ nine. absurd (omega arith);
    complete = λ enough out_sound rec_sound. inr is;
  }

  -- the past or the script is refused, or there was no memory
  pub resumed_refused : (status decided : ℕ) → status ≡ decided → (decided ≡ 1) ⊎ (decided ≡ 3) ⊎ (decided ≡ 4) → status ≢ 4
      → (decided ≡ 1 → RefusesPastOrScript out bytes script)
      → ((lines : List Line) → IsPast bytes → script_of Lanes script ≡ Ok lines → decided ≢ 1) → Ends status
  resumed_refused status decided same (inl is) read refused lawful =
      let one_is : status ≡ 1 = same ∙ is in
      record {
        known = inr (inl one_is);
        written = λ resumed. absurd (not_resumed status 1 one_is refl resumed);
        cut_short = λ five. absurd (omega arith);
        refused = λ one. refused is;
        bank_short = λ eight. absurd (omega arith);
        callers_full = λ nine. absurd (omega arith);
        complete =
            λ enough out_sound rec_sound.
            let some = some_lines (script_of Lanes script) (AreEnough have enough.0 enough.1) enough.3 in
            absurd (lawful some.0 (enough.0, enough.1, enough.2) some.1 is);
      }
  resumed_refused status decided same (inr (inl is)) read refused lawful = resumed_short status (same ∙ is)
  resumed_refused status decided same (inr (inr is)) read refused lawful = absurd (read (same ∙ is))

  module _ (lines : List Line) (is : script_of Lanes script ≡ Ok lines) (caps : Limits) (before : List Entry)
      (recording_of : IsRecordingOf bytes caps before) where
    of_both : (P : Limits → List Entry → List Line → Type 0) → P caps before lines → OfBoth bytes script P
    of_both P holds = (caps, before, recording_of, ok_so (script_of Lanes script) lines (P caps before) is holds)

    -- there are too few boxes, or too many callers
    pub resumed_few : CountLaw → (checked : Checked)
        → ((caps : Limits) (history : List Entry) → IsRecordingOf bytes caps history → IsCheckOf checked caps history)
        → (status decided : ℕ) → status ≡ decided → Reaches (Some decided) checked lines have out → Ends status
    resumed_few law checked told status decided same reaches = go reaches where
      boxes : boxes_told checked lines ≡ boxes_for before lines
      boxes = boxes_are law bytes checked told lines caps before recording_of

      callers : callers_told checked lines ≡ callers_for before lines
      callers = callers_are law bytes checked told lines caps before recording_of

      most : checked.caps.callers ≡ caps.callers
      most = most_callers law bytes checked told lines caps before recording_of

      told_so : OfBoth bytes script (AreEnough have) → (boxes_told checked lines ≤ have) × (callers_told checked lines ≤ checked.caps.callers)
      told_so enough =
          enough_told law bytes checked told lines enough.0 enough.1 enough.2 have
          (of_ok (script_of Lanes script) lines (AreEnough have enough.0 enough.1) is enough.3)

      AreFew : Limits → List Entry → List Line → Type 0
      AreFew caps before lines = (have < boxes_for before lines) × GainsUnless out (bank_short_text (boxes_for before lines) have)

      AreMany : Limits → List Entry → List Line → Type 0
      AreMany caps before lines = (boxes_for before lines ≤ have) × (caps.callers < callers_for before lines)
          × GainsUnless out (callers_full_text (callers_for before lines) caps.callers)

      few : have < boxes_told checked lines → EndsLine 8 decided (bank_short_text (boxes_told checked lines) have) out → (decided ≡ 8) ⊎ (decided ≡ 3)
          → Ends status
      few less line (inr three) = resumed_short status (same ∙ three)
      few less line (inl eight) =
          let eight_is : status ≡ 8 = same ∙ eight in
          record {
            known = inr (inr (inr (inr (inl eight_is))));
            written = λ resumed. absurd (not_resumed status 8 eight_is refl resumed);
            cut_short = λ five. absurd (omega arith);
            refused = λ one. absurd (omega arith);
            bank_short =
                λ _. of_both AreFew (
                  omega (arith, less, boxes),
                  subst (λ (n : ℕ). GainsUnless out (bank_short_text n have)) boxes (line.written eight),
                );
            callers_full = λ nine. absurd (omega arith);
            complete = λ enough out_sound rec_sound. absurd (omega (arith, less, (told_so enough).0));
          }

      many : boxes_told checked lines ≤ have → checked.caps.callers < callers_told checked lines
          → EndsLine 9 decided (callers_full_text (callers_told checked lines) checked.caps.callers) out → (decided ≡ 9) ⊎ (decided ≡ 3) → Ends status
      many enough_boxes more line (inr three) = resumed_short status (same ∙ three)
      many enough_boxes more line (inl nine) =
          let nine_is : status ≡ 9 = same ∙ nine in
          record {
            known = inr (inr (inr (inr (inr nine_is))));
            written = λ resumed. absurd (not_resumed status 9 nine_is refl resumed);
            cut_short = λ five. absurd (omega arith);
            refused = λ one. absurd (omega arith);
            bank_short = λ eight. absurd (omega arith);
            callers_full =
                λ _. of_both AreMany (
                  omega (arith, enough_boxes, boxes),
                  omega (arith, more, callers, most),
                  subst (λ (n : ℕ). GainsUnless out (callers_full_text (callers_for before lines) n)) most
                      (subst (λ (n : ℕ). GainsUnless out (callers_full_text n checked.caps.callers)) callers (line.written nine)),
                );
            complete = λ enough out_sound rec_sound. absurd (omega (arith, more, (told_so enough).1));
          }

      go : ((have < boxes_told checked lines) × EndsLine 8 decided (bank_short_text (boxes_told checked lines) have) out)
          ⊎ ((boxes_told checked lines ≤ have) × (checked.caps.callers < callers_told checked lines)
          × EndsLine 9 decided (callers_full_text (callers_told checked lines) checked.caps.callers) out) → Ends status
      go (inl (less, line)) = few less line line.known
      go (inr (enough, more, line)) = many enough more line line.known

    -- what was played is written
    pub resumed_written : (limits : Limits) (recording said : List ℕ) (outcome : Outcome) (status : ℕ)
        (staged : IsStaged (plays caps before lines) limits recording said outcome) → AreEnough have caps before lines → IsResumed (status_of outcome)
        → EndsBoth (status_of outcome) status recording (recorded_text limits staged.history said outcome) rec out → Ends status
    resumed_written limits recording said outcome status staged enough stops both = go both.known where
      text : List ℕ
      text = recorded_text limits staged.history said outcome

      AreWritten : Limits → List Entry → List Line → Type 0
      AreWritten caps before lines = AreEnough have caps before lines × (recording : List ℕ) × (text : List ℕ) × (outcome : Outcome)
          × (status ≡ status_of outcome) × plays caps before lines recording text outcome × GainsAll rec recording × GainsAll out text

      AreCut : Limits → List Entry → List Line → Type 0
      AreCut caps before lines = AreEnough have caps before lines × (recording : List ℕ) × (text : List ℕ) × (outcome : Outcome)
          × plays caps before lines recording text outcome
          × ((GainsPart rec recording × IsUntouched out) ⊎ (GainsAll rec recording × GainsPart out text))

      go : (status ≡ status_of outcome) ⊎ (status ≡ 3) ⊎ (status ≡ 5) → Ends status
      go (inr (inl three)) = resumed_short status three
      go (inr (inr five)) = record {
        known = inr (inr (inr (inl five)));
        written = λ resumed. absurd (not_resumed status 5 five refl resumed);
        cut_short = λ _. of_both AreCut (enough, recording, text, outcome, staged.played, both.cut_short five);
        refused = λ one. absurd (omega arith);
        bank_short = λ eight. absurd (omega arith);
        callers_full = λ nine. absurd (omega arith);
        complete = λ _ out_sound rec_sound. absurd (⊎_elim (λ first. rec_sound first.0.1) (λ second. out_sound second.1.1) (both.cut_short five));
      }
      go (inl decided) =
          let resumed : IsResumed status = subst IsResumed (sym decided) stops in
          record {
            known = inl resumed;
            written =
                λ _. of_both AreWritten (enough, recording, text, outcome, decided, staged.played, (both.done decided).0, (both.done decided).1);
            cut_short = λ five. absurd (not_resumed status 5 five refl resumed);
            refused = λ one. absurd (not_resumed status 1 one refl resumed);
            bank_short = λ eight. absurd (not_resumed status 8 eight refl resumed);
            callers_full = λ nine. absurd (not_resumed status 9 nine refl resumed);
            complete = λ _ out_sound rec_sound. inl resumed;
          }

  -- a sink failed where the status says so, and none did where all is done
  pub resumed_cut : (status : ℕ) → Ends status → status ≡ 5 → Fails out ⊎ Fails rec
  resumed_cut status ends five = let cut = ends.cut_short five in go cut.0 cut.1 (script_of Lanes script) cut.3 where
    go : (caps : Limits) (before : List Entry) (read : Result (List Line) ScriptFault)
        → IsOkAnd read (λ lines. AreEnough have caps before lines × (recording : List ℕ) × (text : List ℕ) × (outcome : Outcome)
        × plays caps before lines recording text outcome
        × ((GainsPart rec recording × IsUntouched out) ⊎ (GainsAll rec recording × GainsPart out text))) → Fails out ⊎ Fails rec
    go caps before (Ok lines) cut = ⊎_elim (λ first. inr first.0.1) (λ second. inl second.1.1) cut.5
    go caps before (Err fault) cut = absurd cut

  -- it was the text's sink, or the recording's, where the other stands as it was
  pub resumed_cut_by : (Same : Type 0) (status : ℕ) → Ends status → (status ≡ 5 → Fails out ⊎ Same) → status ≡ 5 → Fails out ⊎ (Fails rec × Same)
  resumed_cut_by Same status ends which five = go (resumed_cut status ends five) (which five) where
    go : Fails out ⊎ Fails rec → Fails out ⊎ Same → Fails out ⊎ (Fails rec × Same)
    go (inl text) either = inl text
    go (inr first) (inl text) = inl text
    go (inr first) (inr same) = inr (first, same)

  pub resumed_steady : (status : ℕ) → Ends status → status ≡ 0 → IsSteady out × IsSteady rec
  resumed_steady status ends zero_is = let all = ends.written (inl zero_is) in go all.0 all.1 (script_of Lanes script) all.3 where
    go : (caps : Limits) (before : List Entry) (read : Result (List Line) ScriptFault)
        → IsOkAnd read (λ lines. AreEnough have caps before lines × (recording : List ℕ) × (text : List ℕ) × (outcome : Outcome)
        × (status ≡ status_of outcome) × plays caps before lines recording text outcome × GainsAll rec recording × GainsAll out text)
        → IsSteady out × IsSteady rec
    go caps before (Ok lines) all = (all.7.1, all.6.1)
    go caps before (Err fault) all = absurd all

  pub resumed_known : (status : ℕ) → Ends status → (status ≤ 9) × (status ≢ 7)
  resumed_known status ends = go ends.known where
    go : IsResumed status ⊎ (status ≡ 1) ⊎ (status ≡ 3) ⊎ (status ≡ 5) ⊎ (status ≡ 8) ⊎ (status ≡ 9) → (status ≤ 9) × (status ≢ 7)
    go (inl (inl zero_is)) = (omega arith, λ seven. omega (arith, seven, zero_is))
    go (inl (inr six)) = (omega arith, λ seven. omega (arith, seven, six))
    go (inr (inl one)) = (omega arith, λ seven. omega (arith, seven, one))
    go (inr (inr (inl three))) = (omega arith, λ seven. omega (arith, seven, three))
    go (inr (inr (inr (inl five)))) = (omega arith, λ seven. omega (arith, seven, five))
    go (inr (inr (inr (inr (inl eight))))) = (omega arith, λ seven. omega (arith, seven, eight))
    go (inr (inr (inr (inr (inr nine))))) = (omega arith, λ seven. omega (arith, seven, nine))

  -- the words were a command, and no source failed
  pub resumed_others : (status : ℕ) → Ends status → (status ≢ 2) × (status ≢ 4)
  resumed_others status ends = go ends.known where
    go : IsResumed status ⊎ (status ≡ 1) ⊎ (status ≡ 3) ⊎ (status ≡ 5) ⊎ (status ≡ 8) ⊎ (status ≡ 9) → (status ≢ 2) × (status ≢ 4)
    go (inl (inl zero_is)) = (λ two. omega (arith, two, zero_is), λ four. omega (arith, four, zero_is))
    go (inl (inr six)) = (λ two. omega (arith, two, six), λ four. omega (arith, four, six))
    go (inr (inl one)) = (λ two. omega (arith, two, one), λ four. omega (arith, four, one))
    go (inr (inr (inl three))) = (λ two. omega (arith, two, three), λ four. omega (arith, four, three))
    go (inr (inr (inr (inl five)))) = (λ two. omega (arith, two, five), λ four. omega (arith, four, five))
    go (inr (inr (inr (inr (inl eight))))) = (λ two. omega (arith, two, eight), λ four. omega (arith, four, eight))
    go (inr (inr (inr (inr (inr nine))))) = (λ two. omega (arith, two, nine), λ four. omega (arith, four, nine))

module _ {M : Type 0} (keep : M → Fixed) (heard : M → Option (List ℕ)) where
  -- lanes end done or full
  pub resumed_stops : (caps : Limits) (before : List Entry) (bank : List M) (added : List (ℕ × M)) (left : List M) (lines : List Line)
      (recording text : List ℕ) (outcome : Outcome) → PlaysResumed keep heard caps before bank added left lines recording text outcome
      → IsResumed (status_of outcome)
  resumed_stops caps before bank added left lines recording text outcome plays =
      subst (λ (o : Outcome). IsResumed (status_of o)) (sym plays.outcome_is) (stop_resumes (option_or plays.unenrolled (first_stop plays.accounts)))

  -- any command may end out of memory
  pub resumed_none : (bank : List M) (added : List (ℕ × M)) (left : List M) (status have : ℕ) (rec out : SinkChange) (said : Option ResumeCommand)
      (past input : Option (List ℕ)) → status ≡ 3
      → IfSome said (λ command. status ≢ 4 → OfInputs past input (λ bytes script.
      EndsResumed (λ caps before lines. PlaysResumed keep heard (roomier caps command.room) before bank added left lines) status bytes script have rec out))
  resumed_none bank added left status have rec out None past input three = tt
  resumed_none bank added left status have rec out (Some command) past input three =
      let plays : Limits → List Entry → List Line → List ℕ → List ℕ → Outcome → Type 0 =
      λ caps before lines. PlaysResumed keep heard (roomier caps command.room) before bank added left lines in
      λ read. any_inputs past input (λ bytes script. EndsResumed plays status bytes script have rec out)
      (λ bytes script. resumed_short plays bytes script have rec out status three)

  -- what was staged is what was played, and is written
  module _ (room : ℕ) (bank : List M) (added played : List (ℕ × M)) (left kept : List M) (status : ℕ) (bytes : List ℕ) (rec out : SinkChange)
      (lines : List Line) (caps : Limits) (before : List Entry) (recording said : List ℕ) (outcome : Outcome) (added_so : added ≡ played)
      (left_so : left ≡ kept)
      (staged : IsStaged (PlaysResumed keep heard (roomier caps room) before bank played kept lines) (roomier caps room) recording said outcome)
      (both : EndsBoth (status_of outcome) status recording (recorded_text (roomier caps room) staged.history said outcome) rec out) where
    staged_stops : IsResumed (status_of outcome)
    staged_stops =
        resumed_stops (roomier caps room) before bank played kept lines recording (recorded_text (roomier caps room) staged.history said outcome) outcome
        staged.played

    pub resumed_end : CanGoOn bytes lines (length bank) caps before → (script : List ℕ) → script_of Lanes script ≡ Ok lines
        → EndsResumed (λ caps before lines. PlaysResumed keep heard (roomier caps room) before bank added left lines) status bytes script (length bank) rec out
    resumed_end can script is =
        subst (λ (l : List M). EndsResumed (λ caps before lines. PlaysResumed keep heard (roomier caps room) before bank added l lines) status bytes script
        (length bank) rec out) (sym left_so)
        (subst (λ (a : List (ℕ × M)). EndsResumed (λ caps before lines. PlaysResumed keep heard (roomier caps room) before bank a kept lines) status bytes
        script (length bank) rec out) (sym added_so)
        (resumed_written (λ caps before lines. PlaysResumed keep heard (roomier caps room) before bank played kept lines) bytes script (length bank) rec out
        lines is caps before can.recording_of (roomier caps room) recording said outcome status staged can.enough staged_stops both))

    pub resumed_back : HandsBackAll status bank added left
    resumed_back =
        let text = recorded_text (roomier caps room) staged.history said outcome in
        record {
          ascending =
              subst (λ (a : List (ℕ × M)). is_ascending (map (λ one. one.0) a) ≡ true) (sym added_so)
              (resumed_ascending keep heard (roomier caps room) before bank played kept lines recording text outcome staged.played);
          none_heard = λ unresumed. absurd (written_played outcome status recording text rec out staged_stops both unresumed);
          all_left = λ unresumed. absurd (written_played outcome status recording text rec out staged_stops both unresumed);
        }

    pub staged_recorded : IsUnresumed status → ⊥
    staged_recorded unresumed =
        written_played outcome status recording (recorded_text (roomier caps room) staged.history said outcome) rec out staged_stops both unresumed

  -- what was recorded goes on from the past
  pub resumed_onward : (room : ℕ) (bank : List M) (added : List (ℕ × M)) (left : List M) (lines : List Line) (caps : Limits) (before : List Entry)
      (bytes recording text : List ℕ) (outcome : Outcome) → IsRecordingOf bytes caps before
      → PlaysResumed keep heard (roomier caps room) before bank added left lines recording text outcome → GoesOnFrom bytes recording
  resumed_onward room bank added left lines caps before bytes recording text outcome recording_of plays =
      let limits = roomier caps room in
      let stage = plays.performs.stage in
      let whole : history_in (texts plays.performs.history) ≡ before ++ history_in (texts stage.since) =
      history_since plays.past before plays.performs.history stage.since plays.past_is stage.goes_on in
      record {
        caps = caps;
        room = max caps.recording room;
        before = before;
        since = history_in (texts stage.since);
        enough = le-max_left caps.recording room;
        first = recording_of;
        second = record {
          legal = subst (Legal limits) whole stage.legal;
          text = plays.performs.closed.recorded ∙ ap (record_text limits) whole;
        };
      }

  -- what was written is one history, which begins with the past
  pub resumed_history : (room : ℕ) (bank : List M) (added : List (ℕ × M)) (left : List M) (status : ℕ) (bytes script : List ℕ) (have : ℕ) (rec out : SinkChange)
      → EndsResumed (λ caps before lines. PlaysResumed keep heard (roomier caps room) before bank added left lines) status bytes script have rec out
      → IsResumed status → RecordsOneHistory keep heard room bytes added rec out
  resumed_history room bank added left status bytes script have rec out ends resumed =
      let all = ends.written resumed in
      go all.0 all.1 all.2 (script_of Lanes script) all.3 where
        go : (caps : Limits) (before : List Entry) → IsRecordingOf bytes caps before → (read : Result (List Line) ScriptFault)
            → IsOkAnd read (λ lines. AreEnough have caps before lines × (recording : List ℕ) × (text : List ℕ) × (outcome : Outcome)
            × (status ≡ status_of outcome) × PlaysResumed keep heard (roomier caps room) before bank added left lines recording text outcome
            × GainsAll rec recording × GainsAll out text) → RecordsOneHistory keep heard room bytes added rec out
        go caps before recording_of (Ok lines) all =
            let limits = roomier caps room in
            let plays = all.5 in
            let stage = plays.performs.stage in
            let rest = lane_faults plays.accounts ++ last_text all.3 in
            let since = history_in (texts stage.since) in
            let whole : history_in (texts plays.performs.history) ≡ before ++ since =
            history_since plays.past before plays.performs.history stage.since plays.past_is stage.goes_on in
            record {
              caps = caps;
              before = before;
              since = since;
              rest = rest;
              recording_of = recording_of;
              one =
                  subst (λ (h : List Entry). IsOneHistory keep heard limits h added) whole
                  (record { legal = stage.legal; laws = stage.laws; ids = plays.boxes.ids; have_heard = plays.boxes.have_heard });
              recorded = subst (Gains rec) (plays.performs.closed.recorded ∙ ap (record_text limits) whole) all.6.0;
              text = subst (Gains out) (plays.text_is ∙ ap (λ (h : List Entry). printed limits h ++ rest) whole) all.7.0;
            }
        go caps before recording_of (Err fault) all = absurd all

-- What holds of the bytes of two inputs.

pub past_so : (past input : Option (List ℕ)) (P : List ℕ → List ℕ → Type 0) (Q : List ℕ → Type 0) → ((bytes script : List ℕ) → P bytes script → Q bytes)
    → OfInputs past input P → OfInput past Q
past_so past input P Q so (bytes, script, is, are, holds) = (bytes, is, so bytes script holds)

-- what was read, where it was taken
pub was_read : (most status : ℕ) (left now : Option (List ℕ)) → IfSome left (λ all. ◌≢◌ {A = ℕ} 0 3 → ◌≢◌ {A = ℕ} 0 4 → now ≡ Some (left_behind most all))
    → IfSome left (λ all. status ≢ 3 → status ≢ 4 → now ≡ Some (left_behind most all))
was_read most status None now read = tt
was_read most status (Some all) now read = λ _ _. read (λ three. omega (arith, three)) (λ four. omega (arith, four))

-- what was taken in is a recording
pub of_taken : (past input : Option (List ℕ)) (taken : Taken) (out : SinkChange) → OfInputs past input (λ bytes script. TakesIn (Ok taken) bytes script out)
    → IsPast taken.past
of_taken past input taken out (bytes, script, is, are, takes) =
    subst IsPast (sym takes.both.0.replay_is) (takes.both.0.caps, takes.both.0.history, takes.both.0.recording_of)

-- how the program ends with what was taken in
pub taken_ends : (past input : Option (List ℕ)) (taken : Taken) (out : SinkChange)
    (plays : Limits → List Entry → List Line → List ℕ → List ℕ → Outcome → Type 0) (status have : ℕ) (rec written : SinkChange)
    → ((script : List ℕ) → script_of Lanes script ≡ Ok taken.lines.items → EndsResumed plays status taken.past script have rec written)
    → OfInputs past input (λ bytes script. TakesIn (Ok taken) bytes script out)
    → OfInputs past input (λ bytes script. EndsResumed plays status bytes script have rec written)
taken_ends past input taken out plays status have rec written ends (bytes, script, is, are, takes) = (
  bytes,
  script,
  is,
  are,
  subst (λ (b : List ℕ). EndsResumed plays status b script have rec written) takes.both.0.replay_is (ends script takes.both.1),
)
