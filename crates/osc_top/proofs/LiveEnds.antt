-- How a program ends that plays a script on many threads, from how its parts end.
use Rattle.std.proofs.Common.{◌≡◌, ◌≢◌, ◌⊎◌, inl, inr, ⊎_elim, ℕ, ◌<◌, ◌≤◌, ◌==◌, Bool, true, false, ◌||◌, List, length, Option, Some}
use Rattle.std.proofs.Common.{None, IfSome, IsOkAnd, IsErrAnd, Result, Ok, Err, refl, sym, ap, subst, ◌∙◌, arith}
use Rattle.std.specs.Option.{option_or}
use Rattle.osc_edge.specs.Faults.{Rose}
use Rattle.osc_method.specs.Heard.{Fixed}
use Rattle.osc_model.specs.Events.{Room}
use Rattle.osc_model.specs.Limits.{Limits}
use Rattle.osc_links.specs.declared.served.Bounds.{Bounds}
use Rattle.osc_links.specs.Links.{LinkTurn}
use Rattle.osc_links.specs.Ticks.{ClockRead}
use Rattle.osc_script.specs.declared.fault.ScriptFault.{ScriptFault}
use Rattle.osc_script.specs.declared.line.Line.{Line}
use Rattle.osc_script.specs.declared.mode.Mode.{Mode}
use Rattle.osc_script.specs.declared.mode.Mode.TheVariants.{Lanes, Serve}
use Rattle.osc_script.specs.Scripts.{script_of}
use Rattle.osc_words.specs.declared.command.Capacities.{Capacities}
use Rattle.osc_words.specs.declared.command.LiveCommand.{LiveCommand}
use Rattle.osc_words.specs.declared.command.LiveCommand.TheVariants as live
use Rattle.osc_words.specs.declared.command.Transport.{Transport}
use Rattle.osc_ends.specs.declared.outcome.Outcome.{Outcome}
use Rattle.osc_ends.specs.declared.outcome.Outcome.TheVariants.{Done, Full, LinkFailed, ClockFailed}
use Rattle.osc_top.specs.Commands.{mode_of}
use Rattle.osc_ends.specs.Ends.{EndsLine, IsUnplayed}
use Rattle.osc_top.specs.EndsCommand.{EndsCommand, MayEnd, plays_of}
use Rattle.osc_top.specs.Enough.{enough_lanes}
use Rattle.osc_top.specs.Lanes.{PlaysLanes, first_stop}
use Rattle.osc_top.specs.Live.{EndsLive}
use Rattle.osc_ends.specs.Ends.{IsWritten}
use Rattle.osc_ends.specs.Inputs.{OfInput, RefusesScript}
use Rattle.osc_ends.specs.Outcomes.{status_of, stopped}
use Rattle.osc_ends.proofs.Inputs.{any_bytes, if_any, if_so, of_so}
use Rattle.osc_script.specs.Adds.{count_adds}
use Rattle.osc_top.specs.Commands.{live_limits}
use Rattle.osc_ends.specs.Printing.{refusal_text, bank_short_text}
use Rattle.osc_top.specs.Recorded.{EndsBoth}
use Rattle.osc_ends.specs.Printing.{recorded_text}
use Rattle.osc_top.specs.Served.{PlaysLinks}
use Rattle.osc_ends.specs.Sinks.{SinkChange, Fails, IsSteady, GainsAll, GainsPart, GainsUnless, IsUntouched}
use Rattle.osc_top.specs.Staged.{IsStaged}

ok_and : (read : Result (List Line) ScriptFault) (lines : List Line) (P : List Line → Type 0) → read ≡ Ok lines → P lines → IsOkAnd read P
ok_and read lines P is holds = subst (λ (r : Result (List Line) ScriptFault). IsOkAnd r P) (sym is) holds

-- What was read in one mode, in the mode that this is.

pub in_mode : (mode other : Mode) (left : Option (List ℕ)) (lines : List Line) → mode ≡ other
    → OfInput left (λ script. script_of mode script ≡ Ok lines) → OfInput left (λ script. script_of other script ≡ Ok lines)
in_mode mode other left lines is read = subst (λ (m : Mode). OfInput left (λ script. script_of m script ≡ Ok lines)) is read

pub refused_in : (mode other : Mode) (status : ℕ) (left : Option (List ℕ)) (out : SinkChange) → mode ≡ other
    → RefusesScript mode status left out → RefusesScript other status left out
refused_in mode other status left out is refused = subst (λ (m : Mode). RefusesScript m status left out) is refused

-- Statuses.

abbrev is_written : ℕ → Bool
is_written status = (status == 0) || ((status == 6) || (status == 7))

written_test : (status : ℕ) → IsWritten status → is_written status ≡ true
written_test status (inl zero_is) = ap is_written zero_is
written_test status (inr (inl six)) = ap is_written six
written_test status (inr (inr seven)) = ap is_written seven

-- a status with which not all was written
not_written : (status other : ℕ) → status ≡ other → is_written other ≡ false → IsWritten status → ⊥
not_written status other is none written =
    let clash : true ≡ false = sym (written_test status written) ∙ ap is_written is ∙ none in
    absurd (cc)

written_so : (status : ℕ) (outcome : Outcome) → status ≡ status_of outcome → IsWritten status
written_so status Done is = inl is
written_so status (Full need free) is = inr (inl is)
written_so status (LinkFailed link) is = inr (inr is)
written_so status ClockFailed is = inr (inr is)

abbrev is_unplayed : ℕ → Bool
is_unplayed status = (status == 1) || ((status == 2) || ((status == 4) || (status == 8)))

unplayed_test : (status : ℕ) → IsUnplayed status → is_unplayed status ≡ true
unplayed_test status (inl one) = ap is_unplayed one
unplayed_test status (inr (inl two)) = ap is_unplayed two
unplayed_test status (inr (inr (inl four))) = ap is_unplayed four
unplayed_test status (inr (inr (inr eight))) = ap is_unplayed eight

-- a status with which something was played
not_unplayed : (status other : ℕ) → status ≡ other → is_unplayed other ≡ false → IsUnplayed status → ⊥
not_unplayed status other is none unplayed =
    let clash : true ≡ false = sym (unplayed_test status unplayed) ∙ ap is_unplayed is ∙ none in
    absurd (cc)

-- the status of a last line reports no sink that failed
pub line_decided : (decided status other : ℕ) (text : List ℕ) (out : SinkChange) → EndsLine decided status text out → decided ≢ 5 → other ≡ status → other ≢ 5
line_decided decided status other text out line sound same five = go line.known where
  go : (status ≡ decided) ⊎ (status ≡ 3) → ⊥
  go (inl is) = sound (sym is ∙ sym same ∙ five)
  go (inr three) = omega (arith, three, same, five)

outcome_played : (outcome : Outcome) → is_unplayed (status_of outcome) ≡ false
outcome_played Done = refl
outcome_played (Full need free) = refl
outcome_played (LinkFailed link) = refl
outcome_played ClockFailed = refl

-- what was written was played
pub both_played : (outcome : Outcome) (status : ℕ) (recording text : List ℕ) (rec out : SinkChange)
    → EndsBoth (status_of outcome) status recording text rec out → IsUnplayed status → ⊥
both_played outcome status recording text rec out both unplayed = go both.known where
  go : (status ≡ status_of outcome) ⊎ (status ≡ 3) ⊎ (status ≡ 5) → ⊥
  go (inl decided) = not_unplayed status (status_of outcome) decided (outcome_played outcome) unplayed
  go (inr (inl three)) = not_unplayed status 3 three refl unplayed
  go (inr (inr five)) = not_unplayed status 5 five refl unplayed

module _ (mode : Mode) (plays : List Line → List ℕ → List ℕ → Outcome → Type 0) (script : List ℕ) (have : ℕ) (rec out : SinkChange) where
  abbrev Ends : ℕ → Type 0
  Ends status = EndsLive mode plays status script have rec out

  pub ends_short_of_memory : (status : ℕ) → status ≡ 3 → Ends status
  ends_short_of_memory status is = record {
    known = inr (inr (inl is));
    written = λ written. absurd (not_written status 3 is refl written);
    cut_short = λ five. absurd (omega arith);
    refused = λ one. absurd (omega arith);
    bank_short = λ eight. absurd (omega arith);
  }

  pub ends_refused : (status decided : ℕ) → status ≡ decided → (decided ≡ 1) ⊎ (decided ≡ 3)
      → (decided ≡ 1 → IsErrAnd (script_of mode script) (λ fault. GainsUnless out (refusal_text fault))) → Ends status
  ends_refused status decided same (inl is) refused = record {
    known = inr (inl (same ∙ is));
    written = λ written. absurd (not_written status 1 (same ∙ is) refl written);
    cut_short = λ five. absurd (omega arith);
    refused = λ one. refused is;
    bank_short = λ eight. absurd (omega arith);
  }
  ends_refused status decided same (inr is) refused = ends_short_of_memory status (same ∙ is)

  module _ (lines : List Line) (is : script_of mode script ≡ Ok lines) where
    pub ends_short : (status decided need boxes : ℕ) → status ≡ decided → EndsLine 8 decided (bank_short_text need boxes) out → boxes ≡ have
        → need ≡ count_adds lines → boxes < need → Ends status
    ends_short status decided need boxes same ends all adds few = go ends.known where
      AreShort : List Line → Type 0
      AreShort lines = (have < count_adds lines) × GainsUnless out (bank_short_text (count_adds lines) have)

      go : (decided ≡ 8) ⊎ (decided ≡ 3) → Ends status
      go (inr three) = ends_short_of_memory status (same ∙ three)
      go (inl eight) = record {
        known = inr (inr (inr (inr (same ∙ eight))));
        written = λ written. absurd (not_written status 8 (same ∙ eight) refl written);
        cut_short = λ five. absurd (omega arith);
        refused = λ one. absurd (omega arith);
        bank_short =
            λ eight_is. ok_and (script_of mode script) lines AreShort is (
              omega (arith, all, adds, few),
              subst (GainsUnless out) (ap (λ (n : ℕ). bank_short_text n boxes) adds ∙ ap (bank_short_text (count_adds lines)) all) (ends.written eight),
            );
      }

    -- what was played is written
    pub ends_played : (caps : Limits) (recording said : List ℕ) (outcome : Outcome) (status : ℕ) (staged : IsStaged (plays lines) caps recording said outcome)
        → count_adds lines ≤ have → EndsBoth (status_of outcome) status recording (recorded_text caps staged.history said outcome) rec out → Ends status
    ends_played caps recording said outcome status staged enough both = go both.known where
      text : List ℕ
      text = recorded_text caps staged.history said outcome

      AreWritten : List Line → Type 0
      AreWritten lines = (count_adds lines ≤ have) × (recording : List ℕ) × (text : List ℕ) × (outcome : Outcome) × (status ≡ status_of outcome)
          × plays lines recording text outcome × GainsAll rec recording × GainsAll out text

      AreCut : List Line → Type 0
      AreCut lines = (count_adds lines ≤ have) × (recording : List ℕ) × (text : List ℕ) × (outcome : Outcome) × plays lines recording text outcome
          × ((GainsPart rec recording × IsUntouched out) ⊎ (GainsAll rec recording × GainsPart out text))

      go : (status ≡ status_of outcome) ⊎ (status ≡ 3) ⊎ (status ≡ 5) → Ends status
      go (inr (inl three)) = ends_short_of_memory status three
      go (inr (inr five)) = record {
        known = inr (inr (inr (inl five)));
        written = λ written. absurd (not_written status 5 five refl written);
        cut_short =
            λ five_is. ok_and (script_of mode script) lines AreCut is (enough, recording, text, outcome, staged.played, both.cut_short five_is);
        refused = λ one. absurd (omega arith);
        bank_short = λ eight. absurd (omega arith);
      }
      go (inl decided) =
          let written : IsWritten status = written_so status outcome decided in
          record {
            known = inl written;
            written =
                λ w. ok_and (script_of mode script) lines AreWritten is
                (enough, recording, text, outcome, decided, staged.played, (both.done decided).0, (both.done decided).1);
            cut_short = λ five. absurd (not_written status 5 five refl written);
            refused = λ one. absurd (not_written status 1 one refl written);
            bank_short = λ eight. absurd (not_written status 8 eight refl written);
          }

  -- a sink failed where the status says so, and none did where all is done
  pub cut_fails : (status : ℕ) → Ends status → status ≡ 5 → Fails out ⊎ Fails rec
  cut_fails status ends five = go (script_of mode script) (ends.cut_short five) where
    go : (read : Result (List Line) ScriptFault)
        → IsOkAnd read (λ lines. (count_adds lines ≤ have) × (recording : List ℕ) × (text : List ℕ) × (outcome : Outcome)
        × plays lines recording text outcome × ((GainsPart rec recording × IsUntouched out) ⊎ (GainsAll rec recording × GainsPart out text)))
        → Fails out ⊎ Fails rec
    go (Ok lines) cut = ⊎_elim (λ first. inr first.0.1) (λ second. inl second.1.1) cut.5
    go (Err fault) cut = absurd cut

  -- it was the text's sink, or the recording's, where the other stands as it was
  pub cut_by : (Same : Type 0) (status : ℕ) → Ends status → (status ≡ 5 → Fails out ⊎ Same) → status ≡ 5 → Fails out ⊎ (Fails rec × Same)
  cut_by Same status ends which five = go (cut_fails status ends five) (which five) where
    go : Fails out ⊎ Fails rec → Fails out ⊎ Same → Fails out ⊎ (Fails rec × Same)
    go (inl text) either = inl text
    go (inr first) (inl text) = inl text
    go (inr first) (inr same) = inr (first, same)

  pub done_steady : (status : ℕ) → Ends status → status ≡ 0 → IsSteady out × IsSteady rec
  done_steady status ends zero_is = go (script_of mode script) (ends.written (inl zero_is)) where
    go : (read : Result (List Line) ScriptFault)
        → IsOkAnd read (λ lines. (count_adds lines ≤ have) × (recording : List ℕ) × (text : List ℕ) × (outcome : Outcome) × (status ≡ status_of outcome)
        × plays lines recording text outcome × GainsAll rec recording × GainsAll out text) → IsSteady out × IsSteady rec
    go (Ok lines) all = (all.7.1, all.6.1)
    go (Err fault) all = absurd all

  -- what was played, where all was written
  pub written_of : (status : ℕ) → Ends status → IsWritten status
      → (lines : List Line) × (recording : List ℕ) × (text : List ℕ) × (outcome : Outcome) × (status ≡ status_of outcome)
      × plays lines recording text outcome × GainsAll rec recording × GainsAll out text
  written_of status ends written = go (script_of mode script) (ends.written written) where
    go : (read : Result (List Line) ScriptFault)
        → IsOkAnd read (λ lines. (count_adds lines ≤ have) × (recording : List ℕ) × (text : List ℕ) × (outcome : Outcome) × (status ≡ status_of outcome)
        × plays lines recording text outcome × GainsAll rec recording × GainsAll out text)
        → (lines : List Line) × (recording : List ℕ) × (text : List ℕ) × (outcome : Outcome) × (status ≡ status_of outcome)
        × plays lines recording text outcome × GainsAll rec recording × GainsAll out text
    go (Ok lines) all = (lines, all.1, all.2, all.3, all.4, all.5, all.6, all.7)
    go (Err fault) all = absurd all

not_both : (read : Result (List Line) ScriptFault) (P : List Line → Type 0) (Q : ScriptFault → Type 0) → IsOkAnd read P → IsErrAnd read Q → ⊥
not_both (Ok lines) P Q ok err = absurd err
not_both (Err fault) P Q ok err = absurd ok

not_short : (read : Result (List Line) ScriptFault) (most : ℕ) (Q : List Line → Type 0) → IsOkAnd read (λ lines. count_adds lines ≤ most)
    → IsOkAnd read (λ lines. (most < count_adds lines) × Q lines) → ⊥
not_short (Ok lines) most Q enough short = omega (arith, enough, short.0)
not_short (Err fault) most Q enough short = absurd enough

ok_weaker : (read : Result (List Line) ScriptFault) (P Q : List Line → Type 0) → ((lines : List Line) → P lines → Q lines) → IsOkAnd read P → IsOkAnd read Q
ok_weaker (Ok lines) P Q so holds = so lines holds
ok_weaker (Err fault) P Q so holds = absurd holds

-- a lawful script with enough boxes is played, and all is written to sinks that don't fail
written_or_short : (mode : Mode) (plays : List Line → List ℕ → List ℕ → Outcome → Type 0) (script : List ℕ) (have : ℕ) (rec out : SinkChange) (status : ℕ)
    → EndsLive mode plays status script have rec out → IsOkAnd (script_of mode script) (λ lines. count_adds lines ≤ have) → (Fails out → ⊥) → (Fails rec → ⊥)
    → IsWritten status ⊎ (status ≡ 3)
written_or_short mode plays script have rec out status ends lawful out_sound rec_sound = go ends.known where
  go : IsWritten status ⊎ (status ≡ 1) ⊎ (status ≡ 3) ⊎ (status ≡ 5) ⊎ (status ≡ 8) → IsWritten status ⊎ (status ≡ 3)
  go (inl written) = inl written
  go (inr (inl one)) =
      absurd (not_both (script_of mode script) (λ lines. count_adds lines ≤ have) (λ fault. GainsUnless out (refusal_text fault)) lawful (ends.refused one))
  go (inr (inr (inl three))) = inr three
  go (inr (inr (inr (inl five)))) = absurd (⊎_elim out_sound rec_sound (cut_fails mode plays script have rec out status ends five))
  go (inr (inr (inr (inr eight)))) =
      absurd (not_short (script_of mode script) have (λ lines. GainsUnless out (bank_short_text (count_adds lines) have)) lawful (ends.bank_short eight))

pub may_end_short : (status : ℕ) (command : LiveCommand) → status ≡ 3 → MayEnd command status
may_end_short status (live.Lanes caps watch) three = inr (inl three)
may_end_short status (live.Serve transport port ports count idle caps) three = inr (inl three)

-- lanes have no link and no clock that fails
pub not_failed : (status : ℕ) (outcome : Outcome) (stop : Option Room) → status ≡ status_of outcome → outcome ≡ stopped stop → status ≡ 7 → ⊥
not_failed status outcome None is so seven = absurd (omega (arith, is, ap status_of so, seven))
not_failed status outcome (Some room) is so seven = absurd (omega (arith, is, ap status_of so, seven))

module _ {M L : Type 0} (keep : M → Fixed) (heard : M → Option (List ℕ)) (left : L → Option (List LinkTurn)) (faults : L → ℕ) (status : ℕ) (bank : List M)
    (added : List (ℕ × M)) (rest : List M) (links links_after : List L) (clock : ClockRead) (rec out : SinkChange) where
  abbrev EndsSo : LiveCommand → List ℕ → Type 0
  EndsSo command script = EndsCommand keep heard left faults command status script bank added rest links links_after clock rec out

  -- there are boxes enough
  abbrev AreBoxes : List Line → Type 0
  AreBoxes lines = count_adds lines ≤ length bank

  pub live_complete : (command : LiveCommand) (script : List ℕ) → EndsSo command script → IsOkAnd (script_of (mode_of command) script) AreBoxes
      → (Fails out → ⊥) → (Fails rec → ⊥) → MayEnd command status
  live_complete (live.Lanes caps watch) script ends lawful out_sound rec_sound =
      go (written_or_short Lanes (plays_of keep heard left faults (live.Lanes caps watch) bank added rest links links_after clock) script (length bank) rec out
      status ends lawful out_sound rec_sound) where
        none_failed : (read : Result (List Line) ScriptFault)
            → IsOkAnd read (λ lines. (count_adds lines ≤ length bank) × (recording : List ℕ) × (text : List ℕ) × (outcome : Outcome)
            × (status ≡ status_of outcome) × PlaysLanes keep heard (live_limits caps) watch bank added rest lines recording text outcome
            × GainsAll rec recording × GainsAll out text) → status ≡ 7 → ⊥
        none_failed (Ok lines) all seven = not_failed status all.3 (option_or all.5.unenrolled (first_stop all.5.accounts)) all.4 all.5.outcome_is seven
        none_failed (Err fault) all seven = absurd all

        go : IsWritten status ⊎ (status ≡ 3) → (status ≡ 0) ⊎ (status ≡ 3) ⊎ (status ≡ 6)
        go (inl (inl zero_is)) = inl zero_is
        go (inl (inr (inl six))) = inr (inr six)
        go (inl (inr (inr seven))) = absurd (none_failed (script_of Lanes script) (ends.written (inr (inr seven))) seven)
        go (inr three) = inr (inl three)
  live_complete (live.Serve transport port ports count idle caps) script ends lawful out_sound rec_sound =
      go (written_or_short Serve
      (plays_of keep heard left faults (live.Serve transport port ports count idle caps) bank added rest links links_after clock) script
      (length bank) rec out status ends lawful out_sound rec_sound) where
        go : IsWritten status ⊎ (status ≡ 3) → (status ≡ 0) ⊎ (status ≡ 3) ⊎ (status ≡ 6) ⊎ (status ≡ 7)
        go (inl (inl zero_is)) = inl zero_is
        go (inl (inr (inl six))) = inr (inr (inl six))
        go (inl (inr (inr seven))) = inr (inr (inr seven))
        go (inr three) = inr (inl three)

  -- where nothing stops that has room enough, it isn't full then
  module _ (caps : Capacities) (watch : Bool) (never : (lines : List Line) (recording text : List ℕ) (outcome : Outcome)
      → PlaysLanes keep heard (live_limits caps) watch bank added rest lines recording text outcome
      → enough_lanes lines ≤ caps.recording → outcome ≡ Done) where
    -- there are boxes and room enough
    abbrev AreEnough : List Line → Type 0
    AreEnough lines = (count_adds lines ≤ length bank) × (enough_lanes lines ≤ caps.recording)

    not_full : (read : Result (List Line) ScriptFault) → IsOkAnd read AreEnough
        → IsOkAnd read (λ lines. (count_adds lines ≤ length bank) × (recording : List ℕ) × (text : List ℕ) × (outcome : Outcome)
        × (status ≡ status_of outcome) × PlaysLanes keep heard (live_limits caps) watch bank added rest lines recording text outcome
        × GainsAll rec recording × GainsAll out text) → status ≡ 6 → ⊥
    not_full (Ok lines) enough all six =
        let none : all.3 ≡ Done = never lines all.1 all.2 all.3 all.5 enough.1 in
        absurd (omega (arith, all.4, ap status_of none, six))
    not_full (Err fault) enough all six = absurd all

    pub live_enough : (command : LiveCommand) → command ≡ live.Lanes caps watch → (script : List ℕ) → EndsSo command script
        → IsOkAnd (script_of Lanes script) AreEnough → (Fails out → ⊥) → (Fails rec → ⊥) → (status ≡ 0) ⊎ (status ≡ 3)
    live_enough command lanes script so enough out_sound rec_sound =
        go (live_complete (live.Lanes caps watch) script ends
        (ok_weaker (script_of Lanes script) AreEnough AreBoxes (λ lines both. both.0) enough) out_sound rec_sound) where
          ends : EndsSo (live.Lanes caps watch) script
          ends = subst (λ (c : LiveCommand). EndsSo c script) lanes so

          go : (status ≡ 0) ⊎ (status ≡ 3) ⊎ (status ≡ 6) → (status ≡ 0) ⊎ (status ≡ 3)
          go (inl zero_is) = inl zero_is
          go (inr (inl three)) = inr three
          go (inr (inr six)) = absurd (not_full (script_of Lanes script) enough (ends.written (inr (inl six))) six)

-- What was staged is what the command plays.

abbrev staged_so : (P Q : List ℕ → List ℕ → Outcome → Type 0) (caps : Limits) (recording said : List ℕ) (outcome : Outcome)
    → ((text : List ℕ) → P recording text outcome → Q recording text outcome) → IsStaged P caps recording said outcome → IsStaged Q caps recording said outcome
staged_so P Q caps recording said outcome so staged = record {
  history = staged.history;
  recording_of = staged.recording_of;
  played = so (recorded_text caps staged.history said outcome) staged.played;
}

module _ {M L : Type 0} (keep : M → Fixed) (heard : M → Option (List ℕ)) (left : L → Option (List LinkTurn)) (faults : L → ℕ) (command : LiveCommand)
    (limits : Limits) (status : ℕ) (script : List ℕ) (bank : List M) (added played : List (ℕ × M)) (rest kept : List M) (links links_after : List L)
    (clock : ClockRead) (rec out : SinkChange) (lines : List Line) (recording said : List ℕ) (outcome : Outcome)
    (is : script_of (mode_of command) script ≡ Ok lines) (added_so : added ≡ played) (rest_so : rest ≡ kept) (enough : count_adds lines ≤ length bank) where
  abbrev PlaysSo : List Line → List ℕ → List ℕ → Outcome → Type 0
  PlaysSo = plays_of keep heard left faults command bank added rest links links_after clock

  -- lanes
  pub lanes_end : (caps : Capacities) (watch : Bool) → command ≡ live.Lanes caps watch → limits ≡ live_limits caps
      → (staged : IsStaged (PlaysLanes keep heard limits watch bank played kept lines) limits recording said outcome)
      → EndsBoth (status_of outcome) status recording (recorded_text limits staged.history said outcome) rec out
      → EndsCommand keep heard left faults command status script bank added rest links links_after clock rec out
  lanes_end caps watch lanes limits_so staged both =
      ends_played (mode_of command) PlaysSo script (length bank) rec out lines is limits recording said outcome status
      (staged_so (PlaysLanes keep heard limits watch bank played kept lines) (PlaysSo lines) limits recording said outcome
      (λ text plays.
      subst (λ (c : LiveCommand). plays_of keep heard left faults c bank added rest links links_after clock lines recording text outcome) (sym lanes)
      (subst (λ (l : List M). PlaysLanes keep heard (live_limits caps) watch bank added l lines recording text outcome) (sym rest_so)
      (subst (λ (a : List (ℕ × M)). PlaysLanes keep heard (live_limits caps) watch bank a kept lines recording text outcome) (sym added_so)
      (subst (λ (l : Limits). PlaysLanes keep heard l watch bank played kept lines recording text outcome) limits_so plays)))) staged) enough both

  -- links
  pub links_end : (transport : Transport) (port ports count idle : ℕ) (caps : Capacities)
      → command ≡ live.Serve transport port ports count idle caps → limits ≡ live_limits caps
      → (staged : IsStaged (PlaysLinks keep heard left faults limits (record { count = count; idle = idle }) bank links clock played kept links_after lines)
      limits recording said outcome)
      → EndsBoth (status_of outcome) status recording (recorded_text limits staged.history said outcome) rec out
      → EndsCommand keep heard left faults command status script bank added rest links links_after clock rec out
  links_end transport port ports count idle caps serve limits_so staged both =
      let bounds : Bounds = record { count = count; idle = idle } in
      ends_played (mode_of command) PlaysSo script (length bank) rec out lines is limits recording said outcome status
      (staged_so (PlaysLinks keep heard left faults limits bounds bank links clock played kept links_after lines) (PlaysSo lines) limits recording said outcome
      (λ text plays.
      subst (λ (c : LiveCommand). plays_of keep heard left faults c bank added rest links links_after clock lines recording text outcome) (sym serve)
      (subst (λ (l : List M). PlaysLinks keep heard left faults (live_limits caps) bounds bank links clock added l links_after lines recording text outcome)
      (sym rest_so)
      (subst (λ (a : List (ℕ × M)). PlaysLinks keep heard left faults (live_limits caps) bounds bank links clock a kept links_after lines recording text
      outcome) (sym added_so)
      (subst (λ (l : Limits). PlaysLinks keep heard left faults l bounds bank links clock played kept links_after lines recording text outcome) limits_so
      plays)))) staged) enough both

-- Where no lines came of the input.

module _ (mode : Mode) (left : Option (List ℕ)) (out : SinkChange) where
  -- a command ends as its script is refused
  pub script_refused : (plays : List Line → List ℕ → List ℕ → Outcome → Type 0) (have : ℕ) (rec : SinkChange) (status decided : ℕ) → status ≡ decided
      → RefusesScript mode decided left out → status ≢ 4 → OfInput left (λ script. EndsLive mode plays status script have rec out)
  script_refused plays have rec status decided same refuses read = go refuses.known where
    go : (decided ≡ 1) ⊎ (decided ≡ 3) ⊎ (decided ≡ 4) → OfInput left (λ script. EndsLive mode plays status script have rec out)
    go (inl one) =
        of_so left (λ script. IsErrAnd (script_of mode script) (λ fault. GainsUnless out (refusal_text fault)))
        (λ script. EndsLive mode plays status script have rec out)
        (λ script refused. ends_refused mode plays script have rec out status decided same (inl one) (λ is. refused)) (refuses.refused one)
    go (inr (inl three)) =
        any_bytes left (λ script. EndsLive mode plays status script have rec out)
        (λ script. ends_short_of_memory mode plays script have rec out status (same ∙ three))
    go (inr (inr four)) = absurd (read (same ∙ four))

  -- what is lawful isn't refused
  pub lawful_short : (decided faults later : ℕ) (P : List Line → Type 0) → RefusesScript mode decided left out → (decided ≡ 4 → Rose faults later)
      → IfSome left (λ script. IsOkAnd (script_of mode script) P → ¬ Rose faults later → decided ≡ 3)
  lawful_short decided faults later P refuses failed = go refuses.known where
    Short : List ℕ → Type 0
    Short script = IsOkAnd (script_of mode script) P → ¬ Rose faults later → decided ≡ 3

    go : (decided ≡ 1) ⊎ (decided ≡ 3) ⊎ (decided ≡ 4) → IfSome left Short
    go (inl one) =
        if_so left (λ script. IsErrAnd (script_of mode script) (λ fault. GainsUnless out (refusal_text fault))) Short
        (λ script refused lawful steady. absurd (not_both (script_of mode script) P (λ fault. GainsUnless out (refusal_text fault)) lawful refused))
        (refuses.refused one)
    go (inr (inl three)) = if_any left Short (λ script lawful steady. three)
    go (inr (inr four)) = if_any left Short (λ script lawful steady. absurd (steady (failed four)))
