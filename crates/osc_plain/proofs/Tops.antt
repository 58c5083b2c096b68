use Rattle.std.proofs.Common.{◌≡◌, ◌≢◌, ◌⊎◌, inl, inr, ℕ, ◌<◌, ◌≤◌, List, [], length, Option, Some, None, IfSome}
use Rattle.std.proofs.Common.{true, false, IsOkAnd, IsSome, Result, Ok, Err}
use Rattle.std.proofs.Common.{sym, ap, subst, ◌∙◌, arith}
use Rattle.std.specs.Prelude.{IsSomeAnd, IsErrAnd}
use Rattle.osc_method.specs.Heard.{Fixed}
use Rattle.osc_model.specs.Events.{Room}
use Rattle.osc_model.specs.Limits.{Limits, max_recording}
use Rattle.osc_score.specs.Scores.{Note}
use Rattle.osc_score.specs.Scripted.{score_script}
use Rattle.osc_script.specs.declared.line.Line.{Line}
use Rattle.osc_script.specs.declared.fault.ScriptFault.{ScriptFault}
use Rattle.osc_script.specs.declared.script.TheConstants.{MAX_SCRIPT}
use Rattle.osc_script.specs.declared.mode.Mode.TheVariants.{Plain}
use Rattle.osc_script.specs.Adds.{count_adds}
use Rattle.osc_script.specs.Scripts.{plain_script, script_of}
use Rattle.osc_words.specs.declared.command.Capacities.{Capacities}
use Rattle.osc_words.specs.declared.command.Output.{Output}
use Rattle.osc_words.specs.declared.command.PlainCommand.{PlainCommand}
use Rattle.osc_words.specs.declared.command.PlainCommand.TheVariants.{Read, Gen}
use Rattle.osc_words.specs.declared.command.Reading.{Reading}
use Rattle.osc_words.specs.declared.command.Reading.TheVariants.{Run, Replay, Dump, Upgrade, Score, PlayScore}
use Rattle.osc_ends.proofs.Inputs.{any_bytes, if_any, of_so, refused_bytes}
use Rattle.osc_ends.specs.declared.status.TheConstants.{DONE, NO_MEMORY, SINK_FAILED}
use Rattle.osc_ends.specs.CommandEnds.{IsCommandsEnd}
use Rattle.osc_ends.specs.Ends.{EndsLine, EndsText, left_behind}
use Rattle.osc_ends.specs.Inputs.{OfInput, RefusesLength, RefusesScript, SourceOf}
use Rattle.osc_ends.specs.Printing.{bank_short_text, malformed_text, refusal_text}
use Rattle.osc_ends.specs.Recordings.{EndsRecording}
use Rattle.osc_ends.specs.Recordings.{DumpsTo, RefusesForm, RefusesRecording, RefusesUpgrade, ReplaysTo, UpgradesTo}
use Rattle.osc_ends.specs.Sinks.{SinkChange, SinkOf, change, GainsUnless}
use Rattle.osc_player.specs.Enough.{enough}
use Rattle.osc_player.specs.Plain.{plain}
use Rattle.osc_plain.specs.declared.report.Report.{Report}
use Rattle.osc_plain.specs.declared.report.Report.TheVariants.{Text}
use Rattle.osc_plain.specs.Commands.{default_limits, most_bytes, plain_limits}
use Rattle.osc_plain.specs.EndsPlain.{CanBeRead, EndsPlain, EndsReading, HandsAllBack}
use Rattle.osc_plain.specs.Runs.{IsPlayed, IsUnstopped, EndsLines, EndsOver, EndsRead, report_of}
use Rattle.osc_plain.specs.Scores.{EndsNotes, EndsPlaying}

-- the end of a run of a script
abbrev pub EndsRun : (List Line → Type 0) → ℕ → List ℕ → SinkChange → Type 0
EndsRun Ends status script out = EndsRead (plain_script script) refusal_text Ends status out

-- too few boxes
pub short_ends : (report : Report) (caps : Limits) (status status' have have' need : ℕ) (lines : List Line) (out : SinkChange) → status' ≡ status
    → have ≡ have' → need ≡ count_adds lines → have < need → EndsLine 8 status (bank_short_text need have) out → EndsLines report caps status' have' lines out
short_ends report caps status status' have have' need lines out same boxes adds few ends = go ends.known where
  text : bank_short_text need have ≡ bank_short_text (count_adds lines) have'
  text = ap (λ (n : ℕ). bank_short_text n have) adds ∙ ap (bank_short_text (count_adds lines)) boxes

  go : (status ≡ 8) ⊎ (status ≡ 3) → EndsLines report caps status' have' lines out
  go (inl is) = record {
    known = inr (inr (inr (inr (same ∙ is))));
    done = λ zero_is. absurd (omega (arith, same, is, zero_is));
    cut_short = λ five_is. absurd (omega (arith, same, is, five_is));
    full = λ six_is. absurd (omega (arith, same, is, six_is));
    bank_short = λ eight_is. (omega (arith, boxes, adds, few), subst (GainsUnless out) text (ends.written is));
  }
  go (inr is) = record {
    known = inr (inl (same ∙ is));
    done = λ zero_is. absurd (omega (arith, same, is, zero_is));
    cut_short = λ five_is. absurd (omega (arith, same, is, five_is));
    full = λ six_is. absurd (omega (arith, same, is, six_is));
    bank_short = λ eight_is. absurd (omega (arith, same, is, eight_is));
  }

-- no run of lines is refused
pub lines_sound : (report : Report) (caps : Limits) (status have : ℕ) (lines : List Line) (out : SinkChange)
    → EndsLines report caps status have lines out → status ≡ 1 → ⊥
lines_sound report caps status have lines out ends one_is = go ends.known where
  go : (status ≡ 0) ⊎ (status ≡ 3) ⊎ (status ≡ 5) ⊎ (status ≡ 6) ⊎ (status ≡ 8) → ⊥
  go (inl z) = omega (arith, z, one_is)
  go (inr (inl z)) = omega (arith, z, one_is)
  go (inr (inr (inl z))) = omega (arith, z, one_is)
  go (inr (inr (inr (inl z)))) = omega (arith, z, one_is)
  go (inr (inr (inr (inr z)))) = omega (arith, z, one_is)

-- lines that were read end as their script
pub lines_end : (Ends : List Line → Type 0) (status : ℕ) (script : List ℕ) (lines : List Line) (out : SinkChange) → script_of Plain script ≡ Ok lines
    → (status ≡ 1 → ⊥) → Ends lines → EndsRun Ends status script out
lines_end Ends status script lines out is sound ends = record {
  refused = λ one_is. absurd (sound one_is);
  lawful = λ _ _. subst (λ (r : Result (List Line) ScriptFault). IsOkAnd r Ends) (sym is) ends;
}

-- what holds of the command that the words say
pub said_so : (said : Option PlainCommand) (command : PlainCommand) (holds : PlainCommand → Type 0) → said ≡ Some command → holds command → IfSome said holds
said_so said command holds is so = subst (λ (o : Option PlainCommand). IfSome o holds) (sym is) so

-- nothing was played
pub not_played : (status : ℕ) → (status ≡ 1) ⊎ (status ≡ 3) → IsPlayed status → ⊥
not_played status (inl one) (inl zero_is) = omega (arith, one, zero_is)
not_played status (inl one) (inr (inl five_is)) = omega (arith, one, five_is)
not_played status (inl one) (inr (inr six_is)) = omega (arith, one, six_is)
not_played status (inr three) (inl zero_is) = omega (arith, three, zero_is)
not_played status (inr three) (inr (inl five_is)) = omega (arith, three, five_is)
not_played status (inr three) (inr (inr six_is)) = omega (arith, three, six_is)

-- a script of which a run ran out of memory
pub run_short : (Ends : List Line → Type 0) (status : ℕ) (script : List ℕ) (out : SinkChange) → status ≡ 3 → EndsRun Ends status script out
run_short Ends status script out three = record {
  refused = λ one. absurd (omega (arith, one, three));
  lawful = λ _ short. absurd (short three);
}

-- a recording of which a command did
pub recording_short : (Writes Refuses : List ℕ → List ℕ → Type 0) (status : ℕ) (bytes : List ℕ) (out : SinkChange) → status ≡ 3
    → EndsRecording Writes Refuses status bytes out
recording_short Writes Refuses status bytes out three = record {
  known = inr (inr (inl three));
  done = λ zero_is. absurd (omega (arith, three, zero_is));
  refused = λ one. absurd (omega (arith, three, one));
  cut_short = λ five. absurd (omega (arith, three, five));
}

-- a score of which a command did
pub notes_short : (Ends : List Note → Type 0) (status : ℕ) (score : List ℕ) (out : SinkChange) → status ≡ 3 → EndsNotes Ends status score out
notes_short Ends status score out three = record {
  refused = λ one. absurd (omega (arith, one, three));
  lawful = λ _ short. absurd (short three);
}

module _ {M : Type 0} (keep : M → Fixed) (tells : M → Option (List ℕ)) (status : ℕ) (bank : List M) (heard : List (ℕ × M)) (left : List M)
    (out : SinkChange) where
  -- how lines end
  abbrev pub EndsLinesHere : Report → Limits → List Line → Type 0
  EndsLinesHere report caps lines = EndsOver keep tells report caps status bank heard left out lines

  -- lines that were read end as their script
  pub run_read : (input : Option (List ℕ)) (report : Report) (caps : Limits) (lines : List Line) → OfInput input (λ script. script_of Plain script ≡ Ok lines)
      → EndsLinesHere report caps lines → OfInput input (λ script. EndsRun (EndsLinesHere report caps) status script out)
  run_read input report caps lines read ends =
      of_so input (λ script. script_of Plain script ≡ Ok lines) (λ script. EndsRun (EndsLinesHere report caps) status script out)
      (λ script is.
      lines_end (EndsLinesHere report caps) status script lines out is (lines_sound report caps status (length bank) lines out ends.0) ends)
      read

  -- a command that reads an input ran out of memory
  pub reading_short : status ≡ 3 → (reading : Reading) (all : List ℕ) → EndsReading keep tells status bank heard left reading all out
  reading_short three (Run output capacities) script =
      run_short (EndsLinesHere (report_of output) (plain_limits capacities)) status script out three
  reading_short three Replay all = (recording_short ReplaysTo RefusesRecording status all out three, λ short. absurd (short three))
  reading_short three Dump all = (recording_short DumpsTo RefusesForm status all out three, λ short. absurd (short three))
  reading_short three Upgrade all = (recording_short UpgradesTo RefusesUpgrade status all out three, λ short. absurd (short three))
  reading_short three Score score = (
    notes_short (λ notes. EndsText 0 status (score_script notes) out) status score out three,
    λ short. absurd (short three),
  )
  reading_short three PlayScore score = notes_short (EndsPlaying (EndsLinesHere Text default_limits) status (length score)) status score out three

-- a script that is refused
pub run_refused : (Ends : List Line → Type 0) (status decided : ℕ) (input : Option (List ℕ)) (out : SinkChange) → status ≡ decided
    → RefusesScript Plain decided input out → (status ≡ 4 → ⊥) → OfInput input (λ script. EndsRun Ends status script out)
run_refused Ends status decided input out same refuses read =
    refused_bytes status input (λ script. IsErrAnd (script_of Plain script) (λ fault. GainsUnless out (refusal_text fault)))
    (λ script. EndsRun Ends status script out) (subst (λ (s : ℕ). RefusesScript Plain s input out) (sym same) refuses)
    (λ script one refused. record { refused = λ _. refused; lawful = λ lawful _. absurd (lawful one) })
    (λ script three. run_short Ends status script out three) read

module _ {S O M : Type 0} (source_of : SourceOf S) (sink_of : SinkOf O) (keep : M → Fixed) (tells : M → Option (List ℕ)) (source source_after : S)
    (out out_after : O) (bank : List M) (heard : List (ℕ × M)) (left : List M) (status : ℕ) where
  -- what becomes of the sink
  abbrev written : SinkChange
  written = change sink_of out out_after

  -- how this command ends
  abbrev pub EndsHere : PlainCommand → Type 0
  EndsHere command = EndsPlain source_of sink_of keep tells command status source source_after out out_after bank heard left

  -- how one ends that reads an input
  abbrev pub EndsWith : ℕ → ℕ → (List ℕ → SinkChange → Type 0) → (List ℕ → Type 0) → Type 0
  EndsWith most decided Ends Can =
      IsCommandsEnd source_of sink_of most decided source source_after out out_after Ends Can

  -- a script is run
  abbrev pub EndsRunning : Report → Limits → Type 0
  EndsRunning report limits =
      EndsWith MAX_SCRIPT status
      (λ script sink. EndsRun (EndsOver keep tells report limits status bank heard left sink) status script sink)
      (λ script. IsOkAnd (script_of Plain script) (λ lines. (count_adds lines ≤ length bank) × IsUnstopped limits lines))

  -- as the words say
  pub run_said : (output : Output) (capacities : Capacities) (reading : Reading) (report : Report) (limits : Limits) → reading ≡ Run output capacities
      → report ≡ report_of output → limits ≡ plain_limits capacities → EndsRunning report limits → EndsHere (Read reading)
  run_said output capacities reading report limits is said same end =
      subst (λ (r : Reading). EndsHere (Read r)) (sym is)
      (subst (λ (r : Report). EndsRunning r (plain_limits capacities)) said (subst (λ (l : Limits). EndsRunning report l) same end))

  -- a score was played
  pub score_said : (reading : Reading) → reading ≡ PlayScore → EndsHere (Read PlayScore) → EndsHere (Read reading)
  score_said reading is end = subst (λ (r : Reading). EndsHere (Read r)) (sym is) end

  -- a command that plays nothing was done
  pub unplayed_said : (Ends : ℕ → List ℕ → SinkChange → Type 0) (reading other : Reading) (decided : ℕ) → reading ≡ other → status ≡ decided
      → heard ≡ [] → left ≡ bank
      → ((all : List ℕ) → Ends status all written → HandsAllBack status bank heard left → EndsReading keep tells status bank heard left other all written)
      → EndsWith (most_bytes other) decided (Ends decided) (CanBeRead other (length bank)) → EndsHere (Read reading)
  unplayed_said Ends reading other decided is same none all_left so given =
      subst (λ (r : Reading). EndsHere (Read r)) (sym is)
      (record {
        known = end.known;
        said = end.said;
        input = end.input;
        unwritten = end.unwritten;
        ends = λ read.
            of_so (source_of.left source) (λ all. Ends status all written) (λ all. EndsReading keep tells status bank heard left other all written)
            (λ all ends. so all ends (λ _. (none, all_left))) (end.ends read);
        sink = end.sink;
        steady = end.steady;
        ended = end.ended;
        complete = end.complete;
      })
    where
      end : EndsWith (most_bytes other) status (Ends status) (CanBeRead other (length bank))
      end = subst (λ (s : ℕ). EndsWith (most_bytes other) s (Ends s) (CanBeRead other (length bank))) (sym same) given

  -- memory ran out
  pub memory_short : (command : PlainCommand) → status ≡ 3 → heard ≡ [] → left ≡ bank → EndsHere command
  memory_short (Read reading) three none all_left = record {
    known = inl (omega (arith, three));
    said = λ two. omega (arith, three, two);
    input = record {
      source = λ four. absurd (omega (arith, three, four));
      sound = λ short. absurd (short three);
      read = if_any (source_of.left source)
          (λ all. status ≢ 3 → status ≢ 4 → source_of.left source_after ≡ Some (left_behind (most_bytes reading) all)) (λ all short. absurd (short three));
    };
    unwritten = λ four. absurd (omega (arith, three, four));
    ends = λ _.
        any_bytes (source_of.left source)
        (λ all. EndsReading keep tells status bank heard left reading all written)
        (λ all. reading_short keep tells status bank heard left written three reading all);
    sink = λ five. absurd (omega (arith, three, five));
    steady = λ zero_is. absurd (omega (arith, three, zero_is));
    ended = λ zero_is. absurd (omega (arith, three, zero_is));
    complete = λ _ _. inr (inl three);
  }
  memory_short (Gen seed lines) three none all_left = (
    record {
      known = inr (inl three);
      done = λ zero_is. absurd (omega (arith, three, zero_is));
      cut_short = λ five. absurd (omega (arith, three, five));
      full = λ six. absurd (omega (arith, three, six));
      bank_short = λ eight. absurd (omega (arith, three, eight));
    },
    λ played. absurd (not_played status (inr three) played),
  )

-- what holds of every command holds of the one that is said
pub any_said : (said : Option PlainCommand) (holds : PlainCommand → Type 0) → ((command : PlainCommand) → holds command) → IfSome said holds
any_said None holds all = tt
any_said (Some command) holds all = all command

-- a recording that is too long is refused as one that is malformed after the last byte that it may have
pub length_ends : (Writes Refuses : List ℕ → List ℕ → Type 0) (status : ℕ) (left : Option (List ℕ)) (out : SinkChange)
    → ((bytes : List ℕ) → max_recording < length bytes → Refuses bytes (malformed_text max_recording)) → RefusesLength status left out
    → status ≢ 4 → OfInput left (λ all. EndsRecording Writes Refuses status all out)
length_ends Writes Refuses status left out long refuses =
    refused_bytes status left (λ all. (max_recording < length all) × GainsUnless out (malformed_text max_recording))
    (λ all. EndsRecording Writes Refuses status all out) refuses
    (λ all one refused. record {
      known = inr (inl one);
      done = λ zero_is. absurd (omega (arith, one, zero_is));
      refused = λ _. (malformed_text max_recording, long all refused.0, refused.1);
      cut_short = λ five. absurd (omega (arith, one, five));
    })
    (λ all three. recording_short Writes Refuses status all out three)

-- what holds of the bytes that were left holds of those that were read
pub some_bytes : (left : Option (List ℕ)) (bytes : List ℕ) (P : List ℕ → Type 0) → IfSome left (λ all. bytes ≡ all) → IsSomeAnd left P → P bytes
some_bytes None bytes P is holds = absurd holds
some_bytes (Some all) bytes P is holds = subst P (sym is) holds

-- there is a box for each add of the script, and room for its recording
abbrev pub CanRun : ℕ → Limits → List ℕ → Type 0
CanRun have limits script = IsOkAnd (script_of Plain script) (λ lines. (count_adds lines ≤ have) × IsUnstopped limits lines)

-- a script that can be run is
pub run_can : (report : Report) (left : Option (List ℕ)) (lines : List Line) (have : ℕ) (limits : Limits) (status : ℕ) (out : SinkChange)
    → OfInput left (λ script. script_of Plain script ≡ Ok lines) → EndsLines report limits status have lines out → IsSomeAnd left (CanRun have limits)
    → (status ≡ DONE) ⊎ (status ≡ NO_MEMORY) ⊎ (status ≡ SINK_FAILED)
run_can report left lines have limits status out (bytes, is, read) ends can =
    go ends.known (subst (λ (r : Result (List Line) ScriptFault). IsOkAnd r (λ lines. (count_adds lines ≤ have) × IsUnstopped limits lines)) read
    (some_bytes left bytes (CanRun have limits) is can))
  where
    go : (status ≡ 0) ⊎ (status ≡ 3) ⊎ (status ≡ 5) ⊎ (status ≡ 6) ⊎ (status ≡ 8) → (count_adds lines ≤ have) × IsUnstopped limits lines
        → (status ≡ DONE) ⊎ (status ≡ NO_MEMORY) ⊎ (status ≡ SINK_FAILED)
    go (inl at) able = inl at
    go (inr (inl at)) able = inr (inl at)
    go (inr (inr (inl at))) able = inr (inr at)
    go (inr (inr (inr (inl at)))) able =
        let clash : false ≡ true = subst (λ (stop : Option Room). IsSome stop) able.1 (ends.full at).0 in
        absurd (cc (clash))
    go (inr (inr (inr (inr at)))) able = absurd (omega (arith, (ends.bank_short at).0, able.0))

-- one that can be run isn't refused
pub refused_can : (left : Option (List ℕ)) (status decided have : ℕ) (limits : Limits) (out : SinkChange) (Rises : Type 0) → status ≡ decided
    → RefusesScript Plain decided left out → (decided ≡ 4 → Rises) → IsSomeAnd left (CanRun have limits) → (Rises → ⊥)
    → (status ≡ DONE) ⊎ (status ≡ NO_MEMORY) ⊎ (status ≡ SINK_FAILED)
refused_can left status decided have limits out Rises same refuses rises can sound = go refuses.known where
  clash : (read : Result (List Line) ScriptFault) (P : List Line → Type 0) (Q : ScriptFault → Type 0) → IsOkAnd read P → IsErrAnd read Q → ⊥
  clash (Ok lines) P Q ok err = err
  clash (Err fault) P Q ok err = ok

  go : (decided ≡ 1) ⊎ (decided ≡ 3) ⊎ (decided ≡ 4) → (status ≡ DONE) ⊎ (status ≡ NO_MEMORY) ⊎ (status ≡ SINK_FAILED)
  go (inl one) = let refused = refuses.refused one in
      absurd (clash (script_of Plain refused.0) _ _ (some_bytes left refused.0 (CanRun have limits) refused.1 can) refused.2)
  go (inr (inl three)) = inr (inl (same ∙ three))
  go (inr (inr four)) = absurd (sound (rises four))

-- a run whose recording may have bytes enough can be done, so it is
module _ (unstopped : (caps : Limits) (lines : List Line) → enough lines ≤ caps.recording → (plain caps lines).stop ≡ None)
    (output : Output) (capacities : Capacities) (have : ℕ) where
  -- there is a box for each add of the lines, and room for their recording
  abbrev pub HasEnough : List Line → Type 0
  HasEnough lines = (count_adds lines ≤ have) × (enough lines ≤ capacities.recording)

  room_can : (script : Result (List Line) ScriptFault) → IsOkAnd script HasEnough
      → IsOkAnd script (λ lines. (count_adds lines ≤ have) × IsUnstopped (plain_limits capacities) lines)
  room_can (Ok lines) has = (has.0, unstopped (plain_limits capacities) lines has.1)
  room_can (Err fault) has = absurd has

  is_run : (reading : Reading) (said : Option PlainCommand) → Some (Read reading) ≡ said → said ≡ Some (Read (Run output capacities))
      → Run output capacities ≡ reading
  is_run reading said reads is = cc (reads, is)

  done_or : (Cuts : Type 0) (status : ℕ) → (status ≡ DONE) ⊎ (status ≡ NO_MEMORY) ⊎ (status ≡ SINK_FAILED) → (status ≡ SINK_FAILED → Cuts)
      → (Cuts → ⊥) → (status ≡ DONE) ⊎ (status ≡ NO_MEMORY)
  done_or Cuts status (inl done) fails taken = inl done
  done_or Cuts status (inr (inl short)) fails taken = inr short
  done_or Cuts status (inr (inr failed)) fails taken = absurd (taken (fails failed))

  pub enough_done : (Rises Cuts : Type 0) (status : ℕ) (reading : Reading) (said : Option PlainCommand) (left : Option (List ℕ))
      → Some (Read reading) ≡ said → said ≡ Some (Read (Run output capacities))
      → (IsSomeAnd left (CanBeRead reading have) → (Rises → ⊥) → (status ≡ DONE) ⊎ (status ≡ NO_MEMORY) ⊎ (status ≡ SINK_FAILED))
      → (status ≡ SINK_FAILED → Cuts)
      → IfSome left (λ script. IsOkAnd (script_of Plain script) HasEnough → (Rises → ⊥) → (Cuts → ⊥)
      → (status ≡ DONE) ⊎ (status ≡ NO_MEMORY))
  enough_done Rises Cuts status reading said None reads is complete fails = tt
  enough_done Rises Cuts status reading said (Some script) reads is complete fails = λ has sound taken.
      done_or Cuts status
      (complete
      (subst (λ (r : Reading). CanBeRead r have script) (is_run reading said reads is) (room_can (script_of Plain script) has))
      sound)
      fails taken
