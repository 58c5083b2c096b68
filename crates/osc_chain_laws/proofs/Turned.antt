-- A stage turns over to one whose opening is read from the script that carries its recording on.
use Rattle.osc_method.specs.Heard.{Fixed}
use Rattle.osc_script.specs.declared.script.TheConstants.{MAX_SCRIPT}
use Rattle.std.proofs.Common.{◌≡◌, ℕ, ◌+◌, ◌*◌, ◌≤◌, Bool, true, false, cond, nat_lt, List, [], ◌∷◌, length, map, Option, Result, Ok, Err, refl, sym, ap, subst, ◌∙◌, arith}
use Rattle.std.proofs.lemmas.Bool.{ltb-false}
use Rattle.osc_atoms.specs.Atoms.{AreBytes}
use Rattle.osc_model.specs.Limits.{Limits}
use Rattle.osc_model.specs.State.{State, opening}
use Rattle.osc_model.specs.Events.{Entry}
use Rattle.osc_model.specs.History.{Legal, after}
use Rattle.osc_script.specs.declared.fault.ScriptFault.{ScriptFault}
use Rattle.osc_script.specs.declared.fault.ScriptFaultKind.TheVariants as kinds
use Rattle.osc_script.specs.declared.line.Line.{Line}
use Rattle.osc_script.specs.declared.mode.Mode.TheVariants.{Plain}
use Rattle.osc_script.specs.Kinds.{kind_number}
use Rattle.osc_script.specs.Scripts.{script_of, script_from}
use Rattle.osc_script.specs.Words.{lines_of}
use Rattle.osc_alike.specs.Alike.{address_of}
use Rattle.osc_replay.specs.Disagreeing.{IsRecordingOf}
use Rattle.osc_ends.specs.Sinks.{SinkChange}
use Rattle.osc_carry.specs.Carried.{carried, carried_script, carried_size}
use Rattle.osc_carry.specs.Leading.{with_room, LeadsThere}
use Rattle.osc_carry.specs.Waiting.{AreOfBytes}
use Rattle.osc_carry.proofs.Carrying.{OfRecordings, is_record, history_bytes}
use Rattle.osc_lanes.specs.Performs.{part_of}
use Rattle.osc_links.specs.Links.{LinkTurn}
use Rattle.osc_relay.specs.declared.outlet.Outlet.{Ghosts}
use Rattle.osc_relay.specs.declared.relay.Relay.{Relay}
use Rattle.osc_stage.specs.Stages.{carried_on, IsStaged, RecordsStage, AddsAtOwn, method_of}
use Rattle.osc_chain_laws.specs.Continuations.{IsRecorded}
use Rattle.osc_chain_laws.specs.Openings.{StandAt}
use Rattle.osc_stage.specs.Lines.{added_in}
use Rattle.osc_chain_laws.specs.Shows.{Scene, TurnsOver, IsCarriedScript}
use Rattle.osc_chain_laws.proofs.Continuing.{history_of, stage_recorded}
use Rattle.osc_chain_laws.proofs.Lines.{carried_adds}

-- a script that is read isn't too long
read_short : (script : List ℕ) (lines : List Line) → script_of Plain script ≡ Ok lines → length script ≤ MAX_SCRIPT
read_short script lines read = go (nat_lt MAX_SCRIPT (length script)) refl read where
  go : (t : Bool) → nat_lt MAX_SCRIPT (length script) ≡ t
      → cond {A = Result (List Line) ScriptFault} t (Err (record { line = 0; kind = kind_number kinds.TooLong }))
      (script_from Plain 1 (lines_of script)) ≡ Ok lines
      → length script ≤ MAX_SCRIPT
  go true e is = absurd (cc)
  go false e is = ltb-false _ _ e

same_lines : (one other : List Line) → ◌≡◌ {A = Result (List Line) ScriptFault} (Ok one) (Ok other) → one ≡ other
same_lines one other same = cc

-- what is known of scripts that carry a history on, and of how much they take
abbrev pub LeadThere : Type 0
LeadThere =
    (caps : Limits) (history : List Entry) (room : ℕ) → Legal caps history → AreOfBytes history → length (carried_script caps history) ≤ MAX_SCRIPT
    → carried_size (after (opening caps) history) ≤ room → LeadsThere (carried_script caps history) caps history room

abbrev pub AreEnough : Type 0
AreEnough = (caps : Limits) (history : List Entry) → Legal caps history
    → carried_size (after (opening caps) history) ≤ 108 + 299 * caps.methods + 119 * caps.units + 64 * caps.blocks

-- what stands at the addresses of relays that are methods
addresses_same : {O : Type 0} {G : Ghosts O} (relays : List (ℕ × Relay O G)) → map address_of (map method_of relays) ≡ map (λ relay. relay.address) (map (λ one. one.1) relays)
addresses_same [] = refl
addresses_same (one ∷ relays) = ap (λ (l : List (List ℕ)). one.1.address ∷ l) (addresses_same relays)

module _ {O L : Type 0} {G : Ghosts O} (keep : Relay O G → Fixed) (heard : Relay O G → Option (List ℕ)) (left : L → Option (List LinkTurn)) (faults : L → ℕ) where
  -- the relays stand where the methods are that a recording ends with, and whose lines these are
  abbrev pub StandThere : List (Relay O G) → List ℕ → List Line → Type 0
  StandThere relays recording lines = (caps : Limits) (old : List Entry) → IsRecordingOf recording caps old → lines ≡ carried caps old
      → StandAt relays (after (opening caps) old)

  turned_there : OfRecordings → LeadThere → AreEnough → (last next : Scene O L G) (script : List ℕ) (lines : List Line) (relays : List (Relay O G))
      → IsStaged keep heard left faults last.stage last.clock last.staged → AreBytes last.staged.recording.items
      → IsCarriedScript last.staged.recording.items script → script_of Plain script ≡ Ok lines
      → part_of next.stage.opening ≡ carried_on relays lines → StandThere relays last.staged.recording.items lines
      → next.stage.caps ≡ with_room last.stage.caps next.stage.caps.recording
      → 108 + 299 * last.stage.caps.methods + 119 * last.stage.caps.units + 64 * last.stage.caps.blocks ≤ next.stage.caps.recording
      → TurnsOver last next
  turned_there known leads enough last next script lines relays staged bytes (caps, old, is, same) read opens stand limits fits =
      let recording : List ℕ = last.staged.recording.items in
      let room : ℕ = next.stage.caps.recording in
      let state : State = after (opening caps) old in
      let history : List Entry = history_of keep heard left faults last.stage last.clock last.staged staged in
      let had : IsRecorded last.stage.caps history recording = stage_recorded keep heard left faults last.stage last.clock last.staged staged in
      let caps_are : caps ≡ last.stage.caps =
      (known.apart caps last.stage.caps old history (is_record known caps old is.legal) (is_record known last.stage.caps history had.legal)
      (sym is.text ∙ had.text)).0 in
      let short : length (carried_script caps old) ≤ MAX_SCRIPT = subst (λ (s : List ℕ). length s ≤ MAX_SCRIPT) same (read_short script lines read) in
      let there : LeadsThere (carried_script caps old) caps old (carried_size state) =
      leads caps old (carried_size state) is.legal (history_bytes known recording caps old bytes is) short (omega arith) in
      let lines_are : lines ≡ carried caps old = same_lines lines (carried caps old) (sym read ∙ ap (script_of Plain) same ∙ there.read) in
      let takes : carried_size state ≤ 108 + 299 * caps.methods + 119 * caps.units + 64 * caps.blocks = enough caps old is.legal in
      let bound : 108 + 299 * caps.methods + 119 * caps.units + 64 * caps.blocks ≤ room =
      subst (λ (c : Limits). 108 + 299 * c.methods + 119 * c.units + 64 * c.blocks ≤ room) (sym caps_are) fits in
      record {
        caps = caps;
        old = old;
        recorded = is;
        bytes = bytes;
        relays = relays;
        stand = stand caps old is lines_are;
        opens = opens ∙ ap (carried_on relays) lines_are;
        limits = limits ∙ ap (λ (c : Limits). with_room c room) (sym caps_are);
        fits = omega (arith, takes, bound);
      }

  pub turned : OfRecordings → LeadThere → AreEnough → (last next : Scene O L G) (script : List ℕ) (lines : List Line) (relays : List (Relay O G))
      → IsStaged keep heard left faults last.stage last.clock last.staged → AreBytes last.staged.recording.items
      → IsCarriedScript last.staged.recording.items script → script_of Plain script ≡ Ok lines
      → part_of next.stage.opening ≡ carried_on relays lines → map (λ relay. relay.address) relays ≡ added_in lines
      → next.stage.caps ≡ with_room last.stage.caps next.stage.caps.recording
      → 108 + 299 * last.stage.caps.methods + 119 * last.stage.caps.units + 64 * last.stage.caps.blocks ≤ next.stage.caps.recording
      → TurnsOver last next
  turned known leads enough last next script lines relays staged bytes is read opens stand =
      turned_there known leads enough last next script lines relays staged bytes is read opens
      (λ caps old recorded lines_are. stand ∙ ap added_in lines_are ∙ carried_adds (after (opening caps) old))

  -- the same of the relays that a stage hands back, which stand where the methods are
  pub stage_turned : (sent : O → Option (List (List ℕ))) (losses : O → ℕ) → OfRecordings → LeadThere → AreEnough
      → (last next : Scene O L G) (rec : SinkChange) (script : List ℕ) (lines : List Line)
      → IsStaged keep heard left faults last.stage last.clock last.staged
      → RecordsStage keep heard sent losses last.stage last.staged rec → AddsAtOwn (part_of last.stage.opening)
      → AreBytes last.staged.recording.items
      → IsCarriedScript last.staged.recording.items script → script_of Plain script ≡ Ok lines
      → part_of next.stage.opening ≡ carried_on (map (λ one. one.1) last.staged.relays.items) lines
      → next.stage.caps ≡ with_room last.stage.caps next.stage.caps.recording
      → 108 + 299 * last.stage.caps.methods + 119 * last.stage.caps.units + 64 * last.stage.caps.blocks ≤ next.stage.caps.recording
      → TurnsOver last next
  stage_turned sent losses known leads enough last next rec script lines staged records own bytes is read opens =
      turned_there known leads enough last next script lines (map (λ one. one.1) last.staged.relays.items) staged bytes is read opens there where
        there : StandThere (map (λ one. one.1) last.staged.relays.items) last.staged.recording.items lines
        there caps old recorded lines_are =
            let same = known.apart caps last.stage.caps old records.history (is_record known caps old recorded.legal)
            (is_record known last.stage.caps records.history records.legal) (sym recorded.text ∙ records.recording) in
            sym (addresses_same last.staged.relays.items) ∙ ap (map address_of) (records.standing own)
            ∙ ap (λ (s : State). map address_of s.methods) (sym (ap (λ (c : Limits). after (opening c) old) same.0 ∙ ap (after (opening last.stage.caps)) same.1))
