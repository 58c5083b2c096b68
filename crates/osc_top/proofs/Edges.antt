-- From how a program ends to what became of its links and its clock.
use Rattle.std.proofs.Common.{◌≡◌, ◌≢◌, inl, inr, ℕ, ◌+◌, Bool, true, false, List, [], ◌∷◌, ◌++◌, map, length, Option, Some, None}
use Rattle.std.proofs.Common.{refl, sym, ap, subst, ◌∙◌, append_assoc, arith}
use Rattle.std.specs.Prelude.{IfSome}
use Rattle.std.specs.List.{flat_map}
use Rattle.std.specs.Option.{option_map, option_or}
use Rattle.std.proofs.lemmas.List.Concat.{flat_map-append}
use Rattle.osc_edge.specs.Faults.{Rose}
use Rattle.osc_atoms.specs.declared.fault.Fault.{Fault}
use Rattle.osc_method.specs.Heard.{Fixed}
use Rattle.osc_model.specs.Events.{Room}
use Rattle.osc_model.specs.History.{Legal}
use Rattle.osc_model.specs.Limits.{Limits}
use Rattle.osc_laws.specs.Laws.{KeepsTheLaws}
use Rattle.osc_record.specs.Shown.{room_of}
use Rattle.osc_core.specs.Standing.{history_in}
use Rattle.osc_turn.specs.declared.view.Entry.{Entry as Seen}
use Rattle.osc_turn.specs.History.{texts}
use Rattle.osc_links.specs.declared.served.Bounds.{Bounds}
use Rattle.osc_links.specs.Links.{LinkTurn}
use Rattle.osc_links.specs.Ticks.{ClockRead}
use Rattle.osc_lanes.specs.Shares.{Account}
use Rattle.osc_print.specs.Lines.{fault_text}
use Rattle.osc_replay.specs.Printed.{printed}
use Rattle.osc_script.specs.declared.line.Line.{Line}
use Rattle.osc_words.specs.declared.command.Capacities.{Capacities}
use Rattle.osc_words.specs.declared.command.LiveCommand.{LiveCommand}
use Rattle.osc_words.specs.declared.command.LiveCommand.TheVariants as live
use Rattle.osc_ends.specs.declared.outcome.Outcome.{Outcome}
use Rattle.osc_ends.specs.declared.outcome.Outcome.TheVariants.{Done, Full, LinkFailed, ClockFailed}
use Rattle.osc_top.specs.Commands.{capacities_of, mode_of}
use Rattle.osc_links.specs.Faults.{HasLinkRisen}
use Rattle.osc_links.proofs.LinkFaults.{links_steady, clock_steady, hosts_link_risen, hosts_clock_risen}
use Rattle.osc_top.specs.Edges.{HasRisen, TellsEdge}
use Rattle.osc_top.specs.EndsCommand.{EndsCommand, plays_of}
use Rattle.osc_top.specs.History.{IsOneHistory, RecordsHistory}
use Rattle.osc_top.specs.Lanes.{HaveHeardAll, first_stop, lane_faults}
use Rattle.osc_top.specs.Watched.{EndsListed, faults_text, methods_text, watched_text}
use Rattle.osc_ends.specs.Ends.{IsWritten}
use Rattle.osc_top.specs.Served.{served}
use Rattle.osc_ends.specs.Outcomes.{status_of}
use Rattle.osc_top.specs.Commands.{live_limits}
use Rattle.osc_ends.specs.Printing.{last_text}
use Rattle.osc_top.specs.Served.{PlaysLinks, adds_part, link_faults}
use Rattle.osc_ends.specs.Sinks.{SinkChange, Gains, GainsAll}
use Rattle.osc_ends.specs.Inputs.{OfInput}
use Rattle.osc_ends.proofs.Inputs.{any_bytes}
use Rattle.osc_top.proofs.LiveEnds.{ends_short_of_memory, not_failed, written_of}

-- An outcome by what failed.

done_so : (outcome : Outcome) → status_of outcome ≡ 0 → outcome ≡ Done
done_so Done is = refl
done_so (Full need free) is = absurd (omega (arith, is))
done_so (LinkFailed link) is = absurd (omega (arith, is))
done_so ClockFailed is = absurd (omega (arith, is))

none_failed : (failed : Option ℕ) (clock_failed : Bool) (stop : Option Room) → served failed clock_failed stop ≡ Done
    → (failed ≡ None) × (clock_failed ≡ false)
none_failed (Some link) clock_failed stop is = absurd (cc)
none_failed None true stop is = absurd (cc)
none_failed None false stop is = (refl, refl)

-- The faults of lanes, joined.

abbrev all_faults : {M : Type 0} → List (Account M) → List (ℕ × Fault)
all_faults accounts = flat_map (λ account. account.faults) accounts

faults_joined : {M : Type 0} (accounts : List (Account M)) → lane_faults accounts ≡ faults_text (all_faults accounts)
faults_joined [] = refl
faults_joined (account ∷ accounts) =
    ap (λ (said : List ℕ). faults_text account.faults ++ said) (faults_joined accounts)
    ∙ sym (flat_map-append (λ (one : ℕ × Fault). fault_text one.0 one.1) account.faults (all_faults accounts))

-- The same of a program's end, and its history.

-- boxes that have heard all of a history
one_of : {M : Type 0} (keep : M → Fixed) (heard : M → Option (List ℕ)) (caps : Limits) (history : List Seen) (boxes : List (ℕ × M))
    → Legal caps (history_in (texts history)) → KeepsTheLaws caps (history_in (texts history)) → HaveHeardAll keep heard caps history boxes
    → IsOneHistory keep heard caps (history_in (texts history)) boxes
one_of keep heard caps history boxes legal laws all = record { legal = legal; laws = laws; ids = all.ids; have_heard = all.have_heard }

risen_by : {L : Type 0} (faults : L → ℕ) (links links_after : List L) (clock : ClockRead) (failed : Option ℕ) (clock_failed : Bool) (stop : Option Room)
    → status_of (served failed clock_failed stop) ≡ 7 → ((link : ℕ) → failed ≡ Some link → HasLinkRisen faults link links links_after)
    → (clock_failed ≡ true → Rose clock.faults clock.now) → HasRisen faults (served failed clock_failed stop) links links_after clock
risen_by faults links links_after clock (Some link) clock_failed stop seven link_risen clock_risen = link_risen link refl
risen_by faults links links_after clock None true stop seven link_risen clock_risen = clock_risen refl
risen_by faults links links_after clock None false None seven link_risen clock_risen = absurd (omega (arith, seven))
risen_by faults links links_after clock None false (Some room) seven link_risen clock_risen = absurd (omega (arith, seven))

module _ {M L : Type 0} (keep : M → Fixed) (heard : M → Option (List ℕ)) (left : L → Option (List LinkTurn)) (faults : L → ℕ) (status : ℕ) (bank : List M)
    (added : List (ℕ × M)) (rest : List M) (links links_after : List L) (clock : ClockRead) (rec out : SinkChange) where
  abbrev EndsSo : LiveCommand → List ℕ → Type 0
  EndsSo command script = EndsCommand keep heard left faults command status script bank added rest links links_after clock rec out

  abbrev PlaysIn : LiveCommand → List Line → List ℕ → List ℕ → Outcome → Type 0
  PlaysIn command = plays_of keep heard left faults command bank added rest links links_after clock

  written_by : (command : LiveCommand) (script : List ℕ) → EndsSo command script → IsWritten status
      → (lines : List Line) × (recording : List ℕ) × (text : List ℕ) × (outcome : Outcome) × (status ≡ status_of outcome)
      × PlaysIn command lines recording text outcome × GainsAll rec recording × GainsAll out text
  written_by command script ends written = written_of (mode_of command) (PlaysIn command) script (length bank) rec out status ends written

  -- any script of any command may end out of memory
  pub live_short : (said : Option LiveCommand) (source : Option (List ℕ)) → status ≡ 3
      → IfSome said (λ command. status ≢ 4 → OfInput source (EndsSo command))
  live_short None source is = tt
  live_short (Some command) source is =
      λ read. any_bytes source (EndsSo command)
      (λ script. ends_short_of_memory (mode_of command) (PlaysIn command) script (length bank) rec out status is)

  -- no count of faults rose
  abbrev AreStill : Type 0
  AreStill = (map faults links_after ≡ map faults links) × (clock.now ≡ clock.faults)

  module _ (limits : Limits) (bounds : Bounds) (lines : List Line) (recording text : List ℕ) (outcome : Outcome)
      (plays : PlaysLinks keep heard left faults limits bounds bank links clock added rest links_after lines recording text outcome) where
    abbrev stop : Option Room
    stop = option_map room_of (option_or plays.hosted.opening.stop (option_or plays.hosted.unenrolled plays.hosted.links.stop))

    played_still : status_of outcome ≡ 0 → AreStill
    played_still zero_is =
        let none = none_failed plays.hosted.links.failed plays.hosted.links.clock_failed stop (sym plays.outcome_is ∙ done_so outcome zero_is) in (
          ap (map faults) plays.links_are
              ∙ links_steady left faults keep heard limits bounds (adds_part lines bank) links clock plays.hosted plays.hosts none.0,
          clock_steady left faults keep heard limits bounds (adds_part lines bank) links clock plays.hosted plays.hosts none.1,
        )

    played_risen : status_of outcome ≡ 7 → HasRisen faults outcome links links_after clock
    played_risen seven =
        let told = plays.hosted.links in
        subst (λ (o : Outcome). HasRisen faults o links links_after clock) (sym plays.outcome_is)
        (subst (λ (l : List L). HasRisen faults (served told.failed told.clock_failed stop) links l clock) (sym plays.links_are)
        (risen_by faults links told.links.items clock told.failed told.clock_failed stop (sym (ap status_of plays.outcome_is) ∙ seven)
        (λ link is. (hosts_link_risen left faults keep heard limits bounds (adds_part lines bank) links clock plays.hosted plays.hosts link is).0)
        (hosts_clock_risen left faults keep heard limits bounds (adds_part lines bank) links clock plays.hosted plays.hosts)))

  pub live_still : (command : LiveCommand) (script : List ℕ) → EndsSo command script
      → ((caps : Capacities) (watch : Bool) → command ≡ live.Lanes caps watch → AreStill) → status ≡ 0 → AreStill
  live_still (live.Lanes caps watch) script ends lanes zero_is = lanes caps watch refl
  live_still (live.Serve transport port ports count idle caps) script ends lanes zero_is =
      let all = written_by (live.Serve transport port ports count idle caps) script ends (inl zero_is) in
      played_still (live_limits caps) (record { count = count; idle = idle }) all.0 all.1 all.2 all.3 all.5 (sym all.4 ∙ zero_is)

  pub live_edge : (command : LiveCommand) (script : List ℕ) → EndsSo command script → status ≡ 7 → TellsEdge faults links links_after clock out
  live_edge (live.Lanes caps watch) script ends seven =
      let all = written_by (live.Lanes caps watch) script ends (inr (inr seven)) in
      absurd (not_failed status all.3 (option_or all.5.unenrolled (first_stop all.5.accounts)) all.4 all.5.outcome_is seven)
  live_edge (live.Serve transport port ports count idle caps) script ends seven =
      let all = written_by (live.Serve transport port ports count idle caps) script ends (inr (inr seven)) in
      let plays = all.5 in
      let front = printed (live_limits caps) (history_in (texts plays.hosts.history)) in
      let said = link_faults plays.hosted.links.faults.items in
      record {
        outcome = all.3;
        text = front ++ said;
        risen = played_risen (live_limits caps) (record { count = count; idle = idle }) all.0 all.1 all.2 all.3 plays (sym all.4 ∙ seven);
        told = subst (Gains out) (plays.text_is ∙ sym (append_assoc front said (last_text all.3))) all.7.0;
      }

  pub live_history : (command : LiveCommand) (script : List ℕ) → EndsSo command script → IsWritten status
      → RecordsHistory keep heard (live_limits (capacities_of command)) added rec out
  live_history (live.Lanes caps watch) script ends written =
      let all = written_by (live.Lanes caps watch) script ends written in
      let performs = all.5.performs in
      record {
        history = history_in (texts performs.history);
        rest = lane_faults all.5.accounts ++ (watched_text watch (history_in (texts performs.history)) ++ last_text all.3);
        one = one_of keep heard (live_limits caps) performs.history added performs.stage.legal performs.stage.laws all.5.boxes;
        recorded = subst (Gains rec) performs.closed.recorded all.6.0;
        text = subst (Gains out) all.5.text_is all.7.0;
      }
  live_history (live.Serve transport port ports count idle caps) script ends written =
      let all = written_by (live.Serve transport port ports count idle caps) script ends written in
      let hosts = all.5.hosts in
      record {
        history = history_in (texts hosts.history);
        rest = link_faults all.5.hosted.links.faults.items ++ last_text all.3;
        one = one_of keep heard (live_limits caps) hosts.history added hosts.stage.legal hosts.stage.laws all.5.boxes;
        recorded = subst (Gains rec) (all.5.recorded ∙ hosts.closed.recorded) all.6.0;
        text = subst (Gains out) all.5.text_is all.7.0;
      }

  -- lanes that are watched are listed
  pub live_listed : (caps : Capacities) (command : LiveCommand) → command ≡ live.Lanes caps true → (script : List ℕ) → EndsSo command script
      → IsWritten status → EndsListed status (live_limits caps) rec out
  live_listed caps command lanes script ends written =
      let all = written_by (live.Lanes caps true) script (subst (λ (c : LiveCommand). EndsSo c script) lanes ends) written in
      let performs = all.5.performs in
      let history = history_in (texts performs.history) in
      record {
        history = history;
        faults = all_faults all.5.accounts;
        outcome = all.3;
        legal = performs.stage.legal;
        status_is = all.4;
        recorded = subst (Gains rec) performs.closed.recorded all.6.0;
        told =
            subst (Gains out)
            (all.5.text_is
            ∙ ap (λ (said : List ℕ). printed (live_limits caps) history ++ (said ++ (methods_text history ++ last_text all.3))) (faults_joined all.5.accounts))
            all.7.0;
      }
