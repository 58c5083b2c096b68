-- A stage whose opening carries another one on.
use Rattle.std.proofs.Common.{◌≡◌, ℕ, List, [], ◌++◌, map, length, drop, Option, sym, ap, subst, ◌∙◌}
use Rattle.osc_method.specs.Heard.{Fixed}
use Rattle.osc_model.specs.Limits.{Limits}
use Rattle.osc_model.specs.State.{State, opening}
use Rattle.osc_model.specs.Events.{Entry}
use Rattle.osc_model.specs.History.{after}
use Rattle.osc_core.specs.Standing.{history_in}
use Rattle.osc_turn.specs.History.{texts}
use Rattle.osc_script.specs.declared.line.Line.{Line}
use Rattle.osc_player.specs.Plain.{plain}
use Rattle.osc_carry.specs.Carried.{carried, carried_acts}
use Rattle.osc_carry.specs.Leading.{with_room, CarriesOn}
use Rattle.osc_script.specs.Adds.{count_adds}
use Rattle.osc_score_laws.specs.Heard.{NoneIsRefused}
use Rattle.osc_alike.specs.Alike.{address_of}
use Rattle.osc_life.specs.Crews.{enrolments}
use Rattle.osc_lanes.specs.Performs.{Part, part_of, told_of}
use Rattle.osc_links.specs.Links.{LinkTurn}
use Rattle.osc_links.specs.Ticks.{ClockRead}
use Rattle.osc_relay.specs.declared.outlet.Outlet.{Ghosts}
use Rattle.osc_relay.specs.declared.relay.Relay.{Relay}
use Rattle.osc_stage.specs.declared.stage.Stage.{Stage}
use Rattle.osc_stage.specs.declared.stage.Staged.{Staged}
use Rattle.osc_stage.specs.Stages.{carried_on, IsStaged}
use Rattle.osc_stage.specs.Lines.{acts_of}
use Rattle.osc_chain_laws.specs.Openings.{StandAt, told_faults, IsPlain, BeginsWith}
use Rattle.osc_chain_laws.specs.Continuations.{IsRecorded, Continues}
use Rattle.osc_chain_laws.proofs.Lines.{opening_acts, acts_are}
use Rattle.osc_chain_laws.proofs.Added.{carried_counted, none_left}
use Rattle.osc_chain_laws.proofs.Opened.{hosted_plain, hosted_begins, hosted_back}
use Rattle.osc_chain_laws.proofs.Same.{IsSame, same_lines, none_same}

module _ {O L : Type 0} {G : Ghosts O} (keep : Relay O G → Fixed) (heard : Relay O G → Option (List ℕ)) (left : L → Option (List LinkTurn)) (faults : L → ℕ)
    (stage : Stage O L G) (clock : ClockRead) (staged : Staged O L G) (is : IsStaged keep heard left faults stage clock staged) where
  -- the one history of a stage
  abbrev pub history_of : List Entry
  history_of = history_in (texts (is.hosts).history)

  pub stage_recorded : IsRecorded stage.caps history_of staged.recording.items
  stage_recorded = record {
    legal = ((is.hosts).stage).legal;
    laws = ((is.hosts).stage).laws;
    text = is.recording_is ∙ ((is.hosts).closed).recorded;
  }

  pub stage_continues : (caps : Limits) (old : List Entry) (room : ℕ) (relays : List (Relay O G)) → CarriesOn caps old room
      → stage.caps ≡ with_room caps room → StandAt relays (after (opening caps) old) → part_of stage.opening ≡ carried_on relays (carried caps old)
      → Continues caps old room staged
  stage_continues caps old room relays carries limits stand part =
      let new : Limits = with_room caps room in
      let state : State = after (opening caps) old in
      let lines : List Line = (part_of stage.opening).lines in
      let others : List Line = carried caps old in
      let are : acts_of lines ≡ carried_acts state = ap (λ (p : Part (Relay O G)). acts_of p.lines) part ∙ opening_acts state relays stand in
      let acts : acts_of lines ≡ acts_of others = are ∙ sym (acts_are 1 (carried_acts state)) in
      let same : IsSame (plain new lines) (plain new others) = same_lines (opening new) lines others acts in
      let plays : IsPlain stage.caps lines (told_of (is.hosted).opening) (history_in (texts (is.hosts).opened)) =
      hosted_plain keep heard left faults stage.caps stage.links.bounds (part_of stage.opening) stage.links.from.items clock is.hosted is.hosts in
      let begins : BeginsWith stage.caps lines (is.hosts).callers history_of =
      hosted_begins keep heard left faults stage.caps stage.links.bounds (part_of stage.opening) stage.links.from.items clock is.hosted is.hosts in
      let told : ((told_of (is.hosted).opening).faults) ≡ told_faults (plain new lines).faults =
      plays.faults ∙ ap (λ (c : Limits). told_faults (plain c lines).faults) limits in
      let none : (plain new lines).faults ≡ [] = none_same (plain new lines).faults (plain new others).faults same.faults carries.faultless in
      let counted : count_adds lines ≡ length (map address_of state.methods) = carried_counted state lines are in
      let back : (told_of (is.hosted).opening).back ≡ drop (count_adds lines) relays =
      hosted_back keep heard left faults stage.caps stage.links.bounds (part_of stage.opening) stage.links.from.items clock is.hosted is.hosts
      (ap (λ (c : Limits). (plain c lines).stop) limits ∙ same.stop ∙ carries.goes_on)
      (subst (λ (c : Limits). NoneIsRefused (plain c lines).history) (sym limits) (subst NoneIsRefused (sym same.history) carries.accepted))
      ∙ ap (λ (p : Part (Relay O G)). drop (count_adds lines) p.boxes) part in
      record {
        history = history_of;
        callers = (is.hosts).callers;
        recorded = subst (λ (c : Limits). IsRecorded c history_of staged.recording.items) limits stage_recorded;
        carried_on = carries;
        begins = record {
          rest = begins.rest;
          is = begins.is
              ∙ ap (λ (c : Limits). (plain c lines).history ++ (enrolments 1 (is.hosts).callers ++ begins.rest)) limits
              ∙ ap (λ (l : List Entry). l ++ (enrolments 1 (is.hosts).callers ++ begins.rest)) same.history;
        };
        faultless = (is.opened).opening_faults_are ∙ told ∙ ap told_faults none;
        all_added = (is.opened).left_are ∙ back ∙ none_left relays (count_adds lines) (λ relay. relay.address) (map address_of state.methods) counted stand;
      }
