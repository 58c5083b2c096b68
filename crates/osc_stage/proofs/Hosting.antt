-- From what was hosted to what is promised of a stage.
use Rattle.std.proofs.Common.{◌≡◌, ◌⊎◌, ℕ, ◌<◌, List, [], ◌∷◌, length, map, All, Option, Result, Ok, Err, IfOk, sym, ap, subst, ◌∙◌}
use Rattle.std.specs.Option.{option_or}
use Rattle.std.specs.List.{AllByRecursion}
use Rattle.std.proofs.lemmas.List.Elements.{All-weaker}
use Rattle.osc_method.specs.Heard.{Fixed}
use Rattle.osc_ends.specs.Sinks.{SinkChange}
use Rattle.osc_core.specs.Standing.{history_in}
use Rattle.osc_core.specs.Telling.{told}
use Rattle.osc_core.proofs.Texts.{TextLaws}
use Rattle.osc_lanes.specs.Performs.{part_of, told_of}
use Rattle.osc_lanes.specs.Shares.{known_of}
use Rattle.osc_life.specs.Holders.{holder_at}
use Rattle.osc_links.specs.declared.run.Hosted.{Hosted}
use Rattle.osc_links.specs.declared.served.Bounds.{Bounds}
use Rattle.osc_links.specs.Hosts.{Hosts}
use Rattle.osc_links.specs.Links.{LinkTurn}
use Rattle.osc_links.specs.Ticks.{ClockRead}
use Rattle.osc_model.specs.Limits.{Limits}
use Rattle.osc_model.specs.State.{opening}
use Rattle.osc_model.specs.Events.{Entry}
use Rattle.osc_model.specs.Heard.{Told, calls_bytes}
use Rattle.osc_model.specs.History.{Legal, HasHeard, HaveHeard, invocations}
use Rattle.osc_relay.specs.declared.outlet.Outlet.{Ghosts}
use Rattle.osc_relay.specs.declared.relay.Relay.{Relay}
use Rattle.osc_relay.specs.Relays.{room_of}
use Rattle.osc_relay.specs.Sent.{HasRelayed}
use Rattle.osc_turn.specs.History.{texts}
use Rattle.osc_stage.specs.declared.ended.Ended.TheVariants.{SinkFailed}
use Rattle.osc_stage.specs.declared.stage.Stage.{Stage}
use Rattle.osc_stage.specs.declared.stage.Staged.{Staged}
use Rattle.osc_stage.specs.Ends.{HasWritten, HasCause}
use Rattle.osc_stage.specs.Sent.{HasSent}
use Rattle.osc_stage.specs.Stages.{end_of, method_of, HaveSent, RecordsStage, IsStaged, IsOpened}
use Rattle.osc_stage.proofs.Ending.{ended_cause}
use Rattle.osc_stage.proofs.Adding.{none_removed}
use Rattle.osc_stage.proofs.Placed.{placed_methods}
use Rattle.osc_links.proofs.LinkFaults.{links_steady, clock_steady, hosts_link_risen, hosts_clock_risen}

-- what was written in the end, from where it began
pub written_on : {X E R : Type 0} (result : Result X E) (written : R → X → Type 0) (start : R) (grown : R → Type 0)
    → IfOk result (λ x. (from : R) → grown from → written from x) → grown start → IfOk result (written start)
written_on (Ok x) written start grown each has = each start has
written_on (Err short) written start grown each has = tt

module _ {O : Type 0} {G : Ghosts O} (keep : Relay O G → Fixed) (heard : Relay O G → Option (List ℕ)) where
  module _ (sent : O → Option (List (List ℕ))) (losses : O → ℕ) where
    -- what each relay's invariant says
    abbrev pub AreRelayed : Type 0
    AreRelayed = (relay : Relay O G) → All (λ outlet. ∥ HasRelayed relay.address (room_of relay) (keep relay).most (heard relay) (sent outlet) (losses outlet) ∥₁)
        relay.outlets.items

    -- what was sent is what the history called
    abbrev pub IsSentAsCalled : Type 0
    IsSentAsCalled = (caps : Limits) (history : List Entry) (told : Told) (address : List ℕ) (room : ℕ) (sent : Option (List (List ℕ))) (losses : ℕ)
        → Legal caps history → HasHeard (invocations (opening caps) history) told
        → length (calls_bytes (invocations (opening caps) history) told.id) < told.keep.most
        → ∥ HasRelayed address room told.keep.most told.heard sent losses ∥₁
        → HasSent (invocations (opening caps) history) told.id address room sent losses

    relays_sent : AreRelayed → IsSentAsCalled → (caps : Limits) (history : List Entry) → Legal caps history → (relays : List (ℕ × Relay O G))
        → AllByRecursion (HasHeard (invocations (opening caps) history)) (told keep heard relays)
        → AllByRecursion (HaveSent keep heard sent losses (invocations (opening caps) history)) relays
    relays_sent relayed law caps history legal [] hear = tt
    relays_sent relayed law caps history legal (one ∷ relays) hear = (
      λ few.
          All-weaker (λ (outlet : O). ∥ HasRelayed one.1.address (room_of one.1) (keep one.1).most (heard one.1) (sent outlet) (losses outlet) ∥₁)
          (λ (outlet : O). HasSent (invocations (opening caps) history) one.0 one.1.address (room_of one.1) (sent outlet) (losses outlet))
          (λ outlet. law caps history (known_of keep heard one.0 one.1) one.1.address (room_of one.1) (sent outlet) (losses outlet) legal hear.0 few)
          one.1.outlets.items (relayed one.1),
      relays_sent relayed law caps history legal relays hear.1,
    )

  module _ {L E : Type 0} (left : L → Option (List LinkTurn)) (faults : L → ℕ) (stage : Stage O L G) (clock : ClockRead) (hosted : Hosted (Relay O G) L)
      (hosts : Hosts left faults keep heard stage.caps stage.links.bounds (part_of stage.opening) stage.links.from.items clock hosted) where
    -- it is staged so
    pub staged_so : (result : Result (Staged O L G) E) → IfOk result (λ staged. staged.recording.items ≡ hosted.closed.bytes.items)
        → IfOk result (λ staged. staged.relays.items ≡ hosted.closed.kept.items) → IfOk result (λ staged. IsOpened staged hosted.opening)
        → IfOk result (λ staged. staged.links.items ≡ hosted.links.links.items) → IfOk result (λ staged. staged.faults.items ≡ hosted.links.faults.items)
        → IfOk result (λ staged. (staged.ended ≡ end_of hosted) ⊎ (staged.ended ≡ SinkFailed))
        → IfOk result (λ staged. IsStaged keep heard left faults stage clock staged)
    staged_so (Ok staged) recording relays opened links refused ended = record {
      hosted = hosted;
      hosts = hosts;
      recording_is = recording;
      relays_are = relays;
      opened = opened;
      none_removed = λ keeps. opened.removed_are
          ∙ none_removed keep heard (holder_at stage.caps 0) stage.opening.lines.items stage.opening.boxes.items (told_of hosted.opening) [] hosts.opened
          hosts.plays keeps;
      links_are = links;
      faults_are = refused;
      ended_is = ended;
    }
    staged_so (Err short) recording relays opened links refused ended = tt

    -- the one history
    pub history_so : (sent : O → Option (List (List ℕ))) (losses : O → ℕ) (rec : SinkChange) → AreRelayed sent losses → IsSentAsCalled sent losses
        → TextLaws → ((relay : Relay O G) → (keep relay).name ≡ relay.address)
        → (result : Result (Staged O L G) E) → IfOk result (λ staged. staged.recording.items ≡ hosted.closed.bytes.items)
        → IfOk result (λ staged. staged.relays.items ≡ hosted.closed.kept.items)
        → IfOk result (λ staged. HasWritten staged.ended rec hosted.closed.bytes.items)
        → IfOk result (λ staged. RecordsStage keep heard sent losses stage staged rec)
    history_so sent losses rec relayed law texts_law named (Ok staged) recording relays written =
        let history = history_in (texts hosts.history) in
        let made = invocations (opening stage.caps) history in
        let kept = hosted.closed.kept.items in
        record {
          history = history;
          legal = hosts.stage.legal;
          laws = hosts.stage.laws;
          have_heard = subst (λ (l : List (ℕ × Relay O G)). HaveHeard (record { caps = stage.caps; history = history }) (told keep heard l)) (sym relays)
              hosts.closed.kept_heard;
          have_sent = subst (AllByRecursion (HaveSent keep heard sent losses made)) (sym relays)
              (relays_sent sent losses relayed law stage.caps history hosts.stage.legal kept hosts.closed.kept_heard.heard);
          standing = λ adds.
              ap (map method_of) relays
              ∙ placed_methods keep heard left faults stage.caps stage.links.bounds (part_of stage.opening) stage.links.from.items clock hosted hosts
              texts_law named adds;
          recording = recording ∙ hosts.closed.recorded;
          written = subst (HasWritten staged.ended rec) hosts.closed.recorded written;
        }
    history_so sent losses rec relayed law texts_law named (Err short) recording relays written = tt

    -- why it ended so
    pub cause_so : (rec : SinkChange) (result : Result (Staged O L G) E) → IfOk result (λ staged. staged.links.items ≡ hosted.links.links.items)
        → IfOk result (λ staged. (staged.ended ≡ end_of hosted) ⊎ (staged.ended ≡ SinkFailed))
        → IfOk result (λ staged. HasWritten staged.ended rec hosted.closed.bytes.items)
        → IfOk result (λ staged. HasCause faults staged.ended stage.links.from.items staged.links.items clock rec)
    cause_so rec (Err short) links ended written = tt
    cause_so rec (Ok staged) links ended written =
        let from = stage.links.from.items in
        let part = part_of stage.opening in
        let bounds = stage.links.bounds in
        let told = hosted.links in
        let stop = option_or hosted.opening.stop (option_or hosted.unenrolled told.stop) in
        subst (λ (l : List L). HasCause faults staged.ended from l clock rec) (sym links)
        (ended_cause faults from told.links.items clock rec hosted.closed.bytes.items told.failed told.clock_failed
        (links_steady left faults keep heard stage.caps bounds part from clock hosted hosts)
        (clock_steady left faults keep heard stage.caps bounds part from clock hosted hosts)
        (hosts_link_risen left faults keep heard stage.caps bounds part from clock hosted hosts)
        (hosts_clock_risen left faults keep heard stage.caps bounds part from clock hosted hosts)
        staged.ended stop ended written)
