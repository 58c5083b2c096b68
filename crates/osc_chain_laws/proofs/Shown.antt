-- The stages of a show have recorded a chain.
use Rattle.std.proofs.Common.{◌≡◌, ℕ, ◌≤◌, List, [], ◌∷◌, ◌++◌, Option, sym, subst₂, ◌∙◌}
use Rattle.osc_method.specs.Heard.{Fixed}
use Rattle.osc_model.specs.Limits.{Limits}
use Rattle.osc_model.specs.State.{opening}
use Rattle.osc_model.specs.Events.{Entry}
use Rattle.osc_model.specs.History.{Legal, after}
use Rattle.osc_model.specs.Recordings.{record_text}
use Rattle.osc_carry.specs.Carried.{carried_size}
use Rattle.osc_carry.specs.Leading.{with_room, CarriesOn}
use Rattle.osc_carry.specs.Waiting.{AreOfBytes}
use Rattle.osc_carry.proofs.Carrying.{OfRecordings, is_record, history_bytes}
use Rattle.osc_life.specs.Crews.{enrolments}
use Rattle.osc_links.specs.Links.{LinkTurn}
use Rattle.osc_relay.specs.declared.outlet.Outlet.{Ghosts}
use Rattle.osc_relay.specs.declared.relay.Relay.{Relay}
use Rattle.osc_stage.specs.Stages.{IsStaged}
use Rattle.osc_chain_laws.specs.Continuations.{IsRecorded, Continues}
use Rattle.osc_chain_laws.specs.Reels.{Reel, AreChained, PlaysAsOne}
use Rattle.osc_chain_laws.specs.Shows.{Scene, TurnsOver, AreRecorded, IsChain, IsShow}
use Rattle.osc_chain_laws.proofs.Continuing.{history_of, stage_recorded, stage_continues}

-- what is known of histories that are carried on, and of chains
abbrev pub AreCarriedOn : Type 0
AreCarriedOn =
    (caps : Limits) (history : List Entry) (room : ℕ) → Legal caps history → AreOfBytes history
    → carried_size (after (opening caps) history) ≤ room → CarriesOn caps history room

abbrev pub ArePlayedAsOne : Type 0
ArePlayedAsOne = (caps : Limits) (first : List Entry) (reels : List Reel) → Legal caps first → AreChained caps first reels → PlaysAsOne caps first reels

module _ {O L : Type 0} {G : Ghosts O} where
  -- histories that scenes have recorded, one after another
  record Recorded (caps : Limits) (old : List Entry) (scenes : List (Scene O L G)) : Type 0 where
    reels : List Reel
    each : AreRecorded caps scenes reels
    chained : AreChained caps old reels

  one_more : (caps : Limits) (old : List Entry) (room : ℕ) (next : Scene O L G) (scenes : List (Scene O L G)) → (continues : Continues caps old room next.staged)
      → Recorded (with_room caps room) continues.history scenes → Recorded caps old (next ∷ scenes)
  one_more caps old room next scenes continues rest =
      let begins = continues.begins in
      record {
        reels = record { room = room; history = continues.history } ∷ rest.reels;
        each = (continues.recorded, rest.each);
        chained = (
          (continues.recorded).legal,
          continues.carried_on,
          (enrolments 1 continues.callers ++ begins.rest, begins.is),
          rest.chained,
        );
      }

  module _ (keep : Relay O G → Fixed) (heard : Relay O G → Option (List ℕ)) (left : L → Option (List LinkTurn)) (faults : L → ℕ) (known : OfRecordings)
      (carry : AreCarriedOn) where
    -- the next stage goes on from the history that the last one has recorded
    next_continues : (caps : Limits) (old : List Entry) (last next : Scene O L G) → IsRecorded caps old last.staged.recording.items
        → IsStaged keep heard left faults next.stage next.clock next.staged → TurnsOver last next
        → Continues caps old next.stage.caps.recording next.staged
    next_continues caps old last next recorded is turns =
        let room : ℕ = next.stage.caps.recording in
        let bytes : List ℕ = last.staged.recording.items in
        let same = known.apart turns.caps caps turns.old old (is_record known turns.caps turns.old (turns.recorded).legal)
        (is_record known caps old recorded.legal) (sym (turns.recorded).text ∙ recorded.text) in
        let carries : CarriesOn turns.caps turns.old room =
        carry turns.caps turns.old room (turns.recorded).legal (history_bytes known bytes turns.caps turns.old turns.bytes turns.recorded) turns.fits in
        subst₂ (λ (c : Limits) (h : List Entry). Continues c h room next.staged) same.0 same.1
        (stage_continues keep heard left faults next.stage next.clock next.staged is turns.caps turns.old room turns.relays carries turns.limits turns.stand
        turns.opens)

    scenes_recorded : (caps : Limits) (old : List Entry) (last : Scene O L G) (scenes : List (Scene O L G)) → IsRecorded caps old last.staged.recording.items
        → IsShow keep heard left faults last scenes → Recorded caps old scenes
    scenes_recorded caps old last [] recorded show = record { reels = []; each = tt; chained = tt }
    scenes_recorded caps old last (next ∷ scenes) recorded show =
        let room : ℕ = next.stage.caps.recording in
        let continues : Continues caps old room next.staged = next_continues caps old last next recorded show.0 show.1 in
        one_more caps old room next scenes continues
        (scenes_recorded (with_room caps room) continues.history next scenes continues.recorded show.2)

    pub show_chain : ArePlayedAsOne → (first : Scene O L G) (scenes : List (Scene O L G))
        → IsStaged keep heard left faults first.stage first.clock first.staged → IsShow keep heard left faults first scenes → IsChain first scenes
    show_chain as_one first scenes is show =
        let caps : Limits = first.stage.caps in
        let history : List Entry = history_of keep heard left faults first.stage first.clock first.staged is in
        let recorded : IsRecorded caps history first.staged.recording.items =
        stage_recorded keep heard left faults first.stage first.clock first.staged is in
        let chain : Recorded caps history scenes = scenes_recorded caps history first scenes recorded show in
        record {
          history = history;
          reels = chain.reels;
          recorded = recorded;
          each_recorded = chain.each;
          chained = chain.chained;
          as_one = as_one caps history chain.reels recorded.legal chain.chained;
        }

-- a stage's history by its callers is that of which relays have heard and sent
pub same_history : OfRecordings → (caps : Limits) (one other : List Entry) (recording : List ℕ) → IsRecorded caps one recording → Legal caps other
    → recording ≡ record_text caps other → one ≡ other
same_history known caps one other recording recorded legal text =
    (known.apart caps caps one other (is_record known caps one recorded.legal) (is_record known caps other legal) (sym recorded.text ∙ text)).1
