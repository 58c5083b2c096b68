-- A stage that is made of another one carries it on.
use Rattle.std.proofs.Common.{◌≡◌, ℕ, ◌+◌, ◌*◌, ◌≤◌, true, nat_le, List, map, Option, Ok, refl, sym, ap, subst, ◌∙◌}
use Rattle.std.proofs.lemmas.Bool.{leb-true}
use Rattle.osc_atoms.specs.Atoms.{AreBytes}
use Rattle.osc_method.specs.Heard.{Fixed}
use Rattle.osc_model.specs.Limits.{Limits}
use Rattle.osc_script.specs.declared.line.Line.{Line}
use Rattle.osc_script.specs.declared.mode.Mode.TheVariants.{Plain}
use Rattle.osc_script.specs.Scripts.{script_of}
use Rattle.osc_carry.specs.Leading.{with_room}
use Rattle.osc_ends.specs.Sinks.{SinkChange}
use Rattle.osc_lanes.specs.Performs.{part_of}
use Rattle.osc_links.specs.Links.{LinkTurn}
use Rattle.osc_relay.specs.declared.outlet.Outlet.{Ghosts}
use Rattle.osc_relay.specs.declared.relay.Relay.{Relay}
use Rattle.osc_stage.specs.declared.stage.Stage.{Stage}
use Rattle.osc_stage.specs.declared.stage.Staged.{Staged}
use Rattle.osc_stage.specs.Stages.{carried_on, AddsAtOwn, IsStaged, RecordsStage}
use Rattle.osc_chain_laws.specs.Shows.{Scene, TurnsOver, IsCarriedScript}
use Rattle.osc_chain.specs.Rooms.{carried_most}
use Rattle.osc_chain.specs.Seams.{CarriesOn}

module _ {O L : Type 0} {G : Ghosts O} (keep : Relay O G → Fixed) (heard : Relay O G → Option (List ℕ)) (gone : L → Option (List LinkTurn)) (faults : L → ℕ)
    (sent : O → Option (List (List ℕ))) (losses : O → ℕ) where
  -- what is known of stages that turn over
  abbrev pub TurnLaw : Type 0
  TurnLaw = (last next : Scene O L G) (rec : SinkChange) (script : List ℕ) (lines : List Line)
      → IsStaged keep heard gone faults last.stage last.clock last.staged → RecordsStage keep heard sent losses last.stage last.staged rec
      → AddsAtOwn (part_of last.stage.opening) → AreBytes last.staged.recording.items → IsCarriedScript last.staged.recording.items script
      → script_of Plain script ≡ Ok lines
      → part_of next.stage.opening ≡ carried_on (map (λ one. one.1) last.staged.relays.items) lines
      → next.stage.caps ≡ with_room last.stage.caps next.stage.caps.recording
      → 108 + 299 * last.stage.caps.methods + 119 * last.stage.caps.units + 64 * last.stage.caps.blocks ≤ next.stage.caps.recording
      → TurnsOver last next

  pub carries_so : TurnLaw → (caps : Limits) (staged : Staged O L G) (stage : Stage O L G) (recording script : List ℕ) (lines : List Line)
      → recording ≡ staged.recording.items → AreBytes recording → IsCarriedScript recording script → script_of Plain script ≡ Ok lines
      → stage.caps ≡ caps → nat_le (carried_most caps) caps.recording ≡ true
      → part_of stage.opening ≡ carried_on (map (λ one. one.1) staged.relays.items) lines
      → CarriesOn keep heard gone faults sent losses caps staged stage
  carries_so law caps staged stage recording script lines same bytes is read caps_are room opens last next rec staged_is caps_is was records own next_is =
      let there : recording ≡ last.staged.recording.items = same ∙ ap (λ (s : Staged O L G). s.recording.items) (sym staged_is) in
      let next_caps : next.stage.caps ≡ last.stage.caps = ap (λ (s : Stage O L G). s.caps) next_is ∙ caps_are ∙ sym caps_is in
      let fits : carried_most caps ≤ caps.recording = leb-true (carried_most caps) caps.recording room in
      let at_last : carried_most last.stage.caps ≤ last.stage.caps.recording = subst (λ (c : Limits). carried_most c ≤ c.recording) (sym caps_is) fits in
      law last next rec script lines was records own (subst AreBytes there bytes) (subst (λ (l : List ℕ). IsCarriedScript l script) there is) read
      (ap (λ (s : Stage O L G). part_of s.opening) next_is ∙ opens
      ∙ ap (λ (s : Staged O L G). carried_on (map (λ one. one.1) s.relays.items) lines) (sym staged_is))
      (next_caps ∙ ap (λ (c : Limits). with_room last.stage.caps c.recording) (sym next_caps))
      (subst (λ (c : Limits). carried_most last.stage.caps ≤ c.recording) (sym next_caps) at_last)
