-- Inside the crate: the turns of a link.
use Rattle.std.specs.Prelude.{◌≡◌, ℕ, List, [], ◌∷◌, ◌++◌, Option, Some, None, option_map, IfSome}
use Rattle.osc_atoms.specs.declared.fault.Fault.{Fault}
use Rattle.osc_edge.specs.Faults.{Rose}
use Rattle.osc_method.specs.Heard.{Fixed}
use Rattle.osc_record.specs.Shown.{room_of}
use Rattle.osc_script.specs.declared.act.Act.TheVariants.{Send}
use Rattle.osc_turn.specs.declared.view.Entry.{Entry as Seen}
use Rattle.osc_links.specs.declared.link_work.Over.{Over}
use Rattle.osc_links.specs.declared.link_worker.Step.{Step}
use Rattle.osc_links.specs.declared.link_worker.Step.TheVariants.{Sent, Quiet, End, Failed, Full}
use Rattle.osc_links.specs.declared.served.Bounds.{Bounds}
use Rattle.osc_life.specs.Holders.{Holder}
use Rattle.osc_lanes.specs.Shares.{Account, then_told}
use Rattle.osc_links.specs.Links.{LinkTurn, stop_by, link_account, PlaysTurns}
use Rattle.osc_lanes.specs.Tells.{TellsAct}

module _ {M : Type 0} (keep : M → Fixed) (heard : M → Option (List ℕ)) where
  -- One turn was taken, with these faults told before and now, these turns left before and now,
  -- and these counts of faults of the link before and now.
  abbrev pub TakesOne : Holder → ℕ → List (ℕ × Fault) → List (ℕ × Fault) → Option (List LinkTurn)
      → Option (List LinkTurn) → ℕ → ℕ → Step → List Seen → List Seen → Type 0
  TakesOne holder number told now left after before count Sent here there =
      (count ≡ before) × (bytes : List ℕ) × (left ≡ option_map (λ more. Some bytes ∷ more) after)
      × TellsAct keep heard holder number (Send bytes) [] [] (link_account told None)
      (link_account now None) here there
  TakesOne holder number told now left after before count Quiet here there =
      (count ≡ before) × (left ≡ option_map (λ more. None ∷ more) after) × (now ≡ told)
      × (there ≡ here)
  TakesOne holder number told now left after before count End here there =
      (count ≡ before) × (after ≡ left) × IfSome left (λ turns. turns ≡ []) × (now ≡ told)
      × (there ≡ here)
  TakesOne holder number told now left after before count Failed here there =
      Rose before count × (after ≡ left) × (now ≡ told) × (there ≡ here)
  TakesOne holder number told now left after before count (Full room) here there =
      (count ≡ before) × (bytes : List ℕ) × (left ≡ option_map (λ more. Some bytes ∷ more) after)
      × TellsAct keep heard holder number (Send bytes) [] [] (link_account told None)
      (link_account now (Some (room_of room))) here there

  -- The turns of a link were taken until it was over.
  pub record TakesAll (holder : Holder) (bounds : Bounds) (told now : List (ℕ × Fault))
      (left after : Option (List LinkTurn)) (over : Over) (here there : List Seen) : Type 0 where
    pub turns : List LinkTurn
    pub account : Account M
    pub plays : PlaysTurns keep heard holder bounds 0 0 turns over account here there
    pub told_is : link_account now (stop_by over) ≡ then_told (link_account told None) account
    pub taken : left ≡ option_map (λ more. turns ++ more) after
