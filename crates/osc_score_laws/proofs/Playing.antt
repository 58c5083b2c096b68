-- What acts make of a server, and what their lines come to, which caller 0 plays one after another.
use Rattle.std.proofs.Common.{◌≡◌, ℕ, ◌+◌, List, [], ◌∷◌, ◌++◌, Option, Some, None, refl, ap, ◌∙◌}
use Rattle.std.specs.Option.{option_or}
use Rattle.std.specs.List.{AllByRecursion}
use Rattle.osc_model.specs.State.{State}
use Rattle.osc_model.specs.Events.{Room, Entry}
use Rattle.osc_model.specs.History.{after}
use Rattle.osc_script.specs.declared.act.Act.{Act}
use Rattle.osc_script.specs.Written.{numbered}
use Rattle.osc_player.specs.Plain.{entries_of, stop_of, act_faults, LineFault, Played, followed, plain_from}

-- the entries of acts, where none stops them
abbrev pub history_from : State → List Act → List Entry
history_from state [] = []
history_from state (act ∷ acts) =
    entries_of state act ++ history_from (after state (entries_of state act)) acts

-- the first place where there is no room
abbrev pub stop_from : State → List Act → Option Room
stop_from state [] = None
stop_from state (act ∷ acts) =
    option_or (stop_of state act) (stop_from (after state (entries_of state act)) acts)

-- an act without a packet that is at fault, whatever its line's number
abbrev pub IsFaultless : Act → Type 0
IsFaultless act = (number : ℕ) → act_faults number act ≡ []

-- acts that nothing stops, and none of which is at fault
pub plain_is : (state : State) (number : ℕ) (acts : List Act) → AllByRecursion IsFaultless acts → stop_from state acts ≡ None
    → plain_from state (numbered number acts) ≡ record { history = history_from state acts; faults = []; stop = None }
plain_is state number [] faultless goes_on = refl
plain_is state number (act ∷ acts) faultless goes_on =
    go (stop_of state act) goes_on (plain_is (after state (entries_of state act)) (number + 1) acts faultless.1) where
      there : State
      there = after state (entries_of state act)

      go : (o : Option Room) → option_or o (stop_from there acts) ≡ None
          → (stop_from there acts ≡ None
          → plain_from there (numbered (number + 1) acts) ≡ record { history = history_from there acts; faults = []; stop = None })
          → followed (entries_of state act) (act_faults number act) o (plain_from there (numbered (number + 1) acts))
          ≡ record { history = entries_of state act ++ history_from there acts; faults = []; stop = None }
      go (Some room) stops rest = absurd (cc)
      go None stops rest =
          ap (λ (l : List LineFault). followed (entries_of state act) l None (plain_from there (numbered (number + 1) acts))) (faultless.0 number)
          ∙ ap (λ (p : Played). followed (entries_of state act) [] None p) (rest stops)
