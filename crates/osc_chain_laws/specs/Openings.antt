-- What is played first on a stage, and what that makes of its history.
use Rattle.std.specs.Prelude.{◌≡◌, ℕ, List, ◌++◌, map}
use Rattle.osc_atoms.specs.declared.fault.Fault.{Fault}
use Rattle.osc_model.specs.Limits.{Limits}
use Rattle.osc_model.specs.State.{State}
use Rattle.osc_model.specs.Events.{Entry}
use Rattle.osc_script.specs.declared.line.Line.{Line}
use Rattle.osc_player.specs.Plain.{LineFault, plain}
use Rattle.osc_alike.specs.Alike.{address_of}
use Rattle.osc_life.specs.Crews.{enrolments}
use Rattle.osc_lanes.specs.Shares.{Account}
use Rattle.osc_relay.specs.declared.outlet.Outlet.{Ghosts}
use Rattle.osc_relay.specs.declared.relay.Relay.{Relay}

-- there are as many relays as methods of a server, at their addresses, in their order
abbrev pub StandAt : {O : Type 0} {G : Ghosts O} → List (Relay O G) → State → Type 0
StandAt relays state = map (λ relay. relay.address) relays ≡ map address_of state.methods

-- faults under the numbers of their lines
abbrev pub told_faults : List LineFault → List (ℕ × Fault)
told_faults faults = map (λ fault. (fault.line, fault.fault)) faults

-- The entries of lines are those that they make of a new server on which there is nobody else, and
-- so is what is told of them.
pub record IsPlain {M : Type 0} (caps : Limits) (lines : List Line) (told : Account M)
    (entries : List Entry) : Type 0 where
  pub history : entries ≡ (plain caps lines).history
  pub stop : told.stop ≡ (plain caps lines).stop
  pub faults : told.faults ≡ told_faults (plain caps lines).faults

-- A history begins with the entries that lines make of a new server, and then so many callers were
-- enrolled.
pub record BeginsWith (caps : Limits) (lines : List Line) (callers : ℕ) (history : List Entry)
    : Type 0 where
  pub rest : List Entry
  pub is : history ≡ (plain caps lines).history ++ (enrolments 1 callers ++ rest)
