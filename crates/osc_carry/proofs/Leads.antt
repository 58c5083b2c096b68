-- The script that carries a history on is read as its lines, and leads to where the history led.
use Rattle.osc_script.specs.declared.script.TheConstants.{MAX_SCRIPT}
use Rattle.std.proofs.Common.{◌≡◌, ℕ, ◌≤◌, List, length, sym, subst}
use Rattle.std.specs.Prelude.{Ok}
use Rattle.std.specs.List.{AllByRecursion}
use Rattle.osc_packet.specs.Known.{OfMessages}
use Rattle.osc_model.specs.Limits.{Limits}
use Rattle.osc_model.specs.State.{State, AreNumbered, opening}
use Rattle.osc_model.specs.Events.{Entry}
use Rattle.osc_model.specs.History.{IsSound, Legal, after}
use Rattle.osc_script.specs.declared.act.Act.{Act}
use Rattle.osc_script.specs.declared.mode.Mode.TheVariants.{Plain}
use Rattle.osc_script.specs.Scripts.{script_of}
use Rattle.osc_script.specs.Written.{IsWritable, numbered, written}
use Rattle.osc_alike.specs.Alike.{AreAlike}
use Rattle.osc_carry.specs.Carried.{carried_acts, carried_script, carried_size, renewed}
use Rattle.osc_carry.specs.Leading.{state_on, CarriesOn, LeadsThere}
use Rattle.osc_carry.specs.Waiting.{AreOfBytes}
use Rattle.osc_carry.proofs.Waits.{history_waits}
use Rattle.osc_carry.proofs.Whole.{history_carried}
use Rattle.osc_carry.proofs.Writable.{AreSpelled, state_writable}
use Rattle.osc_carry.proofs.Chained.{StayAlike, renewed_alike, renewed_numbers}

-- what is known of scripts that are written
abbrev pub AreReadAgain : Type 0
AreReadAgain =
    (acts : List Act) → AllByRecursion IsWritable acts → length (written acts) ≤ MAX_SCRIPT → script_of Plain (written acts) ≡ Ok (numbered 1 acts)

pub record Laws : Type 0 where
  pub messages : OfMessages
  pub addresses : AreSpelled
  pub scripts : AreReadAgain
  pub alike : StayAlike
  pub sound : (caps : Limits) (history : List Entry) → Legal caps history → IsSound (after (opening caps) history)

pub leads_there : Laws → (caps : Limits) (history : List Entry) (room : ℕ) → Legal caps history → AreOfBytes history
    → length (carried_script caps history) ≤ MAX_SCRIPT → carried_size (after (opening caps) history) ≤ room
    → LeadsThere (carried_script caps history) caps history room
leads_there laws caps history room legal bytes short fits =
    let state : State = after (opening caps) history in
    let there : State = state_on caps history room in
    let sound : IsSound state = laws.sound caps history legal in
    let carried_on : CarriesOn caps history room = history_carried laws.messages caps history room legal bytes sound fits in
    let is : there ≡ renewed room state = carried_on.state in
    let numbers : AreNumbered there.next_unit there.queue =
    subst (λ (s : State). AreNumbered s.next_unit s.queue) (sym is) (renewed_numbers room state) in
    let alike : AreAlike state there = subst (AreAlike state) (sym is) (renewed_alike room state) in
    record {
      read = laws.scripts (carried_acts state)
          (state_writable laws.messages laws.addresses state ((sound.methods).list).lawful (history_waits laws.messages caps history legal bytes)) short;
      carried_on = carried_on;
      alike = λ events enough. laws.alike state there events sound.numbers numbers alike enough;
    }
