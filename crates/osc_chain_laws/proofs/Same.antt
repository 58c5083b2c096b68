-- What lines make of a server, whatever their numbers.
use Rattle.std.proofs.Common.{◌≡◌, ℕ, List, [], ◌∷◌, ◌++◌, map, Option, Some, None, refl, sym, ap, subst, ◌∙◌}
use Rattle.std.proofs.lemmas.List.{map-append}
use Rattle.osc_atoms.specs.declared.fault.Fault.{Fault}
use Rattle.osc_atoms.specs.declared.limits.TheConstants.{MAX_PACKET}
use Rattle.osc_packet.specs.Reading.{packet_fault}
use Rattle.osc_model.specs.State.{State}
use Rattle.osc_model.specs.Events.{Entry, Room}
use Rattle.osc_model.specs.History.{after}
use Rattle.osc_script.specs.declared.act.Act.{Act}
use Rattle.osc_script.specs.declared.act.Act.TheVariants.{Add, Remove, Send, Tick, Pump}
use Rattle.osc_script.specs.declared.line.Line.{Line}
use Rattle.osc_player.specs.Plain.{entries_of, stop_of, fault_at, act_faults, LineFault, Played, followed, plain_from}
use Rattle.osc_stage.specs.Lines.{acts_of}

abbrev pub faults_in : List LineFault → List Fault
faults_in faults = map (λ fault. fault.fault) faults

-- the same, but for the numbers of lines
pub record IsSame (one other : Played) : Type 0 where
  pub history : one.history ≡ other.history
  pub stop : one.stop ≡ other.stop
  pub faults : faults_in one.faults ≡ faults_in other.faults

same_faults : (number other : ℕ) (act : Act) → faults_in (act_faults number act) ≡ faults_in (act_faults other act)
same_faults number other (Add address) = refl
same_faults number other (Remove address) = refl
same_faults number other (Send packet) = go (packet_fault MAX_PACKET packet) where
  go : (fault : Option Fault) → faults_in (fault_at number fault) ≡ faults_in (fault_at other fault)
  go None = refl
  go (Some fault) = refl
same_faults number other (Tick moment) = refl
same_faults number other Pump = refl

same_on : (entries : List Entry) (faults others : List LineFault) (stop : Option Room) (one other : Played) → faults_in faults ≡ faults_in others
    → IsSame one other → IsSame (followed entries faults stop one) (followed entries others stop other)
same_on entries faults others (Some room) one other equal same = record { history = refl; stop = refl; faults = equal }
same_on entries faults others None one other equal same = record {
  history = ap (λ (l : List Entry). entries ++ l) same.history;
  stop = same.stop;
  faults = map-append (λ (f : LineFault). f.fault) faults one.faults
      ∙ ap (λ (l : List Fault). l ++ faults_in one.faults) equal
      ∙ ap (λ (l : List Fault). faults_in others ++ l) same.faults
      ∙ sym (map-append (λ (f : LineFault). f.fault) others other.faults);
}

head_same : (act other : Act) (acts others : List Act) → act ∷ acts ≡ other ∷ others → act ≡ other
head_same act other acts others same = cc

tail_same : (act other : Act) (acts others : List Act) → act ∷ acts ≡ other ∷ others → acts ≡ others
tail_same act other acts others same = cc

pub same_lines : (state : State) (lines others : List Line) → acts_of lines ≡ acts_of others → IsSame (plain_from state lines) (plain_from state others)
same_lines state [] [] same = record { history = refl; stop = refl; faults = refl }
same_lines state [] (line ∷ lines) same = absurd (cc)
same_lines state (line ∷ lines) [] same = absurd (cc)
same_lines state (line ∷ lines) (other ∷ others) same =
    let act : line.act ≡ other.act = head_same line.act other.act (acts_of lines) (acts_of others) same in
    let rest : acts_of lines ≡ acts_of others = tail_same line.act other.act (acts_of lines) (acts_of others) same in
    let next : State = after state (entries_of state line.act) in
    subst
    (λ (a : Act). IsSame (followed (entries_of state line.act) (act_faults line.number line.act) (stop_of state line.act) (plain_from next lines))
    (followed (entries_of state a) (act_faults other.number a) (stop_of state a) (plain_from (after state (entries_of state a)) others)))
    act
    (same_on (entries_of state line.act) (act_faults line.number line.act) (act_faults other.number line.act) (stop_of state line.act) (plain_from next lines)
    (plain_from next others) (same_faults line.number other.number line.act) (same_lines next lines others rest))

-- where one has no fault, the other has none
pub none_same : (faults others : List LineFault) → faults_in faults ≡ faults_in others → others ≡ [] → faults ≡ []
none_same [] others same none = refl
none_same (fault ∷ faults) [] same none = absurd (cc)
none_same (fault ∷ faults) (other ∷ others) same none = absurd (cc)
