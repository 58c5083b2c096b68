-- Lines that carry a server on invoke nothing.
use Rattle.std.proofs.Common.{◌≡◌, ℕ, ◌+◌, min, nat_lt, Bool, true, false, cond, List, [], ◌∷◌, ◌++◌, Option, Some, None, refl, ap, ◌∙◌}
use Rattle.std.specs.List.{AllByRecursion}
use Rattle.std.proofs.lemmas.List.{append-nil}
use Rattle.osc_atoms.specs.declared.limits.TheConstants.{MAX_PACKET}
use Rattle.osc_packet.specs.Reading.{is_packet}
use Rattle.osc_queue.specs.Timed.{due_of}
use Rattle.osc_model.specs.State.{State, Queued}
use Rattle.osc_model.specs.Events.{Event, submit, add, remove, tick, release, adds_entry, Entry, Invocation, Room}
use Rattle.osc_model.specs.History.{after, invocations}
use Rattle.osc_model.specs.Step.{Stepped, step, decided}
use Rattle.osc_model.proofs.Onward.{invoked_more}
use Rattle.osc_model.proofs.Stepping.{step_so, decided_so}
use Rattle.osc_script.specs.declared.act.Act.{Act}
use Rattle.osc_script.specs.declared.act.Act.TheVariants.{Add, Remove, Send, Tick, Pump}
use Rattle.osc_script.specs.declared.line.Line.{Line}
use Rattle.osc_script.specs.Written.{numbered}
use Rattle.osc_player.specs.Plain.{entry_of, entry_if, sent, entries_of, stop_of, act_faults, LineFault, Played, followed, plain_from}
use Rattle.osc_score.proofs.Acts.{adds}
use Rattle.osc_score_laws.proofs.Lists.{all_on}
use Rattle.osc_carry.specs.Carried.{packet_of, ticks_to, queue_acts, carried_acts}
use Rattle.osc_alike.specs.Alike.{address_of}
use Rattle.std.proofs.Common.{map}

abbrev is_release : Event → Bool
is_release release = true
is_release _ = false

abbrev is_pump : Act → Bool
is_pump Pump = true
is_pump _ = false

-- what isn't a release invokes nothing
step_silent : (state : State) (event : Event) → is_release event ≡ false → (step state event).invocations ≡ []
step_silent state event other =
    step_so (λ (s : Stepped). s.invocations ≡ []) state event (record { silent = λ none. here; full = λ some full. refl; room = λ some fits. here })
  where
    here : (decided state event).invocations ≡ []
    here =
        decided_so (λ (e : Event) (s : Stepped). is_release e ≡ false → s.invocations ≡ []) state event
        (record {
          refused = λ event answer is none. refl;
          enrolled = λ none. refl;
          queued = λ packet none. refl;
          added = λ address none. refl;
          removed = λ address id none. refl;
          ticked = λ now on none. refl;
          released = λ unit units is none. absurd (cc);
        })
        other

event_silent : (state : State) (event : Event) → is_release event ≡ false → invocations state (entry_if state event) ≡ []
event_silent state event other = go (adds_entry (step state event).answer) where
  go : (t : Bool) → invocations state (cond t (entry_of state event ∷ []) []) ≡ []
  go true = append-nil (step state event).invocations ∙ step_silent state event other
  go false = refl

act_silent : (state : State) (act : Act) → is_pump act ≡ false → invocations state (entries_of state act) ≡ []
act_silent state (Add address) other = event_silent state (add address) refl
act_silent state (Remove address) other = event_silent state (remove address) refl
act_silent state (Send packet) other = go (is_packet MAX_PACKET packet) where
  go : (t : Bool) → invocations state (sent state packet t) ≡ []
  go true = event_silent state (submit packet) refl
  go false = refl
act_silent state (Tick moment) other = event_silent state (tick moment) refl
act_silent state Pump other = absurd (cc)

abbrev pub PumpNone : List Line → Type 0
PumpNone lines = AllByRecursion (λ line. is_pump line.act ≡ false) lines

followed_silent : (state : State) (entries : List Entry) (faults : List LineFault) (stop : Option Room) (later : Played) → invocations state entries ≡ []
    → invocations (after state entries) later.history ≡ [] → invocations state (followed entries faults stop later).history ≡ []
followed_silent state entries faults (Some room) later none rest = none
followed_silent state entries faults None later none rest =
    invoked_more state entries later.history
    ∙ ap (λ (l : List Invocation). l ++ invocations (after state entries) later.history) none
    ∙ rest

pub lines_silent : (state : State) (lines : List Line) → PumpNone lines → invocations state (plain_from state lines).history ≡ []
lines_silent state [] all = refl
lines_silent state (line ∷ lines) all =
    let entries : List Entry = entries_of state line.act in
    followed_silent state entries (act_faults line.number line.act) (stop_of state line.act) (plain_from (after state entries) lines)
    (act_silent state line.act all.0) (lines_silent (after state entries) lines all.1)

-- the lines that carry a server on have no pump

abbrev HaveNone : List Act → Type 0
HaveNone acts = AllByRecursion (λ act. is_pump act ≡ false) acts

numbered_none : (number : ℕ) (acts : List Act) → HaveNone acts → PumpNone (numbered number acts)
numbered_none number [] all = tt
numbered_none number (act ∷ acts) all = (all.0, numbered_none (number + 1) acts all.1)

adds_none : (addresses : List (List ℕ)) → HaveNone (adds addresses)
adds_none [] = tt
adds_none (address ∷ addresses) = (refl, adds_none addresses)

ticks_none : (now moment : ℕ) → HaveNone (ticks_to now moment)
ticks_none now moment = go (nat_lt now moment) where
  go : (t : Bool) → HaveNone (cond t (Tick moment ∷ []) [])
  go true = (refl, tt)
  go false = tt

queue_none : (now clock : ℕ) (units : List Queued) → HaveNone (queue_acts now clock units)
queue_none now clock [] = ticks_none now clock
queue_none now clock (unit ∷ units) =
    let moment : ℕ = min (due_of unit) clock in
    all_on (λ (act : Act). is_pump act ≡ false) (ticks_to now moment) (Send (packet_of unit.2) ∷ queue_acts moment clock units) (ticks_none now moment)
    (refl, queue_none moment clock units)

pub carried_none : (state : State) → PumpNone (numbered 1 (carried_acts state))
carried_none state =
    let addresses : List (List ℕ) = map address_of state.methods in
    numbered_none 1 (carried_acts state)
    (all_on (λ (act : Act). is_pump act ≡ false) (adds addresses) (queue_acts 1 state.clock state.queue) (adds_none addresses)
    (queue_none 1 state.clock state.queue))
