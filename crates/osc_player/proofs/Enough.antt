-- A recording of as many bytes as `enough` says never stops a script.
use Rattle.std.proofs.Common.{◌≡◌, ℕ, zero, suc, ◌+◌, ◌*◌, ◌≤◌, Bool, true, false, cond, List, [], ◌∷◌, length, Option, Some, None, sum_by, refl, ap, subst}
use Rattle.std.proofs.Common.{arith}
use Rattle.std.proofs.lemmas.List.Sums.{sum_by-cons}
use Rattle.osc_atoms.specs.declared.limits.TheConstants.{MAX_PACKET}
use Rattle.osc_packet.specs.Reading.{is_packet, units_read}
use Rattle.osc_model.specs.Limits.{Limits}
use Rattle.osc_model.specs.State.{State, opening}
use Rattle.osc_model.specs.Events.{Event, submit, add, remove, tick, release, Answer, record_full, adds_entry, Room, Entry}
use Rattle.osc_model.specs.Step.{Stepped, step}
use Rattle.osc_model.specs.History.{after}
use Rattle.osc_model.proofs.Refusals.{none_stays}
use Rattle.osc_script.specs.Enough.{event_size, act_size, act_units, act_messages}
use Rattle.osc_script.proofs.Costs.{units_cost_is, event_cost, more_methods, held, step_takes}
use Rattle.osc_script.specs.declared.act.Act.{Act}
use Rattle.osc_script.specs.declared.act.Act.TheVariants.{Add, Remove, Send, Tick, Pump}
use Rattle.osc_script.specs.declared.line.Line.{Line}
use Rattle.osc_model.specs.Events.{room_in}
use Rattle.osc_player.specs.Plain.{entry_of, entry_if, stop_at, is_released, pumped, sent, stop_sent, entries_of, stop_of}
use Rattle.osc_script.specs.Adds.{adds_of, count_adds}
use Rattle.osc_player.specs.Plain.{Played, followed, plain_from, plain, act_faults}
use Rattle.osc_player.specs.Enough.{enough}

-- There is room for what is queued and for what is still to come, which adds so many methods and takes so many bytes.

record HasRoom (most more rest : ℕ) (state : State) : Type 0 where
  pub methods : more + length state.methods ≤ most
  pub bytes : rest + held most state ≤ state.caps.recording

-- a step that isn't stopped, and leaves room
record Goes (most more rest : ℕ) (stepped : Stepped) : Type 0 where
  pub goes : room_in stepped.answer ≡ None
  pub room : HasRoom most more rest stepped.state

not_full : (answer : Answer) → ((room : Room) → record_full room ≡ answer → ⊥) → room_in answer ≡ None
not_full (record_full room) never = absurd (never room refl)
not_full _ never = refl

step_goes : (most more rest : ℕ) (state : State) (event : Event) → HasRoom most (more_methods event + more) (event_cost most event + rest) state
    → Goes most more rest (step state event)
step_goes most more rest state event room =
    let methods = room.methods in
    let bytes = room.bytes in
    let takes = step_takes most state event (omega arith) in
    record {
      goes = not_full (step state event).answer (λ full is. omega (arith, takes.full full is));
      room = record {
        methods = omega (arith, takes.methods);
        bytes = omega (arith, takes.bytes, ap (λ (caps : Limits). caps.recording) takes.caps);
      };
    }

-- a release takes no more than the units that wait
release_goes : (most more rest : ℕ) (state : State) → HasRoom most more rest state → Goes most more rest (step state release)
release_goes most more rest state room =
    let methods = room.methods in
    let bytes = room.bytes in
    step_goes most more rest state release (record { methods = omega arith; bytes = omega arith })

-- A line isn't stopped, and leaves room.

record GoesOn (most more rest : ℕ) (state : State) (entries : List Entry) (stop : Option Room) : Type 0 where
  pub goes : stop ≡ None
  pub room : HasRoom most more rest (after state entries)

entry_goes : (most more rest : ℕ) (state : State) (event : Event) → HasRoom most (more_methods event + more) (event_cost most event + rest) state
    → GoesOn most more rest state (entry_if state event) (stop_at state event)
entry_goes most more rest state event room = record { goes = one.goes; room = go (adds_entry (step state event).answer) refl } where
  one : Goes most more rest (step state event)
  one = step_goes most more rest state event room

  go : (t : Bool) → adds_entry (step state event).answer ≡ t → HasRoom most more rest (after state (cond t (entry_of state event ∷ []) []))
  go true some = one.room
  go false none = subst (HasRoom most more rest) (none_stays state event none) one.room

pump_room : (most more rest count : ℕ) (state : State) → HasRoom most more rest state → HasRoom most more rest (after state (pumped count state))
pump_room most more rest zero state room = room
pump_room most more rest (suc count) state room =
    go (is_released (step state release).answer) (pump_room most more rest count (step state release).state (release_goes most more rest state room).room) where
      go : (t : Bool) → HasRoom most more rest (after (step state release).state (pumped count (step state release).state))
          → HasRoom most more rest (after state (cond t (entry_of state release ∷ pumped count (step state release).state) []))
      go true later = later
      go false later = room

-- what a line takes
abbrev act_cost : ℕ → Act → ℕ
act_cost most act = act_size act + 44 * act_units act + 8 * (act_messages act * most)

act_goes : (most more rest : ℕ) (state : State) (act : Act) → HasRoom most (adds_of act + more) (act_cost most act + rest) state
    → GoesOn most more rest state (entries_of state act) (stop_of state act)
act_goes most more rest state (Add address) room =
    let bytes = room.bytes in
    entry_goes most more rest state (add address) (record { methods = room.methods; bytes = omega arith })
act_goes most more rest state (Remove address) room =
    let bytes = room.bytes in
    entry_goes most more rest state (remove address) (record { methods = room.methods; bytes = omega arith })
act_goes most more rest state (Tick moment) room =
    let bytes = room.bytes in
    entry_goes most more rest state (tick moment) (record { methods = room.methods; bytes = omega arith })
act_goes most more rest state (Send packet) room = go (is_packet MAX_PACKET packet) room.methods room.bytes where
  go : (t : Bool) → 0 + more + length state.methods ≤ most
      → cond t (event_size (submit packet)) 0 + 44 * cond t (length (units_read packet)) 0
      + 8 * (cond t (sum_by (λ unit. length unit.messages) (units_read packet)) 0 * most) + rest + held most state
      ≤ state.caps.recording
      → GoesOn most more rest state (sent state packet t) (stop_sent state packet t)
  go true methods bytes =
      entry_goes most more rest state (submit packet) (record { methods = methods; bytes = omega (arith, units_cost_is most (units_read packet)) })
  go false methods bytes = record { goes = refl; room = record { methods = omega arith; bytes = omega arith } }
act_goes most more rest state Pump room =
    let methods = room.methods in
    let bytes = room.bytes in
    let pumps = pump_room most more rest (length state.queue) state (record { methods = omega arith; bytes = omega arith }) in
    record { goes = (release_goes most more rest (after state (pumped (length state.queue) state)) pumps).goes; room = pumps }

-- All lines.

-- what lines take
abbrev lines_cost : ℕ → List Line → ℕ
lines_cost most lines =
    sum_by (λ line. act_size line.act) lines + 44 * sum_by (λ line. act_units line.act) lines + 8 * (sum_by (λ line. act_messages line.act) lines * most)

lines_go : (most : ℕ) (state : State) (lines : List Line) → HasRoom most (count_adds lines) (lines_cost most lines) state → (plain_from state lines).stop ≡ None
lines_go most state [] room = refl
lines_go most state (line ∷ lines) room =
    let methods = room.methods in
    let bytes = room.bytes in
    let one = act_goes most (count_adds lines) (lines_cost most lines) state line.act
    (record {
      methods = omega arith;
      bytes = omega (
        arith,
        sum_by-cons (λ (line : Line). act_size line.act) line lines,
        sum_by-cons (λ (line : Line). act_units line.act) line lines,
        ap
            (λ (n : ℕ). n * most) (sum_by-cons (λ (line : Line). act_messages line.act) line lines),
      );
    }) in
    go (stop_of state line.act) one.goes (plain_from (after state (entries_of state line.act)) lines)
    (lines_go most (after state (entries_of state line.act)) lines one.room)
  where
    go : (stop : Option Room) → stop ≡ None → (later : Played) → later.stop ≡ None
        → (followed (entries_of state line.act) (act_faults line.number line.act) stop later).stop ≡ None
    go None none later more = more
    go (Some room) none later more = absurd (cc)

pub never_stops : (caps : Limits) (lines : List Line) → enough lines ≤ caps.recording → (plain caps lines).stop ≡ None
never_stops caps lines room = lines_go (count_adds lines) (opening caps) lines (record { methods = omega arith; bytes = omega arith })
