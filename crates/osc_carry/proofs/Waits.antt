-- Each unit that waits after a legal history came at some clock, and can be sent.
use Rattle.std.proofs.Common.{◌≡◌, ℕ, ◌+◌, ◌≤◌, max, Bool, true, false, cond, List, [], ◌∷◌, refl, subst, arith}
use Rattle.std.specs.List.{AllByRecursion}
use Rattle.osc_packet.specs.Units.{TimedUnit}
use Rattle.osc_packet.specs.Reading.{units_read}
use Rattle.osc_packet.specs.Known.{OfMessages}
use Rattle.osc_queue.proofs.Orders.{all_entered}
use Rattle.osc_model.specs.declared.late.Late.{Late}
use Rattle.osc_model.specs.Limits.{Limits}
use Rattle.osc_model.specs.State.{State, Queued, opening}
use Rattle.osc_model.specs.Events.{Event, Entry}
use Rattle.osc_model.specs.Step.{Stepped, step, decided, is_kept, kept_numbered, enter_all}
use Rattle.osc_model.specs.History.{IsLawful, Legal, LegalFrom, after}
use Rattle.osc_model.proofs.Stepping.{step_so, decided_so}
use Rattle.osc_carry.specs.Waiting.{CanBeSent, IsWaiting, AreWaiting, IsOfBytes, AreOfBytes}
use Rattle.osc_carry.proofs.Packets.{packet_sent}

all_enter : (P : Queued → Type 0) (units queue : List Queued) → AllByRecursion P units → AllByRecursion P queue → AllByRecursion P (enter_all units queue)
all_enter P [] queue new old = old
all_enter P (unit ∷ units) queue new old = all_enter P units _ new.1 (all_entered P unit queue new.0 old)

each_numbered : (late : Late) (clock next : ℕ) (units : List TimedUnit) → 1 ≤ clock → AllByRecursion CanBeSent units
    → AllByRecursion (IsWaiting late clock) (kept_numbered late clock next units)
each_numbered late clock next [] opened sent = tt
each_numbered late clock next (unit ∷ units) opened sent = go (is_kept late clock unit) refl (kept_numbered late clock (next + 1) units)
    (each_numbered late clock (next + 1) units opened sent.1) where
      go : (t : Bool) → is_kept late clock unit ≡ t → (items : List Queued) → AllByRecursion (IsWaiting late clock) items
          → AllByRecursion (IsWaiting late clock) (cond t ((max unit.tag clock, next, unit) ∷ items) items)
      go true e items all = (record { came = clock; opened = opened; past = omega arith; due = refl; kept = e; sent = sent.0 }, all)
      go false e items all = all

later_one : (late : Late) (clock now : ℕ) → clock ≤ now → (unit : Queued) → IsWaiting late clock unit → IsWaiting late now unit
later_one late clock now up unit is =
    let past = is.past in
    record { came = is.came; opened = is.opened; past = omega arith; due = is.due; kept = is.kept; sent = is.sent }

later_all : (late : Late) (clock now : ℕ) → clock ≤ now → (units : List Queued) → AllByRecursion (IsWaiting late clock) units
    → AllByRecursion (IsWaiting late now) units
later_all late clock now up [] all = tt
later_all late clock now up (unit ∷ units) all = (later_one late clock now up unit all.0, later_all late clock now up units all.1)

-- an event of bytes keeps that
abbrev Keeps : Event → Stepped → Type 0
Keeps event stepped = IsOfBytes event → IsLawful event → AreWaiting stepped.state

decided_keeps : OfMessages → (state : State) (event : Event) → AreWaiting state → Keeps event (decided state event)
decided_keeps known state event waits = decided_so Keeps state event (record {
  refused = λ event answer is bytes lawful. waits;
  enrolled = λ bytes lawful. record { opened = waits.opened; fits = waits.fits; each = waits.each };
  queued = λ packet bytes lawful. record {
    opened = waits.opened;
    fits = waits.fits;
    each = all_enter (IsWaiting state.caps.late state.clock) (kept_numbered state.caps.late state.clock state.next_unit (units_read packet)) state.queue
        (each_numbered state.caps.late state.clock state.next_unit (units_read packet) waits.opened (packet_sent known packet bytes lawful)) waits.each;
  };
  added = λ address bytes lawful. record { opened = waits.opened; fits = waits.fits; each = waits.each };
  removed = λ address id bytes lawful. record { opened = waits.opened; fits = waits.fits; each = waits.each };
  ticked = λ now up bytes lawful.
      let opened = waits.opened in
      record { opened = omega arith; fits = lawful; each = later_all state.caps.late state.clock now up state.queue waits.each };
  released = λ unit units is bytes lawful.
      record {
        opened = waits.opened;
        fits = waits.fits;
        each = (subst (AllByRecursion (IsWaiting state.caps.late state.clock)) is waits.each).1;
      };
})

step_keeps : OfMessages → (state : State) (event : Event) → AreWaiting state → Keeps event (step state event)
step_keeps known state event waits =
    let kept = decided_keeps known state event waits in
    step_so (Keeps event) state event (record {
      silent = λ is. kept;
      full = λ is less bytes lawful. waits;
      room = λ is less bytes lawful. let done = kept bytes lawful in record { opened = done.opened; fits = done.fits; each = done.each };
    })

from_keeps : OfMessages → (state : State) (history : List Entry) → AreWaiting state → LegalFrom state history → AreOfBytes history
    → AreWaiting (after state history)
from_keeps known state [] waits legal bytes = waits
from_keeps known state (entry ∷ entries) waits legal bytes =
    from_keeps known (step state entry.event).state entries (step_keeps known state entry.event waits bytes.0 legal.1) legal.4 bytes.1

pub history_waits : OfMessages → (caps : Limits) (history : List Entry) → Legal caps history → AreOfBytes history → AreWaiting (after (opening caps) history)
history_waits known caps history legal bytes =
    from_keeps known (opening caps) history (record { opened = omega arith; fits = omega arith; each = tt }) legal.1 bytes
