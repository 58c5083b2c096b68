-- What is read off a history, without a state.
use Rattle.std.specs.Prelude.{◌≡◌, ◌≢◌, ℕ, ◌+◌, ◌<◌, List, [], ◌∷◌, ◌++◌, slice_get, Some}
use Rattle.std.specs.List.{AllByRecursion}
use Rattle.osc_packet.specs.Units.{TimedUnit}
use Rattle.osc_packet.specs.Reading.{units_read}
use Rattle.osc_model.specs.Events.{Event, submit, add, tick, Answer, queued, added, removed, ticked}
use Rattle.osc_model.specs.Events.{Entry}
use Rattle.osc_model.specs.declared.late.Late.{Late}
use Rattle.osc_model.specs.declared.late.Late.TheVariants.{Discard}

-- the clock after a moment was handed in and answered
abbrev pub ticked_to : ℕ → Answer → ℕ → ℕ
ticked_to now ticked clock = now
ticked_to now _ clock = clock

-- the clock after an entry
abbrev pub clock_by : Event → Answer → ℕ → ℕ
clock_by (tick now) answer clock = ticked_to now answer clock
clock_by _ answer clock = clock

abbrev pub clock_from : ℕ → List Entry → ℕ
clock_from clock [] = clock
clock_from clock (entry ∷ entries) = clock_from (clock_by entry.event entry.answer clock) entries

-- the moment of the last tick that was answered so, or 1
abbrev pub clock_in : List Entry → ℕ
clock_in history = clock_from 1 history

-- a method was added, and was not removed since
pub record IsRegistered (history : List Entry) (id : ℕ) (address : List ℕ) : Type 0 where
  pub before : List Entry
  pub caller : ℕ
  pub later : List Entry
  pub place : history ≡ before ++ record { caller = caller; event = add address; answer = added id }
      ∷ later
  pub stays : AllByRecursion (λ entry. entry.answer ≢ removed id) later

-- the unit with a number: one of those of a packet that was queued
pub record IsUnitOf (history : List Entry) (number : ℕ) (unit : TimedUnit) : Type 0 where
  pub before : List Entry
  pub caller : ℕ
  pub packet : List ℕ
  pub first : ℕ
  pub count : ℕ
  pub dropped : ℕ
  pub later : List Entry
  pub place : history
      ≡ before ++ record {
        caller = caller;
        event = submit packet;
        answer = queued first count dropped;
      } ∷ later
  pub index : ℕ
  pub number_is : number ≡ first + index
  pub unit_is : slice_get (units_read packet) index ≡ Some unit

-- a unit is late at a clock: its effective tag isn't 1, and is below it
pub record IsLate (clock : ℕ) (unit : TimedUnit) : Type 0 where
  pub timed : unit.tag ≢ 1
  pub below : unit.tag < clock

-- late units are discarded, and the unit with a number was late by the clock that stood before its
-- packet
pub record IsDiscarded (policy : Late) (history : List Entry) (number : ℕ) : Type 0 where
  pub discards : policy ≡ Discard
  pub unit : TimedUnit
  pub of : IsUnitOf history number unit
  pub late : IsLate (clock_in of.before) unit
