-- The second and the third law: no unit is released before its tag, and it calls exactly the
-- methods that match then.
use Rattle.std.specs.Prelude.{◌≡◌, ◌↔◌, ℕ, ◌≤◌, ◌==◌, List, [], ◌∷◌, ◌++◌, map, filter, slice_get}
use Rattle.std.specs.Prelude.{Some, None}
use Rattle.std.specs.List.{AllByRecursion, Contains}
use Rattle.osc_pattern.specs.Patterns.{Match}
use Rattle.osc_message.specs.Reading.{pattern_of}
use Rattle.osc_message.specs.Arguments.{unknown_of}
use Rattle.osc_packet.specs.Units.{TimedUnit}
use Rattle.osc_model.specs.Events.{release, released, Hit, Call, Invocation, Entry}
use Rattle.osc_model.specs.Step.{hits_of}
use Rattle.osc_laws.specs.Facts.{IsRegistered, IsUnitOf, clock_in}
use Rattle.osc_laws.specs.Consecutive.{ComesBefore}

-- the unit with this number is released after these entries and before those, with these hits
abbrev pub IsReleasedAt : List Entry → List Entry → ℕ → List Hit → List Entry → Type 0
IsReleasedAt history before number hits later =
    (caller : ℕ)
    × (history ≡ before
    ++ record { caller = caller; event = release; answer = released number hits } ∷ later)

-- The unit of an invocation was released at a place where the clock stood at the unit's tag, or
-- after it.
pub record IsInTime (history : List Entry) (invocation : Invocation) : Type 0 where
  pub before : List Entry
  pub hits : List Hit
  pub later : List Entry
  pub place : IsReleasedAt history before invocation.unit hits later
  pub unit : TimedUnit
  pub unit_is : IsUnitOf before invocation.unit unit
  pub in_time : unit.tag ≤ clock_in before

-- A call that a unit has to make where it is released after these entries: the message at its index
-- has no unknown tag, a method with its id and address is registered, and the message's pattern
-- matches that address.
pub record IsCallOf (history : List Entry) (unit : TimedUnit) (call : Call) : Type 0 where
  pub message : slice_get unit.messages call.index ≡ Some call.message
  pub known : unknown_of call.message ≡ None
  pub registered : IsRegistered history call.id call.address
  pub matched : Match (pattern_of call.message) call.address

-- each call comes before all those after it, so none stands there twice
abbrev pub AreInOrder : List Call → Type 0
AreInOrder [] = Unit {0}
AreInOrder (call ∷ calls) = AllByRecursion (ComesBefore call) calls × AreInOrder calls

-- the calls of the unit with this number
abbrev pub calls_of_number : ℕ → List Invocation → List Call
calls_of_number number invocations =
    map (λ invocation. invocation.call)
    (filter (λ invocation. invocation.unit == number) invocations)

-- A unit that is released after these entries, not before its tag, makes exactly the calls that it
-- has to make, each once, and the entry tells their hits.
pub record CallsExactly (before : List Entry) (number : ℕ) (hits : List Hit)
    (calls : List Call) : Type 0 where
  pub unit : TimedUnit
  pub unit_is : IsUnitOf before number unit
  pub in_time : unit.tag ≤ clock_in before
  pub exactly : (call : Call) → Contains calls call ↔ IsCallOf before unit call
  pub in_order : AreInOrder calls
  pub told : hits ≡ hits_of calls

-- each release of a history does so, with those of all these invocations that are of its unit
abbrev pub AreExact : List Entry → List Invocation → Type 0
AreExact history invocations =
    (before later : List Entry) (number : ℕ) (hits : List Hit)
    → IsReleasedAt history before number hits later
    → CallsExactly before number hits (calls_of_number number invocations)
