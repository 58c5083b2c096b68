-- What callers hand in and are answered.
use Rattle.std.specs.Prelude.{ℕ, Bool, true, false, List, Option, Some, None}
use Rattle.osc_tree.specs.Adding.{Refusal}

-- how much is needed, and how much is free
pub record Room : Type 0 where
  pub need : ℕ
  pub free : ℕ

-- what a caller hands in
pub data Event : Type 0 where
  enrol : Event
  submit : List ℕ → Event  -- the bytes of a packet
  add : List ℕ → Event  -- an address
  remove : List ℕ → Event
  tick : ℕ → Event
  release : Event

-- which message of a unit, and the method that it invokes
pub record Hit : Type 0 where
  pub index : ℕ
  pub id : ℕ

-- what an event is answered
pub data Answer : Type 0 where
  number : ℕ → Answer
  callers_full : Answer
  queued : ℕ → ℕ → ℕ → Answer  -- the first unit's number, how many, and how many are dropped
  units_full : Room → Answer
  pool_full : Room → Answer
  added : ℕ → Answer
  refused : Refusal → Answer  -- why an address isn't added
  removed : ℕ → Answer
  not_there : Answer
  ticked : Answer
  clock_back : ℕ → Answer  -- the clock that is kept
  released : ℕ → List Hit → Answer
  nothing_due : Option ℕ → Answer
  record_full : Room → Answer

-- an event of a caller, and what it was answered
pub record Entry : Type 0 where
  pub caller : ℕ
  pub event : Event
  pub answer : Answer

-- whether an answer adds an entry to the history: all do but these two
abbrev pub adds_entry : Answer → Bool
adds_entry (nothing_due next) = false
adds_entry (record_full room) = false
adds_entry _ = true

-- how much an entry needs, and how much is free, where an answer says that there is no room for it
abbrev pub room_in : Answer → Option Room
room_in (record_full room) = Some room
room_in _ = None

-- whether an answer says that a method was added
abbrev pub is_added : Answer → Bool
is_added (added id) = true
is_added _ = false

-- whether it says that one was removed
abbrev pub is_removed : Answer → Bool
is_removed (removed id) = true
is_removed _ = false

-- a call of a method: which message of the unit, the method, and the message
pub record Call : Type 0 where
  pub index : ℕ
  pub id : ℕ
  pub address : List ℕ
  pub message : List ℕ

-- a call, in the unit with a number
pub record Invocation : Type 0 where
  pub unit : ℕ
  pub call : Call
