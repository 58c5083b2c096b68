-- What the last release invoked, and how its calls are told.
use Rattle.std.specs.Prelude.{◌≡◌, ℕ, ◌+◌, ◌*◌, ◌<◌, ◌≤◌, Bool, true, false, if◌then◌else◌, List}
use Rattle.std.specs.Prelude.{[], ◌∷◌}
use Rattle.std.specs.Prelude.{length, map, take, drop, slice_index, refl, Option, Some, None}
use Rattle.std.specs.Coded.{Coded, code_by, coded×, coded_ℕ, coded_list}
use Rattle.std.specs.Int.{w32, from_be_bytes}
use base.Stored.{Coded-set}
use Rattle.osc_model.specs.State.{State, opening}
use Rattle.osc_model.specs.Events.{Event, release, Entry, Hit, Invocation}
use Rattle.osc_model.specs.Recordings.{hits_in}
use Rattle.osc_model.specs.Step.{step}
use Rattle.osc_model.specs.History.{Performance}
use Rattle.osc_core.specs.Frames.{first_framed}
use Rattle.osc_core.specs.declared.called.Called.{Called}
use Rattle.osc_core.specs.declared.called.Calls.{Calls}
use Rattle.osc_core.specs.declared.release.LastRelease.{LastRelease}

-- whether an event is a release
abbrev pub is_release : Event → Bool
is_release release = true
is_release _ = false

-- From a state on, where these were invoked last: what the newest release invoked. A release has an
-- entry only where it released a unit.
abbrev pub last_from : State → List Invocation → List Entry → List Invocation
last_from state last [] = last
last_from state last (entry ∷ entries) =
    last_from (step state entry.event).state
    (if is_release entry.event then (step state entry.event).invocations else last) entries

-- the invocations of the last unit that was released, in order; none where none was
abbrev pub last_invocations : Performance → List Invocation
last_invocations performance = last_from (opening performance.caps) [] performance.history

-- a call as a host sees it: the unit, which of its messages it is, the method's id, and the message
pub record Call : Type 0 where
  pub unit : ℕ
  pub index : ℕ
  pub id : ℕ
  pub message : List ℕ

-- that of an invocation
abbrev pub call_of : Invocation → Call
call_of invocation = record {
  unit = invocation.unit;
  index = invocation.call.index;
  id = invocation.call.id;
  message = invocation.call.message;
}

-- the calls of the last release
abbrev pub last_calls : Performance → List Call
last_calls performance = map call_of (last_invocations performance)

-- that which the code tells
abbrev pub shown : Called → Call
shown called = record {
  unit = called.unit;
  index = called.index;
  id = called.method;
  message = called.message.now;
}

-- where messages begin, each after its length, from a place on
abbrev pub starts_of : ℕ → List (List ℕ) → List ℕ
starts_of start [] = []
starts_of start (message ∷ messages) = start ∷ starts_of (start + (4 + length message)) messages

-- By these places each of the messages is found. A place that isn't there is read as 0, so for a
-- message alone none needs to be there.
abbrev pub FindEach : List ℕ → List (List ℕ) → Type 0
FindEach starts messages = (index : ℕ) → index < length messages
    → slice_index starts index ≡ slice_index (starts_of 0 messages) index

-- the message with an index, where they begin at these places of the bytes
abbrev pub message_at : List ℕ → List ℕ → ℕ → List ℕ
message_at starts bytes index = first_framed (drop (slice_index starts index) bytes)

-- the call of a hit
abbrev pub call_at : ℕ → List ℕ → List ℕ → Hit → Call
call_at unit starts bytes hit = record {
  unit = unit;
  index = hit.index;
  id = hit.id;
  message = message_at starts bytes hit.index;
}

-- the calls that an iterator has left
abbrev pub calls_left : Calls → List Call
calls_left calls =
    map (call_at calls.unit calls.starts.now calls.bytes.now) (hits_in calls.hits.now)

-- the bytes of a recording in which the hits of a release stand
abbrev pub hits_at : LastRelease → List ℕ → List ℕ
hits_at last text = take (8 * last.calls) (drop last.place text)

-- the calls of a release, whose hits stand in a recording
abbrev pub calls_in : LastRelease → List ℕ → List Call
calls_in last text = map (call_at last.unit last.starts.items last.bytes.items)
    (hits_in (hits_at last text))

-- the first hit of bytes, and what follows it; or there are fewer bytes than one has
abbrev pub SplitsHit : List ℕ → Option (ℕ × ℕ × List ℕ) → Type 0
SplitsHit bytes None = length bytes ≤ 7
SplitsHit bytes (Some split) = (8 ≤ length bytes)
    × (split.0 ≡ from_be_bytes w32 (take 4 bytes))
    × (split.1 ≡ from_be_bytes w32 (take 4 (drop 4 bytes)))
    × (split.2 ≡ drop 8 bytes)

-- a call is stored as the tuple of its parts
abbrev call_code : Coded Call
call_code =
    code_by (ℕ × (ℕ × (ℕ × List ℕ)))
    (coded× coded_ℕ (coded× coded_ℕ (coded× coded_ℕ (coded_list coded_ℕ))))
    (λ call. (call.unit, (call.index, (call.id, call.message))))
    (λ p. record { unit = p.0; index = p.1.0; id = p.1.1.0; message = p.1.1.1 }) (λ _. refl)

-- so two lists of calls are the same in one way at most
pub calls_set : IsSet (List Call)
calls_set = Coded-set (coded_list call_code)
