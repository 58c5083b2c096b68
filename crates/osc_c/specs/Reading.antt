-- What a release leaves to be read, and what is read of it.
use Rattle.std.specs.Prelude.{◌≡◌, ℕ, nat_lt, MatchBool, List, [], ◌∷◌, ◌++◌, drop, length}
use Rattle.osc_core.specs.Invoked.{Call, last_calls}
use Rattle.osc_c.specs.declared.called.Called.{Called}
use Rattle.osc_c.specs.declared.state.State.{State}

-- the calls that are left to be read
abbrev pub left_of : State → List Call
left_of state = drop state.read (last_calls state.core.performance)

-- a call in C
abbrev pub called : Call → Called
called call = record {
  unit = call.unit;
  method = call.id;
  index = call.index;
  size = length call.message;
}

-- what is told of the calls that were left, with what is left then: none; or the first, which stays
-- where the buffer is too small, and is copied to the buffer's beginning else
abbrev pub TellsNext : List Call → List Call → ℕ → Called → Called → List ℕ → List ℕ → Type 0
TellsNext [] left status given call before buffer =
    (status ≡ 18) × (left ≡ []) × (call ≡ given) × (buffer ≡ before)
TellsNext (next ∷ more) left status given call before buffer =
    (call ≡ called next)
    × MatchBool (nat_lt (length before) (length next.message))
    ((status ≡ 19) × (left ≡ next ∷ more) × (buffer ≡ before))
    ((status ≡ 0) × (left ≡ more)
    × (buffer ≡ next.message ++ drop (length next.message) before))
