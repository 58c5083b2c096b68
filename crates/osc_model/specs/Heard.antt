-- What boxed methods hear of a server's invocations.
use Rattle.std.specs.Prelude.{ℕ, ◌≤◌, ◌==◌, if◌then◌else◌, not, List, [], ◌∷◌, length, map, filter}
use Rattle.std.specs.Prelude.{Option, IfSome}
use Rattle.std.specs.Option.{option_map}
use Rattle.std.specs.List.{flat_map}
use Rattle.osc_method.specs.Calls.{call_text}
use Rattle.osc_method.specs.Heard.{Fixed, last_of, after_call}
use Rattle.osc_model.specs.Events.{Invocation}

-- what is known of a boxed method: the id under which it is registered, what no call changes, and
-- the bytes that it tells, where it tells
pub record Told : Type 0 where
  pub id : ℕ
  pub keep : Fixed
  pub heard : Option (List ℕ)

-- the bytes of the call that an invocation makes
abbrev pub bytes_of : Invocation → List ℕ
bytes_of invocation = call_text invocation.unit invocation.call.index invocation.call.message

-- the bytes of an id's calls, one after another
abbrev pub calls_bytes : List Invocation → ℕ → List ℕ
calls_bytes invocations id =
    flat_map bytes_of (filter (λ invocation. invocation.call.id == id) invocations)

-- what a method that keeps so many bytes has heard of all these invocations
abbrev pub heard_of : List Invocation → ℕ → ℕ → List ℕ
heard_of invocations id keep = last_of keep (calls_bytes invocations id)

-- a box that is reset has heard nothing
abbrev pub reset : Told → Told
reset told = record told { heard = option_map (λ _. []) told.heard }

-- a box hears an invocation of its id, and no other
abbrev pub hear : Told → Invocation → Told
hear told invocation =
    if invocation.call.id == told.id
    then record told { heard = after_call told.keep.most (bytes_of invocation) told.heard }
    else told

-- a box hears invocations one after another
abbrev pub hear_all : List Invocation → Told → Told
hear_all [] told = told
hear_all (invocation ∷ invocations) told = hear_all invocations (hear told invocation)

-- what a box tells is no more than it keeps
abbrev pub IsWithin : Told → Type 0
IsWithin told = IfSome told.heard (λ bytes. length bytes ≤ told.keep.most)

-- each box hears the invocations of its id
abbrev pub all_hear : List Invocation → List Told → List Told
all_hear invocations boxes = map (hear_all invocations) boxes

-- the boxes but for that of an id
abbrev pub without_id : ℕ → List Told → List Told
without_id id boxes = filter (λ box. not (box.id == id)) boxes
