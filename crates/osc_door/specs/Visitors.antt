-- What a call of a visitor does.
use Rattle.std.specs.Prelude.{◌≡◌, ℕ, ◌≤◌, List, [], ◌++◌, length, take, Option, option_map}
use Rattle.osc_door.specs.declared.door.Said.{Said}
use Rattle.osc_door.specs.declared.door.Took.{Took}

-- at most as many bytes as the slice has
abbrev pub IsSaidWithin : Said → List ℕ → Type 0
IsSaidWithin (Said.Bytes count) into = count ≤ length into
IsSaidWithin Said.Quiet into = Unit {0}
IsSaidWithin Said.Gone into = Unit {0}

-- What is left to say before and after, where it is told: the bytes at the front of the slice go,
-- and any other answer leaves all.
abbrev pub SaysFront : Option (List ℕ) → Option (List ℕ) → Said → List ℕ → Type 0
SaysFront before after (Said.Bytes count) into =
    before ≡ option_map (λ left. take count into ++ left) after
SaysFront before after Said.Quiet into = after ≡ before
SaysFront before after Said.Gone into = after ≡ before

-- at most as many bytes as the piece has
abbrev pub IsTookWithin : Took → List ℕ → Type 0
IsTookWithin (Took.Bytes count) piece = count ≤ length piece
IsTookWithin Took.Quiet piece = Unit {0}
IsTookWithin Took.Gone piece = Unit {0}

-- What was taken before and after, where it is told: so many bytes of the piece are added, and any
-- other answer adds none.
abbrev pub TakesFront : Option (List ℕ) → Option (List ℕ) → Took → List ℕ → Type 0
TakesFront before after (Took.Bytes count) piece =
    after ≡ option_map (λ taken. taken ++ take count piece) before
TakesFront before after Took.Quiet piece = after ≡ before
TakesFront before after Took.Gone piece = after ≡ before

-- nothing was taken yet, where it is told
abbrev pub IsFresh : Option (List ℕ) → Type 0
IsFresh taken = taken ≡ option_map (λ t. []) taken
