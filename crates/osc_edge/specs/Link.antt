-- What a call of a link does.
use Rattle.std.specs.Prelude.{◌≡◌, ℕ, ◌≤◌, List, [], ◌∷◌, length, take, Option, Some, None, IfSome}
use Rattle.std.specs.Prelude.{option_map}
use Rattle.std.specs.Option.{ForSome}
use Rattle.osc_edge.specs.declared.limits.TheConstants.{MAX_DATAGRAM}
use Rattle.osc_edge.specs.declared.link.Datagram.{Datagram}
use Rattle.osc_edge.specs.declared.link.Datagram.TheVariants.{Got, Quiet, End, Failed}
use Rattle.osc_edge.specs.Faults.{Rose}

-- a turn of a link is a datagram's bytes or, for a quiet, none; a datagram fits the slice
abbrev pub IsShortTurn : Option (List ℕ) → Type 0
IsShortTurn turn = ForSome turn (λ datagram. length datagram ≤ MAX_DATAGRAM)

-- at most as many bytes as the slice has
abbrev pub IsGotWithin : Datagram → List ℕ → Type 0
IsGotWithin (Got count) into = count ≤ length into
IsGotWithin Quiet into = Unit {0}
IsGotWithin End into = Unit {0}
IsGotWithin Failed into = Unit {0}

-- The turns left before and after, where they are told: what was left is the turn of this call, a
-- datagram's bytes or a quiet, and then what is left after it; at the end nothing was left, and a
-- failed call leaves all.
abbrev pub TakesTurn : Option (List (Option (List ℕ))) → Option (List (Option (List ℕ)))
    → Datagram → List ℕ → Type 0
TakesTurn before after (Got count) into =
    before ≡ option_map (λ left. Some (take count into) ∷ left) after
TakesTurn before after Quiet into = before ≡ option_map (λ left. None ∷ left) after
TakesTurn before after End into = (after ≡ before) × IfSome before (λ left. left ≡ [])
TakesTurn before after Failed into = after ≡ before

-- Failed comes only where the count rose, and any other answer leaves the count
abbrev pub HasLinkCause : ℕ → ℕ → Datagram → Type 0
HasLinkCause before now (Got count) = now ≡ before
HasLinkCause before now Quiet = now ≡ before
HasLinkCause before now End = now ≡ before
HasLinkCause before now Failed = Rose before now

-- Quiet comes only where the count of the calls that found the link not ready rose, and any other
-- answer leaves that count
abbrev pub HasQuietCause : ℕ → ℕ → Datagram → Type 0
HasQuietCause before now (Got count) = now ≡ before
HasQuietCause before now Quiet = Rose before now
HasQuietCause before now End = now ≡ before
HasQuietCause before now Failed = now ≡ before
