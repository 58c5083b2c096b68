-- Where a message goes.
use Rattle.std.specs.Prelude.{ℕ, zero, suc, ◌-◌, ◌==◌, Bool, true, false, ◌&&◌, nat_lt}
use Rattle.std.specs.Prelude.{if◌then◌else◌, List, [], ◌∷◌, ◌++◌, length, filter, codes, bytes_eq}
use Rattle.osc_pattern.specs.Patterns.{matches}
use Rattle.osc_shown.specs.declared.route.Route.{Route}
use Rattle.osc_shown.specs.Numbers.{thousands}

-- the methods whose addresses a pattern matches
abbrev pub hits : List ℕ → List Route → List Route
hits pattern routes = filter (λ route. matches pattern route.address) routes

-- where a method sends, after a space, if it sends
abbrev pub to_words : List ℕ → List ℕ
to_words to = if length to == 0 then [] else 32 ∷ to

-- where a method sends, unless the next one sends there too
abbrev pub unless_same : List ℕ → List ℕ → List ℕ
unless_same to next = if bytes_eq to next then [] else to_words to

-- after the last address of those that send to one place, that place
abbrev pub run_end : Route → List Route → List ℕ
run_end hit [] = to_words hit.to.items
run_end hit (next ∷ more) = unless_same hit.to.items next.to.items

-- a comma before the next address, if there is one
abbrev pub before_next : Bool → List Route → List ℕ
before_next goes_on [] = []
before_next goes_on (next ∷ more) = if goes_on then codes ", " else []

-- the addresses, at most so many, and where they send
abbrev pub listed : ℕ → List Route → List ℕ
listed zero found = []
listed (suc most) [] = []
listed (suc most) (hit ∷ more) =
    hit.address ++ run_end hit more ++ before_next (nat_lt 0 most) more ++ listed most more

-- how many addresses are listed, where not all are
abbrev pub most_listed : ℕ
most_listed = 4

-- of so many addresses after the first, how many aren't listed
abbrev pub unlisted : ℕ → List ℕ
unlisted more = if nat_lt more 4 then [] else codes " and " ++ thousands (more - 3) ++ codes " more"

-- an arrow before where a method sends, if it sends
abbrev pub arrow : List ℕ → List ℕ
arrow to = if length to == 0 then [] else codes "-> " ++ to

-- the pattern is the one address that it matches
abbrev pub is_own : List ℕ → Route → List Route → Bool
is_own pattern hit more = length more == 0 && bytes_eq hit.address pattern

-- the addresses, which are one and so many more: all, or the first four and how many more there are
abbrev pub hits_listed : Bool → List Route → ℕ → List ℕ
hits_listed true found more = listed (length found) found
hits_listed false found more = listed most_listed found ++ unlisted more

-- Where a pattern goes: the addresses that it matches, or, of its own one alone, where that sends.
abbrev pub going : Bool → List ℕ → List Route → List ℕ
going whole pattern [] = codes "no method"
going whole pattern (hit ∷ more) =
    if is_own pattern hit more then arrow hit.to.items
    else codes "-> " ++ hits_listed whole (hit ∷ more) (length more)
