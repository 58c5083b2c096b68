-- Where a message went, by the methods that it called.
use Rattle.std.specs.Prelude.{◌≡◌, ℕ, ◌==◌, Bool, true, false, ◌&&◌, if◌then◌else◌, List, [], ◌∷◌}
use Rattle.std.specs.Prelude.{◌++◌, length, take, codes, bytes_eq, Option, Some, None}
use Rattle.std.specs.List.{flat_map}
use Rattle.osc_message.specs.Reading.{pattern_of}
use Rattle.osc_shown.specs.declared.wall_clock.WallClock.{WallClock}
use Rattle.osc_shown.specs.Places.{unlisted}
use Rattle.osc_shown.specs.Tails.{late_words, unknown_words}
use Rattle.osc_shown.specs.Times.{IsDated}

-- an address after a comma
abbrev pub after_comma : List ℕ → List ℕ
after_comma address = codes ", " ++ address

-- the addresses after the first: all, or three, and how many more there are
abbrev pub others_listed : Bool → List (List ℕ) → List ℕ
others_listed true more = flat_map after_comma more
others_listed false more = flat_map after_comma (take 3 more) ++ unlisted (length more)

-- the addresses, whole or the first four
abbrev pub listing : Bool → List ℕ → List (List ℕ) → List ℕ
listing whole first more = codes "-> " ++ first ++ others_listed whole more

-- the methods that a pattern called: nothing is said where that is its own address alone
abbrev pub called : Bool → List ℕ → List (List ℕ) → List ℕ
called whole pattern [] = codes "no method"
called whole pattern (first ∷ more) =
    if length more == 0 && bytes_eq first pattern then [] else listing whole first more

-- the same of a message, which calls nothing where it has an unknown tag
abbrev pub called_by : Bool → Option ℕ → List ℕ → List (List ℕ) → List ℕ
called_by whole None message places = called whole (pattern_of message) places
called_by whole (Some tag) message places = unknown_words tag

-- how late it came, where it came late for a time tag
abbrev pub late_part : Option ℕ → Option ℕ → List ℕ
late_part moment None = []
late_part moment (Some tag) = late_words moment tag

-- what is said of a message that isn't called yet: for when it waits, or that it is due
pub record IsQueuedTail (clock : WallClock) (moment : Option ℕ) (due : ℕ) (is_due : Bool)
    (tail : List ℕ) : Type 0 where
  pub now : is_due ≡ true → tail ≡ codes "not called yet"
  pub later : is_due ≡ false
      → (said : List ℕ) × IsDated clock moment due said × (tail ≡ codes "still waits, for " ++ said)
