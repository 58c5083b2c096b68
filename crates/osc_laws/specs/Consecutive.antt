-- The first law: the invocations of a unit stand together and in order.
use Rattle.std.specs.Prelude.{◌≡◌, ◌⊎◌, ℕ, ◌<◌, IsTrue, List, ◌∷◌, ◌++◌}
use Rattle.std.specs.List.{AllByRecursion}
use Rattle.std.specs.Ordering.{is_lt, nat_cmp}
use Rattle.std.specs.Cmp.Lexicographic.{slice_cmp}
use Rattle.osc_model.specs.Events.{Call, Invocation}

-- the one address is before the other, in the order of their bytes
abbrev pub IsBelow : List ℕ → List ℕ → Type 0
IsBelow one other = IsTrue (is_lt (slice_cmp nat_cmp one other))

-- of two calls of a unit the one comes before the other: its message does, or it is the same
-- message and its method has the lower address
abbrev pub ComesBefore : Call → Call → Type 0
ComesBefore one other = (one.index < other.index)
    ⊎ ((one.index ≡ other.index) × IsBelow one.address other.address)

-- the one stands before the other among these invocations, and these stand between them
abbrev pub StandBetween : List Invocation → Invocation → List Invocation → Invocation → Type 0
StandBetween all one between other =
    (before : List Invocation) × (later : List Invocation)
    × (all ≡ before ++ one ∷ (between ++ other ∷ later))

-- Between two invocations of a unit stand only that unit's. The messages of a unit are called in
-- their order, and the methods that one message calls in ascending order of their addresses.
pub record AreConsecutive (all : List Invocation) : Type 0 where
  pub together : (one other : Invocation) (between : List Invocation)
      → StandBetween all one between other → one.unit ≡ other.unit
      → AllByRecursion (λ call. call.unit ≡ one.unit) between
  pub in_order : (one other : Invocation) (between : List Invocation)
      → StandBetween all one between other → one.unit ≡ other.unit → ComesBefore one.call other.call
