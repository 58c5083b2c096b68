-- What a round does to all visitors that are there.
use Rattle.std.specs.Prelude.{◌≡◌, ℕ, ◌+◌, ◌-◌, ◌≤◌, List, [], ◌∷◌, ◌++◌, length}
use Rattle.std.specs.Prelude.{drop, map, Option, if◌then◌else◌}
use Rattle.std.specs.List.{AllByRecursion}
use Rattle.osc_door.specs.Visitors.{IsFresh}
use Rattle.osc_hall.specs.declared.limits.TheConstants.{COMERS, GUESTS}
use Rattle.osc_hall.specs.Turns.{Seen, just_come, Turn, IsTurn}

-- who is there once one more has room: where the hall is full, the one that came first goes
abbrev pub with_room : {V : Type 0} → List (Seen V) → List (Seen V)
with_room guests = drop (length guests + 1 - GUESTS) guests

-- who is there once this one has come in
abbrev pub with_comer : {V : Type 0} → List (Seen V) → V → List (Seen V)
with_comer guests comer = with_room guests ++ just_come comer ∷ []

-- who is there once these have come in, one after another
abbrev pub with_comers : {V : Type 0} → List (Seen V) → List V → List (Seen V)
with_comers guests [] = guests
with_comers guests (comer ∷ comers) = with_comers (with_comer guests comer) comers

-- those who stay
abbrev pub staying : {V : Type 0} → List (Turn V) → List (Seen V)
staying [] = []
staying (turn ∷ turns) = if turn.stays then turn.after ∷ staying turns else staying turns

-- Who comes in has taken nothing yet, and they are few.
pub record AreLetIn {V : Type 0} (taken : V → Option (List ℕ)) (before : List (Seen V))
    (most : ℕ) (after : List (Seen V)) : Type 0 where
  pub comers : List V
  pub few : length comers ≤ most
  pub fresh : AllByRecursion (λ visitor. IsFresh (taken visitor)) comers
  pub after_is : after ≡ with_comers before comers

-- Each that is there has one turn, in order, and those who stay are there after that.
pub record AreSeen {V : Type 0} (left taken : V → Option (List ℕ)) (page state : List ℕ)
    (before after : List (Seen V)) : Type 0 where
  pub turns : List (Turn V)
  pub each : AllByRecursion (IsTurn left taken page state) turns
  pub before_is : map (λ turn. turn.before) turns ≡ before
  pub after_is : after ≡ staying turns

-- A round: some come in, and each that is then there has one turn.
pub record IsRound {V : Type 0} (left taken : V → Option (List ℕ)) (page state : List ℕ)
    (before after : List (Seen V)) : Type 0 where
  pub there : List (Seen V)
  pub come : AreLetIn taken before COMERS there
  pub seen : AreSeen left taken page state there after

-- the turn of the one that is first, who is then last if it stays
abbrev pub SeesFirst : {V : Type 0} → (V → Option (List ℕ)) → (V → Option (List ℕ)) → List ℕ
    → List ℕ → List (Seen V) → List (Seen V) → Type 0
SeesFirst left taken page state [] after = after ≡ []
SeesFirst {V} left taken page state (guest ∷ guests) after =
    (turn : Turn V) × IsTurn left taken page state turn × (turn.before ≡ guest)
    × (after ≡ guests ++ staying (turn ∷ []))
