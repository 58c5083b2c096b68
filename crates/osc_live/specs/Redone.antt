-- Inside the crate: what is left of boxes where entries are played again.
use Rattle.std.specs.Prelude.{◌≡◌, ◌⊎◌, ℕ, ◌+◌, ◌<◌, ◌≤◌, Bool, true, List, [], ◌∷◌, ◌++◌, Option}
use Rattle.std.specs.Prelude.{Some, None, is_some}
use Rattle.std.specs.Prelude.{MatchBool, length, map, drop, slice_get}
use Rattle.std.specs.List.{AllByRecursion, Contains}
use Rattle.osc_method.specs.Heard.{Fixed}
use Rattle.osc_model.specs.Limits.{Limits}
use Rattle.osc_model.specs.Events.{Event, add, remove, release, Answer, added, removed, Entry}
use Rattle.osc_model.specs.Events.{Invocation}
use Rattle.osc_model.specs.Heard.{Told, reset, all_hear, without_id}
use Rattle.osc_model.specs.State.{opening}
use Rattle.osc_model.specs.History.{Performance, HasHeard, invocations}
use Rattle.osc_core.specs.Redoing.{told_as}
use Rattle.osc_core.specs.Standing.{mark_of}
use Rattle.osc_live.specs.Resuming.{added_in, removed_in, HasMarkOf, marks}

-- a box is taken from the bank, or none
abbrev pub Takes : {M : Type 0} → Bool → Option M → List M → List M → Type 0
Takes {M} needed given bank rest =
    MatchBool needed ((method : M) × (given ≡ Some method) × (bank ≡ method ∷ rest))
    ((given ≡ None) × (rest ≡ bank))

-- the box of an id is taken out of boxes, or none has the id
abbrev pub TakesOut : {M : Type 0} → ℕ → List (ℕ × M) → List (ℕ × M) → Option M → Type 0
TakesOut id old new None = (Contains (map (λ one. one.0) old) id → ⊥) × (new ≡ old)
TakesOut {M} id old new (Some method) = (front : List (ℕ × M)) × (back : List (ℕ × M))
    × (old ≡ front ++ (id, method) ∷ back) × (new ≡ front ++ back)

-- it is taken out of the first boxes or out of the others, or none of either has the id
abbrev pub TakesEither : {M : Type 0} → ℕ → List (ℕ × M) → List (ℕ × M) → List (ℕ × M)
    → List (ℕ × M) → Option M → Type 0
TakesEither id old new others more result =
    ((is_some result ≡ true) × TakesOut id old new result × (more ≡ others))
    ⊎ ((Contains (map (λ one. one.0) old) id → ⊥) × (new ≡ old) × TakesOut id others more result)

module _ {M : Type 0} (keep : M → Fixed) (heard : M → Option (List ℕ)) where
  -- a box leaves the bank, reset, to stand last among the boxes
  abbrev TakesBox : ℕ → List M → List M → List Told → List Told → Type 0
  TakesBox id bank rest old new = (method : M) × (bank ≡ method ∷ rest)
      × (new ≡ old ++ reset (told_as keep heard id method) ∷ [])

  -- a box leaves the boxes, to stand last among those that were removed
  abbrev GivesBox : ℕ → List Told → List Told → List (ℕ × M) → List (ℕ × M) → Type 0
  GivesBox id old new out more = (method : M) × Contains old (told_as keep heard id method)
      × (new ≡ without_id id old) × (more ≡ out ++ (id, method) ∷ [])

  -- how the bank, the boxes and those that were removed change by one entry
  abbrev pub Moves : Event → Answer → List Invocation → List M → List M → List Told → List Told
      → List (ℕ × M) → List (ℕ × M) → Type 0
  Moves (add bytes) (added id) calls bank rest old new out more =
      TakesBox id bank rest old new × (more ≡ out)
  Moves (add bytes) answer calls bank rest old new out more =
      (rest ≡ bank) × (new ≡ old) × (more ≡ out)
  Moves (remove bytes) (removed id) calls bank rest old new out more =
      (rest ≡ bank) × GivesBox id old new out more
  Moves (remove bytes) answer calls bank rest old new out more =
      (rest ≡ bank) × (new ≡ old) × (more ≡ out)
  Moves release answer calls bank rest old new out more =
      (rest ≡ bank) × (new ≡ all_hear calls old) × (more ≡ out)
  Moves event answer calls bank rest old new out more =
      (rest ≡ bank) × (new ≡ old) × (more ≡ out)

  -- a box that tells so has the mark of the one in the place of its id
  abbrev pub TellsMarkOf : List M → Told → Type 0
  TellsMarkOf bank told = (method : M) × (slice_get bank told.id ≡ Some method)
      × (mark_of told ≡ mark_of (told_as keep heard told.id method))

  -- where an entry removed its method, a box had heard the entries before it
  pub record HeardTill (caps : Limits) (history : List Entry) (one : ℕ × M) : Type 0 where
    pub first : List Entry
    pub entry : Entry
    pub later : List Entry
    pub place : history ≡ first ++ entry ∷ later
    pub removes : entry.answer ≡ removed one.0
    pub heard_then : HasHeard (invocations (opening caps) first) (told_as keep heard one.0 one.1)

  -- entries up to some that are left are played again
  pub record IsRedone (caps : Limits) (history : List Entry) (bank : List M) (left : List Entry)
      (performance : Performance) (boxes : List Told) (rest : List M)
      (out : List (ℕ × M)) : Type 0 where
    pub before : List Entry
    pub all : history ≡ before ++ left
    pub played : performance ≡ record { caps = caps; history = before }
    pub rest_is : rest ≡ drop (added_in before) bank
    pub marks : AllByRecursion (TellsMarkOf bank) boxes
    pub covers : (id : ℕ) → id < added_in before
        → Contains (map (λ told. told.id) boxes) id ⊎ Contains (map (λ one. one.0) out) id
    pub out_ids : map (λ one. one.0) out ≡ removed_in before
    pub out_marks : AllByRecursion (HasMarkOf keep heard bank) out
    pub out_heard : AllByRecursion (HeardTill caps before) out

  -- so many boxes were taken from the bank: each stands under its id among the boxes or among those
  -- that were removed, with its mark; and there is room for them where the rest is
  pub record IsOut (whole : List M) (boxes : List Told) (out : List (ℕ × M)) (rest : List M)
      (taken room : ℕ) : Type 0 where
    pub counted : length whole ≡ taken + length rest
    pub rest_is : rest ≡ drop taken whole
    pub room_is : length whole ≤ room
    pub covers : (id : ℕ) → id < taken
        → Contains (map (λ told. told.id) boxes) id ⊎ Contains (map (λ one. one.0) out) id
    pub marks : AllByRecursion (TellsMarkOf whole) boxes
    pub out_marks : AllByRecursion (HasMarkOf keep heard whole) out

  -- boxes from an id on are back in the bank, and those below it stand in one of the two lists
  pub record IsBack (whole : List M) (id : ℕ) (kept out : List (ℕ × M)) (bank : List M)
      (room : ℕ) : Type 0 where
    pub counted : length whole ≡ id + length bank
    pub marks_are : marks keep heard bank ≡ marks keep heard (drop id whole)
    pub room_is : length whole ≤ room
    pub covers : (j : ℕ) → j < id
        → Contains (map (λ one. one.0) kept) j ⊎ Contains (map (λ one. one.0) out) j
    pub kept_marks : AllByRecursion (HasMarkOf keep heard whole) kept
    pub out_marks : AllByRecursion (HasMarkOf keep heard whole) out
