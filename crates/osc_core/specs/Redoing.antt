-- How an entry of a history is played again on the server after the entries before it.
use Rattle.std.specs.Prelude.{◌≡◌, ℕ, List, [], ◌∷◌, ◌++◌, Option, Some, None}
use Rattle.std.specs.Prelude.{MatchBool, IsSome, IfSome, IsSomeAnd}
use Rattle.std.specs.List.{Contains}
use Rattle.osc_method.specs.Heard.{Fixed}
use Rattle.osc_model.specs.Events.{Event, add, remove, release, Answer, added}
use Rattle.osc_model.specs.Events.{removed, is_added, is_removed, Entry, Invocation}
use Rattle.osc_model.specs.Heard.{Told, reset, all_hear, without_id}
use Rattle.osc_model.specs.History.{Performance}

-- one entry more
abbrev pub with_entry : Performance → Entry → Performance
with_entry performance entry =
    record performance { history = performance.history ++ entry ∷ [] }

-- what is handed in with an entry: with a method that was added its address and a box, with one
-- that was removed its address, and nothing else
abbrev pub HandsIn : {M : Type 0} → Event → Answer → Option (List ℕ) → Option M → Type 0
HandsIn (add bytes) answer address method =
    MatchBool (is_added answer) ((address ≡ Some bytes) × IsSome method)
    ((address ≡ None) × (method ≡ None))
HandsIn (remove bytes) answer address method =
    MatchBool (is_removed answer) (address ≡ Some bytes) (address ≡ None) × (method ≡ None)
HandsIn event answer address method = (address ≡ None) × (method ≡ None)

module _ {M : Type 0} (keep : M → Fixed) (heard : M → Option (List ℕ)) where
  -- a box under an id, and what it tells
  abbrev pub told_as : ℕ → M → Told
  told_as id method = record { id = id; keep = keep method; heard = heard method }

  -- where a method was added, its box stands last, reset; else the boxes stay
  abbrev pub KeepsGiven : Answer → Option M → List Told → List Told → Type 0
  KeepsGiven (added id) given old new =
      IfSome given (λ method. new ≡ old ++ reset (told_as id method) ∷ [])
  KeepsGiven _ given old new = new ≡ old

  -- where a method was removed, its box comes out with what it heard, and the others stay; else all
  -- of them stay
  abbrev pub HandsOut : Answer → List Told → List Told → Option M → Type 0
  HandsOut (removed id) old new out =
      IsSomeAnd out (λ method. Contains old (told_as id method)) × (new ≡ without_id id old)
  HandsOut _ old new out = (out ≡ None) × (new ≡ old)

  -- what becomes of the boxes, and which one comes out, where an entry with these invocations is
  -- played again
  abbrev pub Redoes : Event → Answer → List Invocation → Option M → List Told → List Told → Option M
      → Type 0
  Redoes (add bytes) answer calls given old new out = KeepsGiven answer given old new × (out ≡ None)
  Redoes (remove bytes) answer calls given old new out = HandsOut answer old new out
  Redoes release answer calls given old new out = (new ≡ all_hear calls old) × (out ≡ None)
  Redoes event answer calls given old new out = (new ≡ old) × (out ≡ None)
