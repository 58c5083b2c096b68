-- Inside the crate: what was asked was played, and is answered.
use Rattle.std.specs.Prelude.{ℕ, List, Option, IfSome, IsSomeAnd}
use Rattle.osc_model.specs.Limits.{Limits}
use Rattle.osc_model.specs.Events.{Event, Answer}
use Rattle.osc_live.specs.Calls.{Plays}

module _ {A B : Type 0} (event : A → Event) (says : B → Answer → Type 0)
    (tells : A → B → Limits → List (List ℕ) → Type 0) where
  -- what was asked was played as the caller's event, and what is given stands for the answer to it
  abbrev pub Did : Limits → ℕ → Option A → Option B → List (List ℕ) → List (List ℕ) → Type 0
  Did caps caller asked given before after =
      IfSome asked
      (λ a. IsSomeAnd given
      (λ b. (answer : Answer) × says b answer × Plays caps caller (event a) answer before after
      × tells a b caps after))
