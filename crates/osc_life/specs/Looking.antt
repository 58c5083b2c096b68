-- Tokens that only look, and what comes of looking.
use Rattle.std.specs.Prelude.{◌≡◌, ℕ, List, Option, Some, None, Vec, All}
use Rattle.std.specs.Option.{IsSomeAnd}
use Rattle.osc_method.specs.declared.method.Method.{Ghosts}
use Rattle.osc_model.specs.Limits.{Limits}
use Rattle.osc_model.specs.Recordings.{record_text}
use Rattle.osc_core.specs.Standing.{history_in}
use Rattle.osc_turn.specs.declared.view.Entry.{Entry as Seen}
use Rattle.osc_turn.specs.declared.view.View.{View}
use Rattle.osc_turn.specs.History.{StartsWith, texts}
use Rattle.osc_turn.specs.Passes.{view}
use Rattle.osc_live.specs.declared.caller.Caller.{Caller}
use Rattle.osc_live.specs.declared.live.Live.{Live}
use Rattle.osc_live.specs.Looks.{HasLooked}
use Rattle.osc_live.specs.Tokens.{IsOurs}
use Rattle.osc_life.specs.declared.beside.Beside.{Beside}
use Rattle.osc_life.specs.declared.looker.Looker.{Looker}
use Rattle.osc_life.specs.declared.worker.Job.{Job}
use Rattle.osc_life.specs.Holders.{Holder}
use Rattle.osc_life.specs.Works.{CanPlay, CanGoOn, ArePlayed}

-- A caller who has looked comes back, and this is the result, where something that was lent was as the
-- first and is as the second.
pub record IsBack {Y D : Type 0} (looks : Y → Y → D → Limits → View → Type 0) {M : Type 0}
    {G : Ghosts M} (live : Live M G) (before after : Y) (first : Caller)
    (back : Caller × D) : Type 0 where
  pub ours : IsOurs live back.0
  pub number : back.0.number ≡ first.number
  pub looked : HasLooked (view first.pass) (view back.0.pass)
  pub came : looks before after back.1 live.caps (view back.0.pass)

module _ {M : Type 0} {G : Ghosts M} (live : Live M G) where
  -- someone is there who may look
  abbrev pub CanLook : {A : Type 0} → Option (Looker A) → Type 0
  CanLook who = IsSomeAnd who (λ one. IsOurs live one.first)

  -- someone was there who has looked, and comes back
  abbrev pub HasComeBack : {A Y D : Type 0} → (Y → Y → D → Limits → View → Type 0) → Y → Y
      → Option (Looker A) → Caller × D → Type 0
  HasComeBack looks before after who back =
      IsSomeAnd who (λ one. IsBack looks live before after one.first back)

  -- jobs are there that can be played, and what goes on meanwhile with its caller
  abbrev pub CanStart : {P X T Z : Type 0} → (X → X → T → Holder → View → View → Type 0)
      → (P → Type 0) → X → Option (Vec (Job P) Z) → Option Caller → Option T → Type 0
  CanStart rounds ready on jobs caller state =
      IsSomeAnd jobs (λ all. All (CanPlay live ready) all.items)
      × IsSomeAnd caller (λ one. IsSomeAnd state (λ s. CanGoOn live rounds on s one))

  -- these were there, and were played
  abbrev pub HavePlayed : {P E X T F Z : Type 0}
      → (P → E → Holder → List Seen → List Seen → Type 0)
      → (X → X → T → Holder → View → View → Type 0)
      → (X → X → F → Holder → List (List Seen) → View → View → Type 0) → X → X
      → Option (Vec (Job P) Z) → Option Caller → Option T → Beside E F → Type 0
  HavePlayed plays rounds ends on then_on jobs caller state both =
      IsSomeAnd jobs (λ all. IsSomeAnd caller (λ one. IsSomeAnd state
      (λ s. ArePlayed live plays rounds ends all.items on then_on s one both)))

-- The result of looking, where something that was lent was as the first and is as the second: what
-- was seen in the end is a front of the history that is recorded. Or nobody has looked.
abbrev pub HasLookedOn : {Y D : Type 0} → (Y → Y → D → Limits → View → Type 0) → Limits → Y → Y
    → List ℕ → Option D → Type 0
HasLookedOn looks caps before after recording (Some end) =
    (last : View) × (history : List Seen) × looks before after end caps last
    × StartsWith history last.seen × (recording ≡ record_text caps (history_in (texts history)))
HasLookedOn looks caps before after recording None = after ≡ before
