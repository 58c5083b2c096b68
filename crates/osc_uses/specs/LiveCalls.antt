-- What a caller of a live server does by more than one call, where `v` is what its token knew
-- before and `w` what it knows then.
use Rattle.std.specs.Prelude.{◌≡◌, ℕ, List, [], ◌∷◌}
use Rattle.osc_turn.specs.declared.view.View.{View}
use Rattle.osc_turn.specs.History.{StartsWith}
use Rattle.osc_turn.specs.Answers.{FindsTwice, KeepsOwn}
use Rattle.osc_model.specs.Limits.{Limits}
use Rattle.osc_model.specs.Events.{Answer, add, remove, submit}
use Rattle.osc_core.specs.Answers.{submitted_of}
use Rattle.osc_live.specs.declared.pumped.Pumped.{Pumped}
use Rattle.osc_live.specs.Calls.{Calls, IsBusy}
use Rattle.osc_live.specs.Pumps.{Pumps}
use Rattle.osc_uses.specs.declared.busy_turn.Soon.{Soon}
use Rattle.osc_uses.specs.declared.busy_turn.Soon.TheVariants.{AtOnce, AfterWaiting}
use Rattle.osc_uses.specs.Live.{Ticks}

-- a caller submits a packet at once, or finds the turn another's and then waits for it
abbrev pub SubmitsSoon : Limits → ℕ → List ℕ → Soon → View → View → Type 0
SubmitsSoon caps caller packet (AtOnce submitted) v w =
    Calls caps caller (submit packet) (submitted_of submitted) v w × FindsTwice v w
SubmitsSoon caps caller packet (AfterWaiting busy submitted) v w =
    (between : View) × IsBusy busy.found v between
    × Calls caps caller (submit packet) (submitted_of submitted) between w

-- a caller sees all that another has seen, and then releases until nothing is due
pub record PumpsAfter (caps : Limits) (caller : ℕ) (pumped : Pumped)
    (other v w : View) : Type 0 where
  pub between : View
  pub own : StartsWith between.seen v.seen
  pub told : StartsWith between.seen other.seen
  pub none_added : KeepsOwn v between
  pub pumps : Pumps caps caller pumped between w

-- a caller hands a moment in, and then releases until nothing is due
abbrev pub RunsOne : Limits → ℕ → ℕ → View → View → Type 0
RunsOne caps caller moment v w =
    (ticked : Answer) × (pumped : Pumped) × Ticks caps caller moment ticked pumped v w

-- so with one moment after another
abbrev pub Runs : Limits → ℕ → List ℕ → View → View → Type 0
Runs caps caller [] v w = w ≡ v
Runs caps caller (moment ∷ moments) v w =
    (between : View) × RunsOne caps caller moment v between × Runs caps caller moments between w

-- A caller removes the method at the address, and then adds one there. This holds of what its token
-- knows between the two.
pub record Replaces (caps : Limits) (caller : ℕ) (address : List ℕ) (removed added : Answer)
    (holds : View → Type 0) (v w : View) : Type 0 where
  pub between : View
  pub removes : Calls caps caller (remove address) removed v between
  pub held : holds between
  pub adds : Calls caps caller (add address) added between w
