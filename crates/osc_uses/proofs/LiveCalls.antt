-- Calls of a live server, one after another.
use Rattle.std.proofs.Common.{◌≡◌, ℕ, List, ◌∷◌, subst, sym}
use Rattle.osc_turn.specs.declared.view.View.{View}
use Rattle.osc_model.specs.Limits.{Limits}
use Rattle.osc_uses.specs.LiveCalls.{Runs, RunsOne}

-- a moment, and then those behind it
pub runs_on : (caps : Limits) (caller moment : ℕ) (moments all : List ℕ) (v between w : View) → all ≡ moment ∷ moments
    → RunsOne caps caller moment v between → Runs caps caller moments between w → Runs caps caller all v w
runs_on caps caller moment moments all v between w split one rest =
    subst (λ (ms : List ℕ). Runs caps caller ms v w) (sym split) (between, one, rest)
