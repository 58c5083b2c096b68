-- What three callers did on a server that was closed, as one history.
use Rattle.std.proofs.Common.{◌≡◌, ℕ, List, [], ◌∷◌, subst}
use Rattle.osc_turn.specs.Passes.{view}
use Rattle.osc_model.specs.Limits.{Limits}
use Rattle.osc_model.specs.Heard.{Told}
use Rattle.osc_core.specs.Answers.{adding_of, removing_of, ticking_of}
use Rattle.osc_live.specs.declared.caller.Caller.{Caller}
use Rattle.osc_live.specs.Closing.{Closes}
use Rattle.osc_uses.specs.declared.live_server.Callers.{Callers}
use Rattle.osc_uses.specs.declared.live_server.LiveRun.{LiveRun}
use Rattle.osc_uses.specs.Live.{AreOneHistory, ComesAndGoes, HasEnrolled, Sends, Ticks, own_entries}

module _ {M : Type 0} (caps : Limits) (address bytes : List ℕ) (moment : ℕ) (run : LiveRun M) (kept : List Told) where
  pub gathered : (before : Callers) (one two three : Caller) → before.first.number ≡ 0
      → HasEnrolled before.second.number before.third.number (view before.first.pass)
      → own_entries (view before.second.pass) ≡ [] → own_entries (view before.third.pass) ≡ []
      → two.number ≡ before.second.number → three.number ≡ before.third.number
      → ComesAndGoes caps before.first.number address (adding_of run.added) (removing_of run.removed) (view before.first.pass) (view one.pass)
      → Sends caps before.second.number bytes run.sent (view before.second.pass) (view two.pass)
      → Ticks caps before.third.number moment (ticking_of run.ticked) run.pumped (view before.third.pass) (view three.pass)
      → Closes caps [] ((0, view one.pass) ∷ (two.number, view two.pass) ∷ (three.number, view three.pass) ∷ [])
      (view one.pass ∷ view two.pass ∷ view three.pass ∷ []) run.closed.bytes.items kept
      → AreOneHistory caps address bytes moment run kept
  gathered before one two three zero enrolled no_second no_third second third comes sends ticks closes =
      record {
        second = before.second.number;
        third = before.third.number;
        one = view one.pass;
        two = view two.pass;
        three = view three.pass;
        closes = subst (λ (n : ℕ × ℕ). Closes caps [] ((0, view one.pass) ∷ (n.0, view two.pass) ∷ (n.1, view three.pass) ∷ [])
            (view one.pass ∷ view two.pass ∷ view three.pass ∷ []) run.closed.bytes.items kept) (λ i. (second i, third i)) closes;
        comes = (
          view before.first.pass,
          enrolled,
          subst (λ (n : ℕ). ComesAndGoes caps n address (adding_of run.added) (removing_of run.removed) (view before.first.pass) (view one.pass))
              zero comes,
        );
        sends = (view before.second.pass, no_second, sends);
        ticks = (view before.third.pass, no_third, ticks);
      }
