-- The printed history of a server.
use Rattle.std.specs.Prelude.{◌≡◌, ℕ, List, [], ◌∷◌, ◌++◌}
use Rattle.std.specs.List.{flat_map}
use Rattle.osc_print.specs.Entries.{event_line, invocation_text}
use Rattle.osc_model.specs.Limits.{Limits}
use Rattle.osc_model.specs.State.{State, opening}
use Rattle.osc_model.specs.Events.{Entry, Invocation}
use Rattle.osc_model.specs.Step.{step}
use Rattle.osc_model.specs.History.{after}
use Rattle.osc_model.specs.Releases.{InvokesRegistered}

-- each entry's line, and the lines of its invocations
abbrev pub printed_from : State → List Entry → List ℕ
printed_from state [] = []
printed_from state (entry ∷ entries) =
    event_line entry ++ flat_map invocation_text (step state entry.event).invocations
    ++ printed_from (step state entry.event).state entries

-- the printed history of a server with these limits
abbrev pub printed : Limits → List Entry → List ℕ
printed caps entries = printed_from (opening caps) entries

-- An entry of a history prints its own line and one call line for each of its invocations, between
-- the text of the entries before it and that of those after it; and each invocation is of a method
-- that was registered before the entry, whose address the pattern of the message matches.
pub record PrintsEntry (caps : Limits) (before : List Entry) (entry : Entry)
    (behind : List Entry) : Type 0 where
  pub calls : List Invocation
  pub of_entry : calls ≡ (step (after (opening caps) before) entry.event).invocations
  pub registered : InvokesRegistered (after (opening caps) before)
      (step (after (opening caps) before) entry.event)
  pub text : printed caps (before ++ entry ∷ behind)
      ≡ printed caps before
      ++ (event_line entry ++ flat_map invocation_text calls
      ++ printed_from (step (after (opening caps) before) entry.event).state behind)
