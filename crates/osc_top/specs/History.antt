-- The one history of a server: its laws, its boxes, its recording and its text.
use Rattle.std.specs.Prelude.{◌≡◌, ℕ, List, ◌++◌, map, Option}
use Rattle.std.specs.List.{AllByRecursion}
use Rattle.osc_method.specs.Heard.{Fixed}
use Rattle.osc_model.specs.Limits.{Limits}
use Rattle.osc_model.specs.State.{opening}
use Rattle.osc_model.specs.Events.{Entry}
use Rattle.osc_model.specs.Recordings.{record_text}
use Rattle.osc_model.specs.History.{Legal, HasHeard, invocations}
use Rattle.osc_laws.specs.Laws.{KeepsTheLaws}
use Rattle.osc_life.specs.Lives.{added_ids}
use Rattle.osc_lanes.specs.Shares.{known_of}
use Rattle.osc_replay.specs.Printed.{printed}
use Rattle.osc_ends.specs.Sinks.{SinkChange, Gains}

module _ {M : Type 0} (keep : M → Fixed) (heard : M → Option (List ℕ)) where
  -- A history of a server with these limits is legal and keeps the four laws. These boxes are those
  -- of the methods that it adds, by their ids, ascending, and they have heard all of it.
  pub record IsOneHistory (caps : Limits) (history : List Entry) (boxes : List (ℕ × M))
      : Type 0 where
    pub legal : Legal caps history
    pub laws : KeepsTheLaws caps history
    pub ids : map (λ one. one.0) boxes ≡ added_ids history
    pub have_heard : AllByRecursion
        (λ one. HasHeard (invocations (opening caps) history) (known_of keep heard one.0 one.1))
        boxes

  -- the same, and what was recorded is this history, whose printed text begins what was printed
  pub record RecordsHistory (caps : Limits) (boxes : List (ℕ × M)) (rec out : SinkChange)
      : Type 0 where
    pub history : List Entry
    pub rest : List ℕ
    pub one : IsOneHistory caps history boxes
    pub recorded : Gains rec (record_text caps history)
    pub text : Gains out (printed caps history ++ rest)
