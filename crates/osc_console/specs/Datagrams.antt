-- The lines of a datagram, and what a link that is shown has kept.
use Rattle.std.specs.Prelude.{◌≡◌, ℕ, List, [], ◌∷◌, ◌++◌, Option}
use Rattle.std.specs.Prelude.{MatchOption}
use Rattle.osc_atoms.specs.declared.limits.TheConstants.{MAX_PACKET}
use Rattle.osc_packet.specs.Reading.{packet_fault, units_read}
use Rattle.osc_packet.specs.Units.{TimedUnit}
use Rattle.osc_live.specs.declared.submission.Submission.{Submission}
use Rattle.osc_model.specs.declared.late.Late.{Late}
use Rattle.osc_shown.specs.declared.arrival.Arrival.{Arrival}
use Rattle.osc_shown.specs.declared.look.Look.{Look}
use Rattle.osc_shown.specs.declared.route.Route.{Route}
use Rattle.osc_shown.specs.Lines.{AddsUnit}
use Rattle.osc_shown.specs.Refusals.{refusal_text}
use Rattle.osc_console.specs.Answers.{answer_of}

module _ (look : Look) (late : Late) (routes : List Route) (arrival : Arrival) where
  -- the lines of units, one after another, by what happened to each
  abbrev pub AddsUnits : Submission → List TimedUnit → List ℕ → List ℕ → Type 0
  AddsUnits submission [] before after = after ≡ before
  AddsUnits submission (unit ∷ units) before after =
      (mid : List ℕ)
      × AddsUnit look arrival (answer_of late submission unit.tag) routes unit before mid
      × AddsUnits submission units mid after

  -- The lines of a datagram to which this was answered: those of its units, or that of its fault.
  -- Where nothing was answered to a packet there is none.
  abbrev pub AddsDatagram : List ℕ → Option Submission → List ℕ → List ℕ → Type 0
  AddsDatagram datagram submission before after =
      MatchOption (packet_fault MAX_PACKET datagram)
      (MatchOption submission (after ≡ before)
      (λ given. AddsUnits given (units_read datagram) before after))
      (λ fault. after ≡ before ++ refusal_text look arrival datagram fault)
