use Rattle.std.proofs.Common.{◌≡◌, []}
use Rattle.osc_turn.specs.Rule.{number_of}
use Rattle.osc_turn.specs.Passes.{view, IsPassOf}
use Rattle.osc_tests_bytes.proofs.turn.there_is_an_end_to_guests.Given as goal

abbrev pub invariant-loop : goal.invariant-loop
invariant-loop g l = IsPassOf l.turn l.pass × (number_of (view l.pass) ≡ 0) × ((view l.pass).kind ≡ [])
