use Rattle.std.proofs.Common.{◌≡◌, ◌≤◌, ◌+◌, ◌-◌, length}
use Rattle.std.specs.Prelude.{option_map}
use Rattle.std.specs.Result.{result_err}
use Rattle.osc_pattern.specs.Reading.{read_part}
use Rattle.osc_pattern.proofs.check.first_open_in.Given as goal

abbrev pub invariant-loop-rest : goal.invariant-loop-rest
invariant-loop-rest l =
    (result_err (read_part l.part) ≡ option_map (λ at. (length l.part - length l.rest) + at) (result_err (read_part l.rest))) × (length l.rest ≤ length l.part)

abbrev pub decreases-loop-rest : goal.decreases-loop-rest
decreases-loop-rest l = length l.rest
