use Rattle.std.proofs.Common.{◌≡◌, ◌-◌}
use Rattle.osc_uses.specs.declared.light.TheConstants.{RELEASES}
use Rattle.osc_uses.specs.Played.{played}
use Rattle.osc_uses.specs.Light.{releases}
use Rattle.osc_uses.proofs.light.release_due.Given as goal

-- what the releases that are left do is what all of them do
abbrev pub invariant-loop : goal.invariant-loop
invariant-loop l = played l.core.performance (releases (RELEASES - l.counter)) ≡ played l.initial.core.performance (releases RELEASES)
