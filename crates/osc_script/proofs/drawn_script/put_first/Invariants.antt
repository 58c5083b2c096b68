use Rattle.std.proofs.Common.{◌≡◌, ◌++◌, ◌-◌}
use Rattle.osc_script.specs.Written.{written}
use Rattle.osc_script.specs.Generated.{first_acts}
use Rattle.osc_script.proofs.drawn_script.put_first.Given as goal

abbrev pub invariant-loop-k : goal.invariant-loop-k
invariant-loop-k l = l.script.items ++ written (first_acts (l.lines - l.k) l.k) ≡ l.fn.script.items ++ written (first_acts l.lines 0)
