use Rattle.std.proofs.Common.{◌≡◌, ◌++◌, ◌-◌, ◌≤◌, ◌+◌, ◌*◌}
use Rattle.osc_script.specs.Written.{written}
use Rattle.osc_script.specs.Generated.{drawn_acts}
use Rattle.osc_script.proofs.drawn_script.put_drawn.Given as goal

abbrev pub invariant-loop-k : goal.invariant-loop-k
invariant-loop-k l = record {
  text : l.script.items ++ written (drawn_acts (l.lines - l._k) l.moment l.draws.number) ≡ l.fn.script.items ++ written (drawn_acts l.lines 2 l.seed);
  within : l.moment ≤ 2 + 1024 * l._k;
}
