use Rattle.std.proofs.Common.{◌≡◌, ◌++◌, drop}
use Rattle.osc_script.specs.Written.{written}
use Rattle.osc_score.proofs.Acts.{adds}
use Rattle.osc_score.proofs.script.put_adds.Given as goal

abbrev pub invariant-loop-address : goal.invariant-loop-address
invariant-loop-address l = l.script.items ++ written (adds (drop l.address-index l.addresses)) ≡ l.fn.script.items ++ written (adds l.addresses)
