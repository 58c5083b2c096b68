use Rattle.std.proofs.Common.{◌≡◌, ◌++◌, map, drop}
use Rattle.osc_script.specs.Written.{written}
use Rattle.osc_score.proofs.Acts.{adds}
use Rattle.osc_alike.specs.Alike.{address_of}
use Rattle.osc_carry.proofs.script.put_adds.Given as goal

abbrev pub invariant-loop-method : goal.invariant-loop-method
invariant-loop-method l =
    l.script.items ++ written (adds (map address_of (drop l.method-index l.methods))) ≡ l.fn.script.items ++ written (adds (map address_of l.methods))
