use Rattle.std.proofs.Common.{◌≡◌, ◌++◌, length}
use Rattle.osc_script.specs.Written.{written}
use Rattle.osc_story.specs.Standings.{queue_of}
use Rattle.osc_carry.specs.Carried.{queue_acts}
use Rattle.osc_carry.specs.Waiting.{HaveShort}
use Rattle.osc_carry.proofs.script.put_units.Given as goal

abbrev pub invariant-loop-rest : goal.invariant-loop-rest
invariant-loop-rest l = record {
  short : HaveShort (queue_of l.rest);
  said : l.script.items ++ written (queue_acts l.now l.clock (queue_of l.rest))
      ≡ l.fn.script.items ++ written (queue_acts 1 l.clock (queue_of l.units));
}

abbrev pub decreases-loop-rest : goal.decreases-loop-rest
decreases-loop-rest l = length l.rest
