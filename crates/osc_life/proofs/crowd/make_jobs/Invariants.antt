use Rattle.std.proofs.Common.{◌≡◌, ◌++◌, map}
use Rattle.std.specs.Vec.Iter.{into_iter_items}
use Rattle.osc_life.specs.Works.{caller_of, work_of}
use Rattle.osc_life.proofs.crowd.make_jobs.Given as goal

abbrev pub invariant-loop-work : goal.invariant-loop-work
invariant-loop-work g l = record {
  callers : map caller_of l.jobs.items ++ into_iter_items l.callers ≡ l.fn.callers.items;
  works : map work_of l.jobs.items ++ into_iter_items l.work-iterator ≡ l.fn.works.items;
}
