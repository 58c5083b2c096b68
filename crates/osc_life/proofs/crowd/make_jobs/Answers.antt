use Rattle.std.proofs.Common.{length, map, ap, arith, length-append}
use Rattle.std.specs.Vec.Iter.{into_iter_items}
use Rattle.std.proofs.lemmas.List.{length-map}
use Rattle.osc_life.specs.Works.{caller_of, work_of}
use Rattle.osc_life.proofs.crowd.make_jobs.Goals as goal

-- there are as many callers left as works
pub unreachable-requires : goal.unreachable-requires
unreachable-requires g c =
    let inv = c.loop-work.invariant in
    let jobs = c.loop-work.jobs.items in
    let callers = into_iter_items c.loop-work.callers in
    let works = into_iter_items c.loop-work.work-iterator in
    let none = rw c.in_default.is at c.next-in-loop-work.ensures.items in
    let left = rw c.in_default.is at c.next-in-loop-work.ensures.cases in
    absurd (omega (
      arith,
      c.requires,
      left,
      ap length inv.callers,
      length-append (map caller_of jobs) callers,
      length-map jobs caller_of,
      ap length inv.works,
      length-append (map work_of jobs) works,
      length-map jobs work_of,
      ap length c.in-Some.ensures.steps.0,
    ))
