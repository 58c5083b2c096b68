use Rattle.std.proofs.Common.{length, ap, arith}
use Rattle.std.specs.Vec.Iter.{into_iter_items}
use Rattle.osc_links.specs.Serves.{link_in}
use Rattle.osc_links.proofs.Totals.{mapped_on, faults_on, failed_on, stop_on}
use Rattle.osc_links.proofs.link_ends.gather.Goals as goal

pub loop-end-preserved : goal.loop-end-preserved
loop-end-preserved g c =
    let inv = c.loop-end.invariant in
    let steps = c.in-Some.ensures.steps.0 in
    let end = c.in-Some.end in
    let rest = into_iter_items c.next.new.self in
    let before = into_iter_items c.loop-end.end-iterator in
    record {
      links = mapped_on link_in end rest before c.loop-end.links.items c.push.new.self.items _ c.in_ok-push.ensures.items steps inv.links;
      faults = faults_on end rest before steps c.loop-end.link c.loop-end.faults.items c.append_faults.new.all.items _ c.in_ok-append_faults.ensures
          inv.faults;
      failed = failed_on end rest before steps c.loop-end.link c.loop-end.failed c.failed_at.result c.or-failed.result _ c.or-failed.ensures
          c.failed_at.ensures inv.failed;
      stop = stop_on end rest before steps c.args.ticker_end c.loop-end.stop c.link_stop.result c.or-stop.result _ c.or-stop.ensures c.link_stop.ensures
          inv.stop;
      count = omega (arith, inv.count, ap length steps);
    }
