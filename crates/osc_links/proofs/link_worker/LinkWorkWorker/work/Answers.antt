use Rattle.osc_life.specs.Holders.{seen_by, holder_of}
use Rattle.osc_links.proofs.Turning.{link_tells}
use Rattle.osc_links.proofs.link_worker.LinkWorkWorker.work.Goals as goal

pub returns-clause-done : goal.returns-clause-done
returns-clause-done g c =
    let taken = c.in_ok-last.ensures.taken in
    record {
      holder = c.in_ok-last.ensures.holder;
      made = c.in_ok-last.ensures.made;
      played = record {
        turns = taken.turns;
        plays = link_tells g.M.Method.keep g.M.Method.heard (holder_of c.args.desk.now.live.now.caps c.args.caller) c.args.self.bounds c.new.result.items
            c.in_ok-last.last.faults.items (g.L.Link.left c.args.self.from) (g.L.Link.left c.in_ok-last.last.from) c.in_ok-last.over
            (seen_by c.args.caller) (seen_by c.in_ok-last.last.caller) c.new.ensures.items taken;
        taken = taken.taken;
        cause = c.in_ok-last.ensures.cause;
      };
    }
