use Rattle.std.proofs.Common.{ap, arith}
use Rattle.osc_queue.proofs.Heads.{order_long}
use Rattle.osc_queue.proofs.queue.Queue.free.Goals as goal

pub returns : goal.returns
returns g c =
    let long = order_long c.args.self.now.items c.self.inside.entries.items (ap (λ queue. queue.items) c.self.view_is) in
    omega (arith, long, ap (λ queue. queue.limit) c.self.view_is, c.self.invariant.within, c.len.ensures, c.self.inside.entries.ok.0)
