use Rattle.std.proofs.Common.{refl, ◌+◌, ◌∙◌, arith}
use Rattle.osc_links.specs.declared.link_work.Over.TheVariants.{Count, Idle}
use Rattle.osc_life.specs.Holders.{seen_by, holder_of}
use Rattle.osc_links.proofs.Turning.{turns_over, came_sent, came_quiet, came_end, came_failed, came_full}
use Rattle.osc_links.proofs.link_worker.take_turns.Goals as goal

pub returns-then-taken-bounds-clause-taken : goal.returns-then-taken-bounds-clause-taken
returns-then-taken-bounds-clause-taken g c =
    let inv = c.loop.invariant in
    turns_over g.M.Method.keep g.M.Method.heard (holder_of c.args.live.now.caps c.args.opened.caller) c.args.bounds c.args.opened.faults.items
    (g.L.Link.left c.args.opened.from) (seen_by c.args.opened.caller) (c.loop.taken + 1) 0 c.in_ok-next.next.faults.items
    (g.L.Link.left c.in_ok-next.next.from) (seen_by c.in_ok-next.next.caller) Count
    (came_sent g.M.Method.keep g.M.Method.heard (holder_of c.args.live.now.caps c.args.opened.caller) c.args.bounds c.args.opened.faults.items
    (g.L.Link.left c.args.opened.from) (seen_by c.args.opened.caller) _ inv.holder c.loop.taken c.loop.quiets c.loop.opened.faults.items c.in_ok-next.next.faults.items
    (g.L.Link.left c.loop.opened.from) (g.L.Link.left c.in_ok-next.next.from) (g.L.Link.faults c.loop.opened.from) (g.L.Link.faults c.in_ok-next.next.from) c.in_ok-next.step
    (seen_by c.loop.opened.caller) (seen_by c.in_ok-next.next.caller) inv.goes inv.within c.in_ok-next.ensures.takes c.in-Sent.is).0 c.if-taken-bounds.true refl

pub returns-then-quiets-bounds-clause-taken : goal.returns-then-quiets-bounds-clause-taken
returns-then-quiets-bounds-clause-taken g c =
    let inv = c.loop.invariant in
    turns_over g.M.Method.keep g.M.Method.heard (holder_of c.args.live.now.caps c.args.opened.caller) c.args.bounds c.args.opened.faults.items
    (g.L.Link.left c.args.opened.from) (seen_by c.args.opened.caller) c.loop.taken (c.loop.quiets + 1) c.in_ok-next.next.faults.items
    (g.L.Link.left c.in_ok-next.next.from) (seen_by c.in_ok-next.next.caller) Idle
    (came_quiet g.M.Method.keep g.M.Method.heard (holder_of c.args.live.now.caps c.args.opened.caller) c.args.bounds c.args.opened.faults.items
    (g.L.Link.left c.args.opened.from) (seen_by c.args.opened.caller) _ inv.holder c.loop.taken c.loop.quiets c.loop.opened.faults.items c.in_ok-next.next.faults.items
    (g.L.Link.left c.loop.opened.from) (g.L.Link.left c.in_ok-next.next.from) (g.L.Link.faults c.loop.opened.from) (g.L.Link.faults c.in_ok-next.next.from) c.in_ok-next.step
    (seen_by c.loop.opened.caller) (seen_by c.in_ok-next.next.caller) inv.goes inv.within c.in_ok-next.ensures.takes c.in-Quiet.is).0 c.if-quiets-bounds.true refl

pub loop-preserved-else-taken-bounds : goal.loop-preserved-else-taken-bounds
loop-preserved-else-taken-bounds g c =
    let inv = c.loop.invariant in
    let came = came_sent g.M.Method.keep g.M.Method.heard (holder_of c.args.live.now.caps c.args.opened.caller) c.args.bounds c.args.opened.faults.items
    (g.L.Link.left c.args.opened.from) (seen_by c.args.opened.caller) _ inv.holder c.loop.taken c.loop.quiets c.loop.opened.faults.items c.in_ok-next.next.faults.items
    (g.L.Link.left c.loop.opened.from) (g.L.Link.left c.in_ok-next.next.from) (g.L.Link.faults c.loop.opened.from) (g.L.Link.faults c.in_ok-next.next.from) c.in_ok-next.step
    (seen_by c.loop.opened.caller) (seen_by c.in_ok-next.next.caller) inv.goes inv.within c.in_ok-next.ensures.takes c.in-Sent.is in
    record {
      ours = c.in_ok-next.ensures.ours;
      holder = c.in_ok-next.ensures.holder ∙ inv.holder;
      made = c.in_ok-next.ensures.made ∙ inv.made;
      space = c.in_ok-next.ensures.space ∙ inv.space;
      within = (omega (arith, inv.within.0, c.if-taken-bounds.false), c.requires.idle);
      count = came.1 ∙ inv.count;
      goes = came.0;
    }

pub loop-preserved : goal.loop-preserved
loop-preserved g c =
    let inv = c.loop.invariant in
    let came = came_quiet g.M.Method.keep g.M.Method.heard (holder_of c.args.live.now.caps c.args.opened.caller) c.args.bounds c.args.opened.faults.items
    (g.L.Link.left c.args.opened.from) (seen_by c.args.opened.caller) _ inv.holder c.loop.taken c.loop.quiets c.loop.opened.faults.items c.in_ok-next.next.faults.items
    (g.L.Link.left c.loop.opened.from) (g.L.Link.left c.in_ok-next.next.from) (g.L.Link.faults c.loop.opened.from) (g.L.Link.faults c.in_ok-next.next.from) c.in_ok-next.step
    (seen_by c.loop.opened.caller) (seen_by c.in_ok-next.next.caller) inv.goes inv.within c.in_ok-next.ensures.takes c.in-Quiet.is in
    record {
      ours = c.in_ok-next.ensures.ours;
      holder = c.in_ok-next.ensures.holder ∙ inv.holder;
      made = c.in_ok-next.ensures.made ∙ inv.made;
      space = c.in_ok-next.ensures.space ∙ inv.space;
      within = (inv.within.0, omega (arith, inv.within.1, c.if-quiets-bounds.false));
      count = came.1 ∙ inv.count;
      goes = came.0;
    }

pub returns-in-End-clause-taken : goal.returns-in-End-clause-taken
returns-in-End-clause-taken g c =
    let inv = c.loop.invariant in
    came_end g.M.Method.keep g.M.Method.heard (holder_of c.args.live.now.caps c.args.opened.caller) c.args.bounds c.args.opened.faults.items
    (g.L.Link.left c.args.opened.from) (seen_by c.args.opened.caller) _ inv.holder c.loop.taken c.loop.quiets c.loop.opened.faults.items c.in_ok-next.next.faults.items
    (g.L.Link.left c.loop.opened.from) (g.L.Link.left c.in_ok-next.next.from) (g.L.Link.faults c.loop.opened.from) (g.L.Link.faults c.in_ok-next.next.from) c.in_ok-next.step
    (seen_by c.loop.opened.caller) (seen_by c.in_ok-next.next.caller) inv.goes inv.within c.in_ok-next.ensures.takes c.in-End.is

pub returns-in-Failed-clause-taken : goal.returns-in-Failed-clause-taken
returns-in-Failed-clause-taken g c =
    let inv = c.loop.invariant in
    came_failed g.M.Method.keep g.M.Method.heard (holder_of c.args.live.now.caps c.args.opened.caller) c.args.bounds c.args.opened.faults.items
    (g.L.Link.left c.args.opened.from) (seen_by c.args.opened.caller) _ inv.holder c.loop.taken c.loop.quiets c.loop.opened.faults.items c.in_ok-next.next.faults.items
    (g.L.Link.left c.loop.opened.from) (g.L.Link.left c.in_ok-next.next.from) (g.L.Link.faults c.loop.opened.from) (g.L.Link.faults c.in_ok-next.next.from) c.in_ok-next.step
    (seen_by c.loop.opened.caller) (seen_by c.in_ok-next.next.caller) inv.goes inv.within c.in_ok-next.ensures.takes c.in-Failed.is

pub returns-in-Full-clause-taken : goal.returns-in-Full-clause-taken
returns-in-Full-clause-taken g c =
    let inv = c.loop.invariant in
    came_full g.M.Method.keep g.M.Method.heard (holder_of c.args.live.now.caps c.args.opened.caller) c.args.bounds c.args.opened.faults.items
    (g.L.Link.left c.args.opened.from) (seen_by c.args.opened.caller) _ inv.holder c.loop.taken c.loop.quiets c.loop.opened.faults.items c.in_ok-next.next.faults.items
    (g.L.Link.left c.loop.opened.from) (g.L.Link.left c.in_ok-next.next.from) (g.L.Link.faults c.loop.opened.from) (g.L.Link.faults c.in_ok-next.next.from) c.in_ok-next.step
    (seen_by c.loop.opened.caller) (seen_by c.in_ok-next.next.caller) inv.goes inv.within c.in_ok-next.ensures.takes c.in-Full.room c.in-Full.is
