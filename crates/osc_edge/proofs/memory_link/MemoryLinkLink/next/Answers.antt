use Rattle.std.proofs.Common.{arith, ap, sym, subst, length, All}
use Rattle.osc_edge.specs.Link.{IsShortTurn}
use Rattle.osc_edge.proofs.Turns.{short_at}
use Rattle.osc_edge.proofs.memory_link.MemoryLinkLink.next.Goals as goal

-- src/memory_link.rt:74:42
pub put_front-requires : goal.put_front-requires
put_front-requires c =
    let short = short_at c.deref.result.now c.args.self.now.at c.in-Some.turn.now c.in-Some-turn.bytes
    (subst (All IsShortTurn) (sym c.deref.ensures.value) c.args.self.now.short) c.in-Some.ensures.lookup.0
    c.in-Some.ensures.lookup.1 c.in-Some-turn.is
    in omega (arith, ap length c.as_slice.ensures, c.requires, short)
