use Rattle.std.proofs.Common.{ℕ, List, length, sym, ap, subst, ◌∙◌}
use Rattle.osc_pool.specs.Holding.{IsLive, held_by}
use Rattle.osc_pool.proofs.Reached.{reached_text, reached_whole}
use Rattle.osc_pool.proofs.Stored.{live_reached, live_text}
use Rattle.osc_pool.proofs.pool.Pool.read.Goals as goal

pub read-requires-clause-path : goal.read-requires-clause-path
read-requires-clause-path c =
    rw (c.deref-2.ensures.value, c.deref.ensures.value, c.requires.room)
    (live_reached c.self.invariant.sound c.args.chain.now (length c.self.inside.blocks.items)
    (subst (λ (l : List (List ℕ)). IsLive c.args.chain.now l) (sym c.self.view_is) c.requires.live) c.self.invariant.reached)

pub read-requires-clause-whole : goal.read-requires-clause-whole
read-requires-clause-whole c =
    rw c.deref.ensures.value
    (reached_whole (length c.self.inside.next.items) c.self.inside.blocks.items c.self.invariant.few c.self.invariant.sound.whole)

pub returns : goal.returns
returns c =
    let live = subst (λ (l : List (List ℕ)). IsLive c.args.chain.now l) (sym c.self.view_is) c.requires.live in
    let path = live_reached c.self.invariant.sound c.args.chain.now (length c.self.inside.blocks.items) live c.self.invariant.reached in
    c.read.ensures
    ∙ rw (c.deref-2.ensures.value, c.deref.ensures.value, c.requires.room)
    (reached_text (length c.self.inside.next.items) c.self.inside.blocks.items c.self.inside.next.items c.args.chain.now.first c.args.chain.now.len path
    ∙ live_text c.self.invariant.sound c.args.chain.now live)
    ∙ ap (held_by c.args.chain.now) c.self.view_is
