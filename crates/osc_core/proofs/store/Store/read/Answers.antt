use Rattle.std.proofs.Common.{sym, ap, subst, ◌∙◌, arith}
use Rattle.std.proofs.lemmas.List.{with_items_is}
use Rattle.osc_pool.specs.Holding.{held_by}
use Rattle.osc_core.specs.Frames.{messages_in, AreFramed}
use Rattle.osc_core.proofs.Stocks.{stored_framed, stored_long}
use Rattle.osc_core.proofs.store.Store.read.Goals as goal

pub fit-requires : goal.fit-requires
fit-requires c = omega (arith, c.len.ensures, stored_long c.requires.stored, c.requires.stored.small, c.requires.room)

pub returns-clause-framed : goal.returns-clause-framed
returns-clause-framed c =
    let bytes = with_items_is c.fit.new.bytes c.read.new.out (omega arith) ∙ c.read.ensures ∙ ap (held_by c.args.stored.now.chain) c.self.view_is in
    subst AreFramed (sym bytes) (stored_framed c.requires.stored)

pub returns-clause-messages : goal.returns-clause-messages
returns-clause-messages c =
    ap messages_in
    (with_items_is c.fit.new.bytes c.read.new.out (omega arith) ∙ c.read.ensures ∙ ap (held_by c.args.stored.now.chain) c.self.view_is)
