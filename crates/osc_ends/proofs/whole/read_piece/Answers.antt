use Rattle.std.proofs.Common.{sym, subst, arith, ap, length, take, length-append, length-take}
use Rattle.osc_ends.specs.Whole.{ReadSoFar}
use Rattle.osc_ends.proofs.Transfers.{read_more}
use Rattle.osc_ends.proofs.whole.read_piece.Goals as goal

pub returns-in-Ok : goal.returns-in-Ok
returns-in-Ok g c = λ most room.
    let items = c.in-Ok.ensures.items in
    let old = c.args.bytes.now.items in
    let count = c.in-Bytes.count in
    let size = ap length items in (
      omega (arith, size, length-append old (take count c.read.new.into), length-take count c.read.new.into, c.in-Bytes.ensures.within),
      omega (arith, size, length-append old (take count c.read.new.into), length-take count c.read.new.into, c.in-Bytes.ensures.within, c.read.auto.into, room),
      c.in-Bytes.ensures.cause,
      λ start so. subst (λ l. ReadSoFar start (g.S.Source.left c.read.new.self) l) (sym items)
          (read_more start (g.S.Source.left c.args.input.now)
          (g.S.Source.left c.read.new.self) old c.read.new.into count so c.in-Bytes.ensures.bytes c.in-Bytes.ensures.within),
    )
