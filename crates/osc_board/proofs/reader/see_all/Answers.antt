use Rattle.osc_board.proofs.Onward.{one_more}
use Rattle.osc_board.proofs.reader.see_all.Goals as goal

pub loop-stop-preserved : goal.loop-stop-preserved
loop-stop-preserved c =
    let (placed, reads, follows) = c.in_default.ensures in
    one_more c.args.sight.now c.args.unread.now c.loop-stop.sight c.loop-stop.unread placed c.see_next.new.sight c.see_next.new.unread c.loop-stop.invariant reads
    follows
