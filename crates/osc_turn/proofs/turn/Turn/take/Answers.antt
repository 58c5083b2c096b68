use Rattle.std.proofs.Common.{rules}
use Rattle.osc_turn.proofs.Keeps.{takes_turn}
use Rattle.osc_turn.proofs.turn.Turn.take.Goals as goal

pub compare_exchange-requires : goal.compare_exchange-requires
compare_exchange-requires g c =
    (search rules, search rules, takes_turn g.S.Kept.stands g.S.Kept.kind _ _ _ _ c.args.word c.requires.rests c.requires.ours.1 c.requires.free)
