use Rattle.std.proofs.Common.{◌==◌, sym, subst}
use Rattle.osc_pattern.proofs.Cutting.{FirstPart, cut_at-part}
use Rattle.osc_pattern.proofs.cut.first_piece.Goals as goal

pub returns-in-Some-clause-pieces : goal.returns-in-Some-clause-pieces
returns-in-Some-clause-pieces c =
    (subst (FirstPart (λ byte. byte == c.args.mark) c.args.bytes.now) (sym c.in-Some.ensures.cut)
    (cut_at-part (λ byte. byte == c.args.mark) c.args.bytes.now)).0

pub returns-in-None-clause-pieces : goal.returns-in-None-clause-pieces
returns-in-None-clause-pieces c =
    subst (FirstPart (λ byte. byte == c.args.mark) c.args.bytes.now) (sym c.in-None.ensures.cut) (cut_at-part (λ byte. byte == c.args.mark) c.args.bytes.now)
