use Rattle.std.proofs.Common.{[], Result, Ok, Err, IfOk, ap, ◌∙◌}
use Rattle.osc_turn.specs.Rule.{reopening}
use Rattle.osc_turn.proofs.Histories.{none_long}
use Rattle.osc_turn.proofs.turn.Turn.open.Goals as goal

if_ok : {A E : Type 0} (P Q : A → Type 0) (r : Result A E) → ((a : A) → P a → Q a) → IfOk r P → IfOk r Q
if_ok P Q (Ok a) f p = f a p
if_ok P Q (Err e) f p = tt

pub returns-clause-first : goal.returns-clause-first
returns-clause-first g c = if_ok _ _ c.reopen.result
    (λ t p. p ∙ ap (reopening (g.S.Kept.kind c.args.state))
    (none_long (g.S.Kept.history c.args.state) (g.met.S.Kept.one_length c.args.state _ [] c.reopen.ensures.stands c.requires.empty))) c.reopen.ensures.first

pub returns-clause-empty : goal.returns-clause-empty
returns-clause-empty g c = if_ok _ _ c.reopen.result
    (λ t p. ap g.S.Kept.history p
    ∙ none_long (g.S.Kept.history c.args.state) (g.met.S.Kept.one_length c.args.state _ [] c.reopen.ensures.stands c.requires.empty)) c.reopen.ensures.opened
