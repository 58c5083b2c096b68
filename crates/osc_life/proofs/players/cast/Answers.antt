use Rattle.std.proofs.Common.{List, [], ◌∷◌, ◌++◌, length, length-append, sym, ap, ◌∙◌, arith}
use Rattle.osc_live.specs.declared.caller.Caller.{Caller}
use Rattle.osc_life.proofs.players.cast.Goals as goal

pub unreachable-requires : goal.unreachable-requires
unreachable-requires g c = absurd (omega (arith, c.in_default.ensures.cases.0, c.requires, c.args.callers.ok.0))

pub make_jobs-requires : goal.make_jobs-requires
make_jobs-requires g c =
    omega (arith, c.requires, ap length c.in-Some.ensures.items, length-append c.pop.new.self.items (c.in-Some.caller ∷ []))

pub returns-clause-callers : goal.returns-clause-callers
returns-clause-callers g c =
    c.in-Some.ensures.items ∙ ap (λ (l : List Caller). l ++ c.in-Some.caller ∷ []) (sym c.in_ok-jobs.ensures.callers)
