use Rattle.osc_core.proofs.sequential.Core.close.Goals as goal

pub returns-clause-laws : goal.returns-clause-laws
returns-clause-laws g c =
    c.every_history_keeps_the_laws.ensures c.args.self.performance.caps c.args.self.performance.history c.close.ensures.legal
