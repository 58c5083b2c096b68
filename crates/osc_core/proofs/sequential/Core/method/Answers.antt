use Rattle.std.proofs.Common.{◌↔◌, ℕ, List, Contains, IsSome, subst}
use Rattle.osc_core.proofs.sequential.Core.method.Goals as goal

pub returns-clause-there : goal.returns-clause-there
returns-clause-there g c =
    let there = rw c.deref.ensures.value at c.box_of.ensures.there in
    subst (λ (l : List ℕ). IsSome c.box_of.result ↔ Contains l c.args.id) c.args.self.now.alike there
