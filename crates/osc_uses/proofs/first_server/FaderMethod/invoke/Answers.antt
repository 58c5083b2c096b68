use Rattle.std.proofs.Common.{ℕ, ◌≤◌, cond, Some, List, [], length, sym, ap, subst, ◌∙◌}
use Rattle.osc_atoms.specs.Atoms.{word, tag}
use Rattle.osc_method.specs.Heard.{last_of}
use Rattle.osc_uses.proofs.LastBytes.{last_of_call}
use Rattle.osc_uses.proofs.first_server.FaderMethod.invoke.Goals as goal

pub returns-in-Some-clause-heard : goal.returns-in-Some-clause-heard
returns-in-Some-clause-heard c =
    let call = c.args.call.now in
    let last = c.in-Some.ensures.cases in
    let enough = subst (λ (b : List ℕ). 4 ≤ length b) c.bytes.ensures.value last.0 in
    ap (λ (b : List ℕ). Some b) (last.1.same ∙ ap (last_of 4) c.bytes.ensures.value
    ∙ sym (last_of_call (cond c.args.self.now.sent c.args.self.now.last []) (tag call.unit) (word call.index) (word (length call.message)) call.message enough))
