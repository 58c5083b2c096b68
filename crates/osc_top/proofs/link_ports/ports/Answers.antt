use Rattle.std.proofs.Common.{◌≡◌, ℕ, ◌+◌, ◌≤◌, List, length, Option, IfOk, IfSome, Result, Ok, Err, ap, subst, arith}
use Rattle.std.proofs.lemmas.List.FromFn.{length-map-range_with_len}
use Rattle.osc_words.specs.declared.command.LiveCommand.{LiveCommand}
use Rattle.osc_words.specs.Ranges.{IsLawfulLive}
use Rattle.osc_top.proofs.link_ports.ports.Goals as goal

few_made : {X E : Type 0} (items : X → List ℕ) (ports : List ℕ) (made : Result X E) → IfOk made (λ x. items x ≡ ports) → length ports ≤ 16
    → IfOk made (λ x. length (items x) ≤ 16)
few_made items ports (Ok x) is few = omega (arith, ap (λ (l : List ℕ). length l) is, few)
few_made items ports (Err error) is few = tt

pub returns-in-Some-Serve-clause-few : goal.returns-in-Some-Serve-clause-few
returns-in-Some-Serve-clause-few c =
    let said = subst (λ (said : Option LiveCommand). IfSome said IsLawfulLive) c.in-Some-Serve.is c.in_ok-port.ensures.lawful in
    let lawful = subst IsLawfulLive c.in-Some-Serve.field-0-is said in
    few_made _ _ c.ports_from.result c.ports_from.ensures
    (omega (arith, length-map-range_with_len (λ (link : ℕ). c.in-Some-Serve.port + link) 0 c.in-Some-Serve.links, lawful.link_count.1))
