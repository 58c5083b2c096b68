use Rattle.std.proofs.Common.{◌≡◌, ◌↔◌, ap, sym, subst, ◌∙◌, Bool, true, false, not, IsTrue, Option, Some, None, is_some}
use Rattle.std.specs.Prelude.{is_none}
use Rattle.osc_pattern.specs.Addresses.{IsAddress, is_address}
use Rattle.osc_pattern.proofs.AddressLaws.{is_address-exact}
use Rattle.osc_pattern.proofs.address.Address.is_lawful.Goals as goal

none_is : {X : Type 0} (o : Option X) (b : Bool) → not b ≡ is_some o → is_none o ≡ b
none_is None true e = cc
none_is None false e = absurd (cc)
none_is (Some x) true e = absurd (cc)
none_is (Some x) false e = cc

pub returns-clause-exact : goal.returns-clause-exact
returns-clause-exact c =
    let same : is_address c.args.bytes.now ≡ c.is_none.result = ap is_none (sym c.first_fault.ensures)
    ∙ none_is c.first_fault.result c.is_none.result (sym c.is_none.ensures) in
    subst (λ (b : Bool). IsTrue b ↔ IsAddress c.args.bytes.now) same (is_address-exact c.args.bytes.now)
