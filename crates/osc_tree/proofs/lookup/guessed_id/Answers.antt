use Rattle.std.proofs.Common.{◌≡◌, ◌<◌, [], Some, Bool, true, false, not, length, refl, sym, ap, ◌∙◌, arith}
use Rattle.std.specs.Str.{bytes_eq}
use Rattle.std.proofs.lemmas.Bool.Decides.{nat_tests}
use Rattle.std.proofs.lemmas.List.{length-map}
use Rattle.std.proofs.lemmas.Slice.Eq.{bytes_eq-Decides}
use Rattle.osc_pattern.specs.Methods.{Method}
use Rattle.osc_tree.specs.Views.{method_of, methods_of, method_at}
use Rattle.osc_tree.proofs.Lookups.{id_found}
use Rattle.osc_tree.proofs.Places.{method_at-get}
use Rattle.osc_tree.proofs.lookup.guessed_id.Goals as goal

not_false : (t : Bool) → not t ≡ false → t ≡ true
not_false true e = refl
not_false false e = absurd (cc)

pub returns-clause-id : goal.returns-clause-id
returns-clause-id c =
    let registered = c.args.methods.now in
    let place = c.in_ok-place.field-0 in
    let found = c.in_ok-method.ensures.lookup in
    let within : place < length registered = (let h = found.0 in grind (arith, nat_tests)) in
    let here : method_at registered place ≡ method_of c.in_ok-method.method.now =
    method_at-get registered place c.in_ok-method.method.now within ∙ ap method_of (sym found.1) in
    let same : bytes_eq c.bytes.result.now c.args.address.now ≡ true =
    not_false (bytes_eq c.bytes.result.now c.args.address.now) (sym c.ne.ensures ∙ c.if-ne.false) in
    id_found (methods_of registered) place (record { id = 0; address = [] }) c.args.address.now c.requires (omega (arith, length-map registered method_of))
    (ap (λ (m : Method). m.address) here ∙ sym c.bytes.ensures.value ∙ (bytes_eq-Decides c.bytes.result.now c.args.address.now).0 same)
    ∙ ap (λ (m : Method). Some m.id) here
