use Rattle.std.proofs.Common.{◌≡◌, ◌<◌, length, nat_lt, true, ap, sym, ◌∙◌, arith}
use Rattle.std.proofs.lemmas.Bool.Decides.{nat_tests}
use Rattle.osc_pattern.specs.Addresses.{is_proper_prefix}
use Rattle.osc_tree.proofs.Lookups.{none_at_place}
use Rattle.osc_tree.proofs.lookup.lies_below.Goals as goal

pub returns-then-at-places : goal.returns-then-at-places
returns-then-at-places c above =
    none_at_place c.args.methods.now c.args.places.now c.args.at c.args.address.now c.index-methods-places.result c.requires.list c.requires.order
    c.if-at-places.true
    (ap (is_proper_prefix c.args.address.now) (sym c.bytes.ensures.value) ∙ sym c.is_above.ensures ∙ above)

pub returns-else-at-places : goal.returns-else-at-places
returns-else-at-places c there =
    let past = c.if-at-places.false in
    let test : nat_lt c.args.at (length c.args.places.now) ≡ true = there in
    let within : c.args.at < length c.args.places.now = grind (arith, nat_tests) in absurd (omega arith)
