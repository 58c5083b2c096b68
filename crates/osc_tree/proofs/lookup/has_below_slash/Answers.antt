use Rattle.std.proofs.Common.{◌≡◌, false, length, nat_lt, sym, ap, ◌∙◌, arith}
use Rattle.std.proofs.lemmas.Bool.Decides.{nat_tests}
use Rattle.osc_pattern.specs.Addresses.{is_proper_prefix}
use Rattle.osc_tree.proofs.Lookups.{below_there, none_below}
use Rattle.osc_tree.proofs.lookup.has_below_slash.Goals as goal

pub returns-then-at-places : goal.returns-then-at-places
returns-then-at-places c =
    c.is_above.ensures
    ∙ ap (is_proper_prefix c.args.address.now) c.bytes.ensures.value
    ∙ below_there c.args.methods.now c.args.places.now c.count_before_both-at.result c.args.address.now c.index-methods-places.result c.requires
    c.count_before_both-at.ensures.searched c.if-at-places.true

pub returns-else-at-places : goal.returns-else-at-places
returns-else-at-places c =
    let past = c.if-at-places.false in
    let test : nat_lt c.count_before_both-at.result (length c.args.places.now) ≡ false = grind (arith, nat_tests) in
    test
    ∙ sym (none_below c.args.methods.now c.args.places.now c.count_before_both-at.result c.args.address.now c.requires
    c.count_before_both-at.ensures.searched past)
