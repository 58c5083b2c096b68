use Rattle.std.proofs.Common.{◌≡◌, ◌≤◌, ◌+◌, ◌++◌, true, not, nat_eq, nat_lt, length, take, ap, sym, ◌∙◌, arith, rules}
use Rattle.std.specs.List.{starts_with}
use Rattle.std.proofs.lemmas.Bool.Decides.{nat_tests}
use Rattle.osc_pattern.specs.Methods.{Method}
use Rattle.osc_tree.specs.Views.{method_at}
use Rattle.osc_tree.proofs.Places.{method_at-get}
use Rattle.osc_tree.proofs.Ranges.{lower}
use Rattle.osc_tree.proofs.Compared.{alike_here, ended_here, none_here}
use Rattle.osc_tree.proofs.Narrowed.{starts_further, starts_lower}
use Rattle.osc_tree.proofs.search.compare.Goals as goal

pub loop-at-init : goal.loop-at-init
loop-at-init c =
    let address = c.bytes-address.result.now in
    let text = c.args.text.now in
    let own : address ≡ (method_at c.args.methods.now c.args.place).address =
    c.bytes-address.ensures.value
    ∙ ap (λ (m : Method). m.address) (sym (method_at-get c.args.methods.now c.args.place c.index-methods-place.result c.requires.place)) in
    let behind = starts_lower address text c.args.tail.now c.args.known c.requires.bound
    (ap (λ l. starts_with nat_eq l (take c.args.known text)) own ∙ c.requires.known) in
    record { before = ap (λ l. lower l (text ++ c.args.tail.now)) (sym own) ∙ behind.1; begun = c.requires.known }

pub loop-at-preserved : goal.loop-at-preserved
loop-at-preserved c =
    let address = c.bytes-address.result.now in
    let text = c.args.text.now in
    let at = c.loop-at.at in
    let own : address ≡ (method_at c.args.methods.now c.args.place).address =
    c.bytes-address.ensures.value
    ∙ ap (λ (m : Method). m.address) (sym (method_at-get c.args.methods.now c.args.place c.index-methods-place.result c.requires.place)) in
    let more = starts_further address text at (omega arith) (omega arith) c.if-address-at.false
    (ap (λ l. starts_with nat_eq l (take at text)) own ∙ c.loop-at.invariant.begun) in
    record {
      before = c.loop-at.invariant.before ∙ alike_here address text c.args.tail.now at (omega arith) (omega arith) c.if-address-at.false;
      begun = ap (λ l. starts_with nat_eq l (take (at + 1) text)) (sym own) ∙ more;
    }

pub returns-then-end-text-clause-before : goal.returns-then-end-text-clause-before
returns-then-end-text-clause-before c =
    let less = c.if-end-text.true in
    let address = c.bytes-address.result.now in
    let text = c.args.text.now in
    let own : address ≡ (method_at c.args.methods.now c.args.place).address =
    c.bytes-address.ensures.value
    ∙ ap (λ (m : Method). m.address) (sym (method_at-get c.args.methods.now c.args.place c.index-methods-place.result c.requires.place)) in
    let within : c.args.known ≤ length address = (starts_lower address text c.args.tail.now c.args.known c.requires.bound
    (ap (λ l. starts_with nat_eq l (take c.args.known text)) own ∙ c.requires.known)).0 in
    let before : nat_lt c.min-end.result (length c.args.text.now) ≡ true = grind (arith, nat_tests) in
    before ∙ sym (c.loop-at.invariant.before
    ∙ ended_here c.bytes-address.result.now c.args.text.now c.args.tail.now c.loop-at.at (omega arith) (omega arith))

pub returns-else-not-is_empty-clause-before : goal.returns-else-not-is_empty-clause-before
returns-else-not-is_empty-clause-before c =
    let none : length c.args.tail.now ≡ 0 = search rules in
    ap not c.if-not-is_empty.false
    ∙ sym (c.loop-at.invariant.before ∙ none_here c.bytes-address.result.now c.args.text.now c.args.tail.now c.loop-at.at (omega arith) none)
