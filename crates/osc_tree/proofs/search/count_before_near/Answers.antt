use Rattle.std.proofs.Common.{◌≡◌, ◌+◌, ◌-◌, ◌++◌, true, false, length, get_or, sym, ap, subst, ◌∙◌, arith}
use Rattle.osc_tree.specs.Order.{is_before, IsSearched}
use Rattle.osc_tree.specs.Views.{method_at, methods_at}
use Rattle.osc_tree.proofs.Ranges.{searched_up, searched_down, searched_to}
use Rattle.osc_tree.proofs.InOrder.{methods_at-get, methods_at-length}
use Rattle.osc_tree.proofs.search.count_before_near.Goals as goal

pub count_before_after-requires-then-is_before_at-clause-known : goal.count_before_after-requires-then-is_before_at-clause-known
count_before_after-requires-then-is_before_at-clause-known c =
    let methods = c.args.methods.now in
    let places = c.args.places.now in
    let text = c.args.text.now ++ c.args.tail.now in
    let d = method_at methods 0 in
    let next = c.args.from + c.args.guess in
    let within = c.is_before_at.ensures.yes c.if-is_before_at.true in
    let here : is_before text (get_or (methods_at methods places) next d) ≡ true =
    ap (is_before text) (methods_at-get methods places next d within) ∙ sym (c.is_before_at.ensures.before within) ∙ c.if-is_before_at.true in
    searched_up text (methods_at methods places) c.args.from (length places) next
    d c.requires.ascending c.requires.known (omega arith) here

pub returns-then-guess-eq0-clause-searched : goal.returns-then-guess-eq0-clause-searched
returns-then-guess-eq0-clause-searched c =
    let methods = c.args.methods.now in
    let places = c.args.places.now in
    let text = c.args.text.now ++ c.args.tail.now in
    let d = method_at methods 0 in
    let next = c.args.from + c.args.guess in
    let high = searched_to text (methods_at methods places) c.args.from (length places) next
    d c.requires.ascending c.requires.known (omega arith) (omega arith)
    (λ lt. ap (is_before text) (methods_at-get methods places next d lt) ∙ sym (c.is_before_at.ensures.before lt) ∙ c.if-is_before_at.false) in
    subst (λ n. IsSearched text (methods_at methods places) n next) (omega arith) high

pub returns-then-below-clause-searched : goal.returns-then-below-clause-searched
returns-then-below-clause-searched c =
    let methods = c.args.methods.now in
    let places = c.args.places.now in
    let text = c.args.text.now ++ c.args.tail.now in
    let d = method_at methods 0 in
    let next = c.args.from + c.args.guess in
    let long = methods_at-length methods places in
    let below : is_before text (get_or (methods_at methods places) (next - 1) d) ≡ true =
    ap (is_before text) (methods_at-get methods places (next - 1) d (omega arith)) ∙ sym c.compare-below.ensures.before ∙ c.if-below.true in
    let high = searched_to text (methods_at methods places) c.args.from (length places) next
    d c.requires.ascending c.requires.known (omega arith) (omega arith)
    (λ lt. ap (is_before text) (methods_at-get methods places next d lt) ∙ sym (c.is_before_at.ensures.before lt) ∙ c.if-is_before_at.false) in
    subst (λ n. IsSearched text (methods_at methods places) n next) (omega arith)
    (searched_up text (methods_at methods places) c.args.from next (next - 1)
    d c.requires.ascending high (omega arith) below)

pub count_between-requires-clause-known : goal.count_between-requires-clause-known
count_between-requires-clause-known c =
    let methods = c.args.methods.now in
    let places = c.args.places.now in
    let text = c.args.text.now ++ c.args.tail.now in
    let d = method_at methods 0 in
    let next = c.args.from + c.args.guess in
    let here : is_before text (get_or (methods_at methods places) (next - 1) d) ≡ false =
    ap (is_before text) (methods_at-get methods places (next - 1) d (omega arith)) ∙ sym c.compare-below.ensures.before ∙ c.if-below.false in
    searched_down text (methods_at methods places) c.args.from (length places) (next - 1)
    d c.requires.ascending c.requires.known (omega arith) (omega arith) here
