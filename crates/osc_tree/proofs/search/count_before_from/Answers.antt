use Rattle.std.proofs.Common.{◌≡◌, ◌+◌, ◌-◌, ◌++◌, true, false, length, take, get_or, sym, ap, ◌∙◌, arith}
use Rattle.osc_tree.specs.Order.{is_before, begins_with}
use Rattle.osc_tree.specs.Views.{method_at, methods_at}
use Rattle.osc_tree.proofs.Ranges.{searched_up, searched_down}
use Rattle.osc_tree.proofs.InOrder.{methods_at-get, methods_at-length}
use Rattle.osc_tree.proofs.Narrowed.{is_so, is_not, narrowed_up}
use Rattle.osc_tree.proofs.search.count_before_from.Goals as goal

pub loop-low-preserved : goal.loop-low-preserved
loop-low-preserved c =
    let methods = c.args.methods.now in
    let places = c.args.places.now in
    let text = c.args.text.now ++ c.args.tail.now in
    let d = method_at methods 0 in
    let next = c.loop-low.low.place + (c.loop-low.low.place - c.args.from) in
    let long = methods_at-length methods places in
    let is = methods_at-get methods places next d (omega arith) in
    let here : is_before text (get_or (methods_at methods places) next d) ≡ true =
    ap (is_before text) is ∙ sym c.compare-found.ensures.before ∙ is_so c.compare-found.result.is_before c.if-not-found.false in
    let on = c.loop-low.invariant.on in
    record {
      on = omega arith;
      known = searched_up text (methods_at methods places) c.loop-low.low.place (length places) next
          d c.requires.ascending c.loop-low.invariant.known (omega arith) here;
      narrowed = narrowed_up c.args.text.now (methods_at methods places) c.loop-low.low.place (length places) c.loop-low.low.begun 0
          next c.compare-found.result.begun d c.loop-low.invariant.narrowed (omega arith) c.compare-found.ensures.bound
          (ap (begins_with (take c.compare-found.result.begun c.args.text.now)) is ∙ c.compare-found.ensures.begun);
    }

pub count_between-requires-clause-known : goal.count_between-requires-clause-known
count_between-requires-clause-known c =
    let methods = c.args.methods.now in
    let places = c.args.places.now in
    let text = c.args.text.now ++ c.args.tail.now in
    let next = c.loop-low.low.place + (c.loop-low.low.place - c.args.from) in
    let here : is_before text (get_or (methods_at methods places) next (method_at methods 0)) ≡ false =
    ap (is_before text) (methods_at-get methods places next (method_at methods 0) (omega arith))
    ∙ sym c.compare-found.ensures.before ∙ is_not c.compare-found.result.is_before c.if-not-found.true in
    searched_down text (methods_at methods places) c.loop-low.low.place (length places) next
    (method_at methods 0) c.requires.ascending c.loop-low.invariant.known (omega arith) (omega arith) here
