use Rattle.std.proofs.Common.{◌≡◌, ◌+◌, ◌-◌, ◌/◌, ◌++◌, true, false, take, get_or, sym, ap, ◌∙◌, arith}
use Rattle.osc_tree.specs.Order.{is_before, begins_with}
use Rattle.osc_tree.specs.Views.{method_at, methods_at}
use Rattle.osc_tree.proofs.Ranges.{searched_up, searched_down}
use Rattle.osc_tree.proofs.InOrder.{methods_at-get, methods_at-length}
use Rattle.osc_tree.proofs.Narrowed.{narrowed_known, narrowed_up, narrowed_down}
use Rattle.osc_tree.proofs.search.count_between.Goals as goal

pub compare-found-requires-clause-known : goal.compare-found-requires-clause-known
compare-found-requires-clause-known c =
    let methods = c.args.methods.now in
    let places = c.args.places.now in
    let text = c.args.text.now in
    let known = c.min-known.result in
    let middle = c.loop-low.low.place + (c.loop-low.high.place - c.loop-low.low.place) / 2 in
    let bound = c.loop-low.invariant.known.bound in
    let long = methods_at-length methods places in
    sym (ap (begins_with (take known text)) (methods_at-get methods places middle (method_at methods 0) (omega arith)))
    ∙ narrowed_known text (methods_at methods places) c.loop-low.low.place c.loop-low.high.place c.loop-low.low.begun c.loop-low.high.begun middle known
    (method_at methods 0) c.requires.ascending c.loop-low.invariant.narrowed (omega arith) (omega arith) c.min-known.ensures

pub loop-low-preserved-then-found : goal.loop-low-preserved-then-found
loop-low-preserved-then-found c =
    let methods = c.args.methods.now in
    let places = c.args.places.now in
    let text = c.args.text.now ++ c.args.tail.now in
    let d = method_at methods 0 in
    let middle = c.loop-low.low.place + (c.loop-low.high.place - c.loop-low.low.place) / 2 in
    let bound = c.loop-low.invariant.known.bound in
    let long = methods_at-length methods places in
    let is = methods_at-get methods places middle d (omega arith) in
    let here : is_before text (get_or (methods_at methods places) middle d) ≡ true =
    ap (is_before text) is ∙ sym c.compare-found.ensures.before ∙ c.if-found.true in
    record {
      known = searched_up text (methods_at methods places) c.loop-low.low.place c.loop-low.high.place middle
          d c.requires.ascending c.loop-low.invariant.known (omega arith) here;
      narrowed = narrowed_up c.args.text.now (methods_at methods places) c.loop-low.low.place c.loop-low.high.place c.loop-low.low.begun
          c.loop-low.high.begun middle c.compare-found.result.begun d c.loop-low.invariant.narrowed (omega arith) c.compare-found.ensures.bound
          (ap (begins_with (take c.compare-found.result.begun c.args.text.now)) is ∙ c.compare-found.ensures.begun);
    }

pub loop-low-preserved : goal.loop-low-preserved
loop-low-preserved c =
    let methods = c.args.methods.now in
    let places = c.args.places.now in
    let text = c.args.text.now ++ c.args.tail.now in
    let d = method_at methods 0 in
    let middle = c.loop-low.low.place + (c.loop-low.high.place - c.loop-low.low.place) / 2 in
    let bound = c.loop-low.invariant.known.bound in
    let long = methods_at-length methods places in
    let is = methods_at-get methods places middle d (omega arith) in
    let here : is_before text (get_or (methods_at methods places) middle d) ≡ false =
    ap (is_before text) is ∙ sym c.compare-found.ensures.before ∙ c.if-found.false in
    record {
      known = searched_down text (methods_at methods places) c.loop-low.low.place c.loop-low.high.place middle
          d c.requires.ascending c.loop-low.invariant.known (omega arith) (omega arith) here;
      narrowed = narrowed_down c.args.text.now (methods_at methods places) c.loop-low.low.place c.loop-low.high.place c.loop-low.low.begun
          c.loop-low.high.begun middle c.compare-found.result.begun d c.loop-low.invariant.narrowed (omega arith) c.compare-found.ensures.bound
          (ap (begins_with (take c.compare-found.result.begun c.args.text.now)) is ∙ c.compare-found.ensures.begun);
    }
