use Rattle.std.proofs.Common.{◌≡◌, ◌-◌, ◌<◌, true, false, refl, ap, ◌∙◌, arith, rules}
use Rattle.osc_packet.specs.Reading.{is_bundle}
use Rattle.osc_packet.specs.Walks.{bundle_at, units_from}
use Rattle.osc_packet.proofs.Walks.{inner, left_bundle, element_here, sized_here, next_here, skipped_here}
use Rattle.osc_packet.proofs.walk.next_bundle.Goals as goal

pub loop-depth-init : goal.loop-depth-init
loop-depth-init c = record { walk = c.requires.walk; shallow = omega arith; few = omega arith; units = refl }

pub offset_bounds-bundles-depth : goal.offset_bounds-bundles-depth
offset_bounds-bundles-depth c = omega (arith, c.loop-depth.invariant.few)

pub bounds-bundles-depth : goal.bounds-bundles-depth
bounds-bundles-depth c = omega (arith, c.loop-depth.invariant.few, c.loop-depth-test.true)

pub loop-depth-smaller-then-place-end : goal.loop-depth-smaller-then-place-end
loop-depth-smaller-then-place-end c = omega (arith, c.loop-depth-test.true)

pub loop-depth-preserved-then-place-end : goal.loop-depth-preserved-then-place-end
loop-depth-preserved-then-place-end c =
    let both = left_bundle c.args.bytes.now c.args.bundles.now c.loop-depth.depth c.loop-depth.place c.loop-depth-test.true c.loop-depth.invariant.walk
    c.if-place-end.true in
    record {
      walk = both.1;
      shallow = omega (arith, c.loop-depth.invariant.shallow);
      few = omega (arith, c.loop-depth.invariant.few);
      units = c.loop-depth.invariant.units ∙ both.0;
    }

pub slice_bounds-rest-count : goal.slice_bounds-rest-count
slice_bounds-rest-count c =
    let here = inner c.args.bytes.now c.args.bundles.now c.loop-depth.depth c.loop-depth.place c.loop-depth-test.true c.loop-depth.invariant.walk in
    here.order

pub slice_bounds-rest-start : goal.slice_bounds-rest-start
slice_bounds-rest-start c =
    let here = inner c.args.bytes.now c.args.bundles.now c.loop-depth.depth c.loop-depth.place c.loop-depth-test.true c.loop-depth.invariant.walk in
    search (rules, here.order)

pub slice_bounds-rest-end : goal.slice_bounds-rest-end
slice_bounds-rest-end c =
    let here = inner c.args.bytes.now c.args.bundles.now c.loop-depth.depth c.loop-depth.place c.loop-depth-test.true c.loop-depth.invariant.walk in
    search (rules, here.inside)

pub first_size-size-requires : goal.first_size-size-requires
first_size-size-requires c =
    let here = inner c.args.bytes.now c.args.bundles.now c.loop-depth.depth c.loop-depth.place c.loop-depth-test.true c.loop-depth.invariant.walk in
    let more : c.loop-depth.place < (bundle_at c.args.bundles.now (c.loop-depth.depth - 1)).end = omega (arith, here.order, c.if-place-end.false) in
    let sized = sized_here c.args.bytes.now c.args.bundles.now c.loop-depth.depth c.loop-depth.place c.loop-depth-test.true c.loop-depth.invariant.walk more in
    omega (arith, sized.0, sized.1)

pub split_element-requires : goal.split_element-requires
split_element-requires c =
    let here = inner c.args.bytes.now c.args.bundles.now c.loop-depth.depth c.loop-depth.place c.loop-depth-test.true c.loop-depth.invariant.walk in
    let more : c.loop-depth.place < (bundle_at c.args.bundles.now (c.loop-depth.depth - 1)).end = omega (arith, here.order, c.if-place-end.false) in
    let sized = sized_here c.args.bytes.now c.args.bundles.now c.loop-depth.depth c.loop-depth.place c.loop-depth-test.true c.loop-depth.invariant.walk more in
    omega (arith, sized.0, sized.1, c.first_size-size.ensures)

pub is_bundle-requires : goal.is_bundle-requires
is_bundle-requires c =
    let here = inner c.args.bytes.now c.args.bundles.now c.loop-depth.depth c.loop-depth.place c.loop-depth-test.true c.loop-depth.invariant.walk in
    let more : c.loop-depth.place < (bundle_at c.args.bundles.now (c.loop-depth.depth - 1)).end = omega (arith, here.order, c.if-place-end.false) in
    let sized = sized_here c.args.bytes.now c.args.bundles.now c.loop-depth.depth c.loop-depth.place c.loop-depth-test.true c.loop-depth.invariant.walk more in
    omega (arith, sized.0, sized.1, c.first_size-size.ensures, c.split_element.ensures.element_size)

pub returns-then-is_bundle : goal.returns-then-is_bundle
returns-then-is_bundle c =
    let here = inner c.args.bytes.now c.args.bundles.now c.loop-depth.depth c.loop-depth.place c.loop-depth-test.true c.loop-depth.invariant.walk in
    let more : c.loop-depth.place < (bundle_at c.args.bundles.now (c.loop-depth.depth - 1)).end = omega (arith, here.order, c.if-place-end.false) in
    let found = element_here c.args.bytes.now c.args.bundles.now c.loop-depth.depth c.loop-depth.place c.first_size-size.result c.split_element.result.0.now
    c.loop-depth-test.true c.loop-depth.invariant.walk more c.first_size-size.ensures c.split_element.ensures.element in
    let test : is_bundle c.split_element.result.0.now ≡ true = search rules in
    next_here c.args.bytes.now c.args.bundles.now c.args.depth c.args.place c.loop-depth.depth c.loop-depth.place c.first_size-size.result
    c.split_element.result.0.now c.loop-depth-test.true c.loop-depth.invariant.shallow c.loop-depth.invariant.units found test

pub loop-depth-smaller : goal.loop-depth-smaller
loop-depth-smaller c =
    let here = inner c.args.bytes.now c.args.bundles.now c.loop-depth.depth c.loop-depth.place c.loop-depth-test.true c.loop-depth.invariant.walk in
    let more : c.loop-depth.place < (bundle_at c.args.bundles.now (c.loop-depth.depth - 1)).end = omega (arith, here.order, c.if-place-end.false) in
    let found = element_here c.args.bytes.now c.args.bundles.now c.loop-depth.depth c.loop-depth.place c.first_size-size.result c.split_element.result.0.now
    c.loop-depth-test.true c.loop-depth.invariant.walk more c.first_size-size.ensures c.split_element.ensures.element in
    omega (arith, found.order, found.inside, found.positive)

pub loop-depth-preserved : goal.loop-depth-preserved
loop-depth-preserved c =
    let here = inner c.args.bytes.now c.args.bundles.now c.loop-depth.depth c.loop-depth.place c.loop-depth-test.true c.loop-depth.invariant.walk in
    let more : c.loop-depth.place < (bundle_at c.args.bundles.now (c.loop-depth.depth - 1)).end = omega (arith, here.order, c.if-place-end.false) in
    let found = element_here c.args.bytes.now c.args.bundles.now c.loop-depth.depth c.loop-depth.place c.first_size-size.result c.split_element.result.0.now
    c.loop-depth-test.true c.loop-depth.invariant.walk more c.first_size-size.ensures c.split_element.ensures.element in
    let test : is_bundle c.split_element.result.0.now ≡ false = search rules in
    record {
      walk = found.walk;
      shallow = c.loop-depth.invariant.shallow;
      few = c.loop-depth.invariant.few;
      units = c.loop-depth.invariant.units
          ∙ skipped_here c.args.bytes.now c.args.bundles.now c.loop-depth.depth c.loop-depth.place c.first_size-size.result c.split_element.result.0.now found
          test;
    }

pub returns : goal.returns
returns c =
    let none : c.loop-depth.depth ≡ 0 = omega arith in
    c.loop-depth.invariant.units ∙ ap (λ n. units_from c.args.bytes.now c.args.bundles.now n c.loop-depth.place) none
