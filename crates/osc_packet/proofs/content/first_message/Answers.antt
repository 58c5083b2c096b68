use Rattle.std.proofs.Common.{◌≡◌, ◌<◌, length, true, false, ◌∙◌, arith, rules}
use Rattle.std.proofs.lemmas.Bool.Decides.{nat_tests}
use Rattle.osc_packet.specs.Reading.{is_bundle}
use Rattle.osc_packet.specs.Contents.{own_fault}
use Rattle.osc_packet.proofs.Bodies.{silent_step, first_message, skipped, messages_end}
use Rattle.osc_packet.proofs.content.first_message.Goals as goal

pub first_size-requires : goal.first_size-requires
first_size-requires c =
    let some : 0 < length c.loop-rest.rest.now = grind (arith, nat_tests) in
    let step = silent_step own_fault 0 c.loop-rest.rest.now some c.loop-rest.invariant.sound in
    omega (arith, step.size.inside, step.size.positive)

pub split_element-requires : goal.split_element-requires
split_element-requires c =
    let some : 0 < length c.loop-rest.rest.now = grind (arith, nat_tests) in
    let step = silent_step own_fault 0 c.loop-rest.rest.now some c.loop-rest.invariant.sound in
    omega (arith, step.size.inside, step.size.positive, c.first_size.ensures)

pub is_bundle-requires : goal.is_bundle-requires
is_bundle-requires c =
    let some : 0 < length c.loop-rest.rest.now = grind (arith, nat_tests) in
    let step = silent_step own_fault 0 c.loop-rest.rest.now some c.loop-rest.invariant.sound in
    omega (arith, step.size.positive, c.first_size.ensures, c.split_element.ensures.element_size)

pub returns-then-not-is_bundle : goal.returns-then-not-is_bundle
returns-then-not-is_bundle c =
    let some : 0 < length c.loop-rest.rest.now = grind (arith, nat_tests) in
    let test : is_bundle c.split_element.result.0.now ≡ false = search rules in
    let one = first_message c.loop-rest.rest.now c.split_element.result.0.now c.split_element.result.1.now c.first_size.result some c.loop-rest.invariant.sound
    c.first_size.ensures c.split_element.ensures.element c.split_element.ensures.rest test in
    record {
      parts = c.loop-rest.invariant.same ∙ one.parts;
      lawful = one.lawful;
      small = omega (arith, one.small);
      sound = one.sound;
      shorter = omega (arith, one.shorter);
    }

pub loop-rest-preserved : goal.loop-rest-preserved
loop-rest-preserved c =
    let some : 0 < length c.loop-rest.rest.now = grind (arith, nat_tests) in
    let test : is_bundle c.split_element.result.0.now ≡ true = search rules in
    let both = skipped c.loop-rest.rest.now c.split_element.result.0.now c.split_element.result.1.now c.first_size.result some c.loop-rest.invariant.sound
    c.first_size.ensures c.split_element.ensures.element c.split_element.ensures.rest test in
    record {
      same = c.loop-rest.invariant.same ∙ both.0;
      sound = both.1;
      shorter = omega (arith, c.split_element.ensures.rest_size);
    }

pub returns : goal.returns
returns c =
    let none : length c.loop-rest.rest.now ≡ 0 = grind (arith, nat_tests) in
    c.loop-rest.invariant.same ∙ messages_end c.loop-rest.rest.now none
