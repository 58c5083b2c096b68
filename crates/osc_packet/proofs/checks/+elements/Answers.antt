use Rattle.std.proofs.Common.{◌≡◌, ◌<◌, ◌+◌, length, take, drop, slice_index, Some, None, rules, sym, ◌∙◌, arith}
use Rattle.std.proofs.lemmas.Bool.Decides.{nat_tests}
use Rattle.osc_packet.specs.Reading.{element_fault}
use Rattle.osc_packet.proofs.Steps.{body_end, step_on, step_size, step_fault, element_fault_is, inside_bundle}
use Rattle.osc_packet.proofs.checks.+elements.Goals as goal

pub check_element-returns-in-47 : goal.check_element-returns-in-47
check_element-returns-in-47 t c = rw (element_fault_is c.args.left c.args.outer c.args.at c.args.bytes.now) (grind (arith, nat_tests))

pub check_element-returns-in_default : goal.check_element-returns-in_default
check_element-returns-in_default t c = rw (element_fault_is c.args.left c.args.outer c.args.at c.args.bytes.now) (grind (arith, nat_tests))

pub check_element-returns-in_err-tag-in-35 : goal.check_element-returns-in_err-tag-in-35
check_element-returns-in_err-tag-in-35 t c = rw (element_fault_is c.args.left c.args.outer c.args.at c.args.bytes.now) (grind (arith, nat_tests))

pub check_element-returns-in_ok-tag-in-35 : goal.check_element-returns-in_ok-tag-in-35
check_element-returns-in_ok-tag-in-35 t c =
    let hash : slice_index c.args.bytes.now 0 ≡ 35 = search rules in
    let inside = inside_bundle c.args.left c.args.outer c.args.at c.in_ok-tag-in-35.tag c.args.bytes.now hash
    (sym c.check_head.ensures.read ∙ c.in_ok-tag-in-35.was) in
    cc (inside, c.check_elements.ensures, c.bundle_elements.ensures)

pub check_elements-returns-in_err-size : goal.check_elements-returns-in_err-size
check_elements-returns-in_err-size t c =
    let f = element_fault c.args.left (Some c.args.tag) in
    let some : 0 < length c.loop-rest.rest.now = grind (arith, nat_tests) in
    let e = step_size f c.loop-rest.place c.loop-rest.rest.now c.in_err-size.field-0.0 some (sym c.check_size.ensures.read ∙ c.in_err-size.was) in
    search (rules, e, c.loop-rest.invariant.read)

pub check_elements-returns-in_err-check_element : goal.check_elements-returns-in_err-check_element
check_elements-returns-in_err-check_element t c =
    let f = element_fault c.args.left (Some c.args.tag) in
    let some : 0 < length c.loop-rest.rest.now = grind (arith, nat_tests) in
    let bad : f (c.loop-rest.place + 4) (take c.in_ok-size.size (drop 4 c.loop-rest.rest.now)) ≡ Some c.in_err-check_element.field-0.0 = search rules in
    let e = step_fault f c.loop-rest.place c.in_ok-size.size c.loop-rest.rest.now c.in_err-check_element.field-0.0 some
    (sym c.check_size.ensures.read ∙ c.in_ok-size.was) bad in
    search (rules, e, c.loop-rest.invariant.read)

pub check_elements-loop-rest-preserved : goal.check_elements-loop-rest-preserved
check_elements-loop-rest-preserved t c =
    let f = element_fault c.args.left (Some c.args.tag) in
    let some : 0 < length c.loop-rest.rest.now = grind (arith, nat_tests) in
    let fine : f (c.loop-rest.place + 4) (take c.in_ok-size.size (drop 4 c.loop-rest.rest.now)) ≡ None = search rules in
    let e = step_on f c.loop-rest.place c.in_ok-size.size c.loop-rest.rest.now some (sym c.check_size.ensures.read ∙ c.in_ok-size.was) fine in
    record {
      fourfold = omega (arith, c.in_ok-size.ensures.size);
      inside = omega (arith, c.in_ok-size.ensures.size);
      read = rw c.split_element.ensures.rest (sym e ∙ c.loop-rest.invariant.read);
    }

pub check_elements-returns : goal.check_elements-returns
check_elements-returns t c =
    let none : length c.loop-rest.rest.now ≡ 0 = grind (arith, nat_tests) in
    sym (body_end (element_fault c.args.left (Some c.args.tag)) c.loop-rest.place c.loop-rest.rest.now none) ∙ c.loop-rest.invariant.read
