use Rattle.std.proofs.Common.{◌≡◌, ◌-◌, ◌∷◌, length, sym, ap, ◌∙◌, arith}
use Rattle.std.proofs.lemmas.Result.{on_ok_weaker}
use Rattle.osc_shown.proofs.UnitTexts.{first_text}
use Rattle.osc_shown.proofs.wait.add_unit_text.Goals as goal

pub returns-in_ok-add_message-in-Some : goal.returns-in_ok-add_message-in-Some
returns-in_ok-add_message-in-Some c =
    let is : c.args.unit.now.messages ≡ c.in-Some.message ∷ c.next.new.self = sym c.messages.ensures ∙ c.in-Some.ensures.steps in
    let more : c.count-count.result - 1 ≡ length c.next.new.self = omega (arith, ap length is, c.count-count.ensures) in
    on_ok_weaker c.add_more.result
    (first_text c.args.whole c.args.unit.now.messages c.next.new.self c.in-Some.message c.args.out.now.items c.add_message.new.out.items
    c.add_more.new.out.items (c.count-count.result - 1) is more c.in_ok-add_message-in-Some.ensures)
    c.add_more.ensures
