use Rattle.std.proofs.Common.{length, sym, ap, ◌∙◌, rules, arith}
use Rattle.std.proofs.lemmas.Bool.{eqb-false}
use Rattle.osc_core.proofs.Storing.{split_is, split_next}
use Rattle.osc_core.proofs.messages.MessagesIterator.next.Goals as goal

pub split_first-message-requires : goal.split_first-message-requires
split_first-message-requires c =
    let some = eqb-false (length c.self.inside.bytes.now) 0 (sym c.is_empty.ensures ∙ c.if-is_empty.false) in
    (split_is c.self.invariant (omega arith)).begins

pub invariant_of-self : goal.invariant_of-self
invariant_of-self c =
    let some = eqb-false (length c.self.inside.bytes.now) 0 (sym c.is_empty.ensures ∙ c.if-is_empty.false) in
    (split_next c.split_first-message.result.0 c.split_first-message.result.1.now c.self.invariant (omega arith) c.split_first-message.ensures.message
    c.split_first-message.ensures.rest).others

pub returns-clause-steps : goal.returns-clause-steps
returns-clause-steps c =
    let some = eqb-false (length c.self.inside.bytes.now) 0 (sym c.is_empty.ensures ∙ c.if-is_empty.false) in
    sym c.self.view_is
    ∙ (split_next c.split_first-message.result.0 c.split_first-message.result.1.now c.self.invariant (omega arith) c.split_first-message.ensures.message
    c.split_first-message.ensures.rest).shows

pub returns-clause-goes : goal.returns-clause-goes
returns-clause-goes c =
    let some = eqb-false (length c.self.inside.bytes.now) 0 (sym c.is_empty.ensures ∙ c.if-is_empty.false) in
    let shows = sym c.self.view_is
    ∙ (split_next c.split_first-message.result.0 c.split_first-message.result.1.now c.self.invariant (omega arith) c.split_first-message.ensures.message
    c.split_first-message.ensures.rest).shows in
    let shorter = ap length shows in search rules
