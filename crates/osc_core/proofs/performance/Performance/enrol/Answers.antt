use Rattle.std.proofs.Common.{refl, sym, ap, ◌∙◌}
use Rattle.osc_model.specs.Events.{enrol, adds_entry}
use Rattle.osc_record.specs.Shown.{answer_of}
use Rattle.osc_core.proofs.Played.{others_add, refuses, plays, enrolled_in}
use Rattle.osc_core.proofs.performance.Performance.enrol.Goals as goal

pub returns-in-Some : goal.returns-in-Some
returns-in-Some c =
    let s = c.self.inside in
    let full = refuses c.a_performance_is_played.ensures.full s.server s.recorder s.entries c.args.caller enrol c.in-Some.room 28 c.args.self.now
    c.self.invariant c.self.view_is (others_add s.server enrol (λ other. cc)) refl c.in-Some.ensures in
    record { answer = sym full.answer; performance = sym full.stays }

pub invariant_of-self : goal.invariant_of-self
invariant_of-self c =
    let s = c.self.inside in
    let played = c.a_performance_is_played.ensures.played s.server s.recorder s.entries c.args.caller enrol (answer_of c.enrol_answer.result) c.self.invariant
    (enrolled_in s.recorder c.args.self.now c.args.caller c.self.view_is c.requires) (tt) (c.enrol_answer.ensures ∙ c.enrol-enrolled.ensures.answer)
    (ap adds_entry c.enrol_answer.ensures ∙ c.enrol-enrolled.ensures.entry) (c.in_default.ensures) in
    let on = plays s.server s.recorder s.entries c.args.caller enrol
    (answer_of c.enrol_answer.result) c.enrol-enrolled.new.self c.put.new.self c.args.self.now played c.self.view_is c.enrol-enrolled.ensures.state
    c.put.ensures in
    on.playing

pub returns-clause-answer : goal.returns-clause-answer
returns-clause-answer c =
    let s = c.self.inside in
    let played = c.a_performance_is_played.ensures.played s.server s.recorder s.entries c.args.caller enrol (answer_of c.enrol_answer.result) c.self.invariant
    (enrolled_in s.recorder c.args.self.now c.args.caller c.self.view_is c.requires) (tt) (c.enrol_answer.ensures ∙ c.enrol-enrolled.ensures.answer)
    (ap adds_entry c.enrol_answer.ensures ∙ c.enrol-enrolled.ensures.entry) (c.in_default.ensures) in
    let on = plays s.server s.recorder s.entries c.args.caller enrol
    (answer_of c.enrol_answer.result) c.enrol-enrolled.new.self c.put.new.self c.args.self.now played c.self.view_is c.enrol-enrolled.ensures.state
    c.put.ensures in
    sym (on.answer_is ∙ c.enrol_answer.ensures)

pub returns-clause-performance : goal.returns-clause-performance
returns-clause-performance c =
    let s = c.self.inside in
    let played = c.a_performance_is_played.ensures.played s.server s.recorder s.entries c.args.caller enrol (answer_of c.enrol_answer.result) c.self.invariant
    (enrolled_in s.recorder c.args.self.now c.args.caller c.self.view_is c.requires) (tt) (c.enrol_answer.ensures ∙ c.enrol-enrolled.ensures.answer)
    (ap adds_entry c.enrol_answer.ensures ∙ c.enrol-enrolled.ensures.entry) (c.in_default.ensures) in
    let on = plays s.server s.recorder s.entries c.args.caller enrol
    (answer_of c.enrol_answer.result) c.enrol-enrolled.new.self c.put.new.self c.args.self.now played c.self.view_is c.enrol-enrolled.ensures.state
    c.put.ensures in
    on.performance
