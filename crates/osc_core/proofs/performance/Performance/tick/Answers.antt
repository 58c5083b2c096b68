use Rattle.std.proofs.Common.{refl, sym, ap, ◌∙◌}
use Rattle.osc_model.specs.Events.{tick, adds_entry}
use Rattle.osc_record.specs.Shown.{answer_of}
use Rattle.osc_core.proofs.Played.{others_add, refuses, plays, enrolled_in}
use Rattle.osc_core.proofs.performance.Performance.tick.Goals as goal

pub returns-in-Some : goal.returns-in-Some
returns-in-Some c =
    let s = c.self.inside in
    let full = refuses c.a_performance_is_played.ensures.full s.server s.recorder s.entries c.args.caller
    (tick c.args.now) c.in-Some.room 48 c.args.self.now c.self.invariant c.self.view_is
    (others_add s.server (tick c.args.now) (λ other. cc)) refl c.in-Some.ensures in
    record { answer = sym full.answer; performance = sym full.stays }

pub invariant_of-self : goal.invariant_of-self
invariant_of-self c =
    let s = c.self.inside in
    let played = c.a_performance_is_played.ensures.played s.server s.recorder s.entries c.args.caller (tick c.args.now)
    (answer_of c.tick_answer.result) c.self.invariant (enrolled_in s.recorder c.args.self.now c.args.caller c.self.view_is c.requires) (c.ranges.now.fits)
    (c.tick_answer.ensures ∙ c.tick-ticking.ensures.answer) (ap adds_entry c.tick_answer.ensures ∙ c.tick-ticking.ensures.entry) (c.in_default.ensures) in
    let on = plays s.server s.recorder s.entries c.args.caller (tick c.args.now)
    (answer_of c.tick_answer.result) c.tick-ticking.new.self c.put.new.self c.args.self.now played c.self.view_is c.tick-ticking.ensures.state
    c.put.ensures in
    on.playing

pub returns-clause-answer : goal.returns-clause-answer
returns-clause-answer c =
    let s = c.self.inside in
    let played = c.a_performance_is_played.ensures.played s.server s.recorder s.entries c.args.caller (tick c.args.now)
    (answer_of c.tick_answer.result) c.self.invariant (enrolled_in s.recorder c.args.self.now c.args.caller c.self.view_is c.requires) (c.ranges.now.fits)
    (c.tick_answer.ensures ∙ c.tick-ticking.ensures.answer) (ap adds_entry c.tick_answer.ensures ∙ c.tick-ticking.ensures.entry) (c.in_default.ensures) in
    let on = plays s.server s.recorder s.entries c.args.caller (tick c.args.now)
    (answer_of c.tick_answer.result) c.tick-ticking.new.self c.put.new.self c.args.self.now played c.self.view_is c.tick-ticking.ensures.state
    c.put.ensures in
    sym (on.answer_is ∙ c.tick_answer.ensures)

pub returns-clause-performance : goal.returns-clause-performance
returns-clause-performance c =
    let s = c.self.inside in
    let played = c.a_performance_is_played.ensures.played s.server s.recorder s.entries c.args.caller (tick c.args.now)
    (answer_of c.tick_answer.result) c.self.invariant (enrolled_in s.recorder c.args.self.now c.args.caller c.self.view_is c.requires) (c.ranges.now.fits)
    (c.tick_answer.ensures ∙ c.tick-ticking.ensures.answer) (ap adds_entry c.tick_answer.ensures ∙ c.tick-ticking.ensures.entry) (c.in_default.ensures) in
    let on = plays s.server s.recorder s.entries c.args.caller (tick c.args.now)
    (answer_of c.tick_answer.result) c.tick-ticking.new.self c.put.new.self c.args.self.now played c.self.view_is c.tick-ticking.ensures.state
    c.put.ensures in
    on.performance
