use Rattle.std.proofs.Common.{◌≡◌, sym, subst}
use Rattle.osc_model.specs.History.{Performance, stepped_in}
use Rattle.osc_record.specs.Shown.{event_of, answer_of}
use Rattle.osc_core.proofs.Played.{plays, enrolled_in}
use Rattle.osc_core.proofs.Refusing.{answers_add}
use Rattle.osc_core.proofs.performance.Performance.refuse.Goals as goal

pub invariant_of-self : goal.invariant_of-self
invariant_of-self c =
    let s = c.self.inside in
    let event = event_of c.args.event in
    let answer = answer_of c.args.answer in
    let refused = c.a_performance_is_played.ensures.refused s.server s.recorder s.entries c.args.caller event answer c.self.invariant
    (enrolled_in s.recorder c.args.self.now c.args.caller c.self.view_is c.requires.caller) c.requires.lawful
    (subst (λ (p : Performance). answer ≡ (stepped_in p event).answer) (sym c.self.view_is) c.requires.answer) c.requires.refusal
    (answers_add c.args.answer) in
    (plays s.server s.recorder s.entries c.args.caller event answer s.server c.put.new.self c.args.self.now refused.0 c.self.view_is (sym refused.1)
    c.put.ensures).playing

pub put-requires-clause-lawful : goal.put-requires-clause-lawful
put-requires-clause-lawful c =
    let s = c.self.inside in
    let event = event_of c.args.event in
    let answer = answer_of c.args.answer in
    let refused = c.a_performance_is_played.ensures.refused s.server s.recorder s.entries c.args.caller event answer c.self.invariant
    (enrolled_in s.recorder c.args.self.now c.args.caller c.self.view_is c.requires.caller) c.requires.lawful
    (subst (λ (p : Performance). answer ≡ (stepped_in p event).answer) (sym c.self.view_is) c.requires.answer) c.requires.refusal
    (answers_add c.args.answer) in
    refused.0.recordable

pub put-requires-clause-fits : goal.put-requires-clause-fits
put-requires-clause-fits c =
    let s = c.self.inside in
    let event = event_of c.args.event in
    let answer = answer_of c.args.answer in
    let refused = c.a_performance_is_played.ensures.refused s.server s.recorder s.entries c.args.caller event answer c.self.invariant
    (enrolled_in s.recorder c.args.self.now c.args.caller c.self.view_is c.requires.caller) c.requires.lawful
    (subst (λ (p : Performance). answer ≡ (stepped_in p event).answer) (sym c.self.view_is) c.requires.answer) c.requires.refusal
    (answers_add c.args.answer) in
    refused.0.fits

pub returns : goal.returns
returns c =
    let s = c.self.inside in
    let event = event_of c.args.event in
    let answer = answer_of c.args.answer in
    let refused = c.a_performance_is_played.ensures.refused s.server s.recorder s.entries c.args.caller event answer c.self.invariant
    (enrolled_in s.recorder c.args.self.now c.args.caller c.self.view_is c.requires.caller) c.requires.lawful
    (subst (λ (p : Performance). answer ≡ (stepped_in p event).answer) (sym c.self.view_is) c.requires.answer) c.requires.refusal
    (answers_add c.args.answer) in
    record {
      performance = (plays s.server s.recorder s.entries c.args.caller event answer s.server c.put.new.self c.args.self.now refused.0 c.self.view_is
          (sym refused.1) c.put.ensures).performance;
    }
