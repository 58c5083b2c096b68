use Rattle.std.proofs.Common.{sym, ap, subst, ◌∙◌}
use Rattle.osc_model.specs.State.{State}
use Rattle.osc_model.specs.History.{Performance, state_of}
use Rattle.osc_core.specs.Frames.{messages_in}
use Rattle.osc_core.specs.Playing.{IsPlaying}
use Rattle.osc_core.proofs.Released.{entries_after, release_leaves, read_leaves}
use Rattle.osc_core.proofs.Hearing.{hear_same}
use Rattle.osc_core.proofs.performance.Performance.release.Goals as goal

pub invariant_of-self : goal.invariant_of-self
invariant_of-self g c =
    let s = c.self.inside in
    let laws = c.a_performance_is_played.ensures in
    let left = release_leaves laws.played laws.full c.release-releasing.result s.server c.release-releasing.new.self s.recorder c.release-releasing.new.recorder
    s.entries c.args.caller c.args.self.now c.self.invariant c.self.view_is c.requires.caller c.release-releasing.ensures.answer in
    subst (IsPlaying c.release-releasing.new.self c.release-releasing.new.recorder)
    (ap (λ answer. entries_after answer s.entries) c.in-Released.is) left.playing

pub returns-in-Released-clause-answer : goal.returns-in-Released-clause-answer
returns-in-Released-clause-answer g c =
    let s = c.self.inside in
    let laws = c.a_performance_is_played.ensures in
    let left = release_leaves laws.played laws.full c.release-releasing.result s.server c.release-releasing.new.self s.recorder c.release-releasing.new.recorder
    s.entries c.args.caller c.args.self.now c.self.invariant c.self.view_is c.requires.caller c.release-releasing.ensures.answer in
    left.told

pub returns-in-Released-clause-performance : goal.returns-in-Released-clause-performance
returns-in-Released-clause-performance g c =
    let s = c.self.inside in
    let laws = c.a_performance_is_played.ensures in
    let left = release_leaves laws.played laws.full c.release-releasing.result s.server c.release-releasing.new.self s.recorder c.release-releasing.new.recorder
    s.entries c.args.caller c.args.self.now c.self.invariant c.self.view_is c.requires.caller c.release-releasing.ensures.answer in
    left.performance

pub returns-in-Released-clause-boxes : goal.returns-in-Released-clause-boxes
returns-in-Released-clause-boxes g c =
    let s = c.self.inside in
    let laws = c.a_performance_is_played.ensures in
    let left = release_leaves laws.played laws.full c.release-releasing.result s.server c.release-releasing.new.self s.recorder c.release-releasing.new.recorder
    s.entries c.args.caller c.args.self.now c.self.invariant c.self.view_is c.requires.caller c.release-releasing.ensures.answer in
    hear_same _ _ _ _ c.release-releasing.ensures.boxes (sym left.invocations)

pub returns-in_default-clause-answer : goal.returns-in_default-clause-answer
returns-in_default-clause-answer g c =
    let s = c.self.inside in
    let laws = c.a_performance_is_played.ensures in
    let left = release_leaves laws.played laws.full c.release-releasing.result s.server c.release-releasing.new.self s.recorder c.release-releasing.new.recorder
    s.entries c.args.caller c.args.self.now c.self.invariant c.self.view_is c.requires.caller c.release-releasing.ensures.answer in
    left.told

pub returns-in_default-clause-performance : goal.returns-in_default-clause-performance
returns-in_default-clause-performance g c =
    let s = c.self.inside in
    let laws = c.a_performance_is_played.ensures in
    let left = release_leaves laws.played laws.full c.release-releasing.result s.server c.release-releasing.new.self s.recorder c.release-releasing.new.recorder
    s.entries c.args.caller c.args.self.now c.self.invariant c.self.view_is c.requires.caller c.release-releasing.ensures.answer in
    left.performance

pub returns-in_default-clause-boxes : goal.returns-in_default-clause-boxes
returns-in_default-clause-boxes g c =
    let s = c.self.inside in
    let laws = c.a_performance_is_played.ensures in
    let left = release_leaves laws.played laws.full c.release-releasing.result s.server c.release-releasing.new.self s.recorder c.release-releasing.new.recorder
    s.entries c.args.caller c.args.self.now c.self.invariant c.self.view_is c.requires.caller c.release-releasing.ensures.answer in
    hear_same _ _ _ _ c.release-releasing.ensures.boxes (sym left.invocations)

pub returns-in-Released-clause-messages : goal.returns-in-Released-clause-messages
returns-in-Released-clause-messages g c =
    let s = c.self.inside in
    let laws = c.a_performance_is_played.ensures in
    let left = release_leaves laws.played laws.full c.release-releasing.result s.server c.release-releasing.new.self s.recorder c.release-releasing.new.recorder
    s.entries c.args.caller c.args.self.now c.self.invariant c.self.view_is c.requires.caller c.release-releasing.ensures.answer in
    read_leaves c.release-releasing.result c.args.self.now s.server (messages_in c.release-releasing.new.messages.items) left.invocations
    (ap (λ (state : State). state.methods) c.self.invariant.server_is ∙ ap (λ (p : Performance). (state_of p).methods) c.self.view_is)
    c.release-releasing.ensures.messages

pub returns-in_default-clause-messages : goal.returns-in_default-clause-messages
returns-in_default-clause-messages g c =
    let s = c.self.inside in
    let laws = c.a_performance_is_played.ensures in
    let left = release_leaves laws.played laws.full c.release-releasing.result s.server c.release-releasing.new.self s.recorder c.release-releasing.new.recorder
    s.entries c.args.caller c.args.self.now c.self.invariant c.self.view_is c.requires.caller c.release-releasing.ensures.answer in
    read_leaves c.release-releasing.result c.args.self.now s.server (messages_in c.release-releasing.new.messages.items) left.invocations
    (ap (λ (state : State). state.methods) c.self.invariant.server_is ∙ ap (λ (p : Performance). (state_of p).methods) c.self.view_is)
    c.release-releasing.ensures.messages
