use Rattle.std.proofs.Common.{◌≡◌, ◌-◌, sym, ◌∙◌, rules}
use Rattle.osc_uses.specs.declared.light.TheConstants.{RELEASES}
use Rattle.osc_uses.proofs.ServedTurns.{none_left, one_made, at_rest}
use Rattle.osc_uses.proofs.light.release_due.Goals as goal

pub loop-preserved : goal.loop-preserved
loop-preserved c =
    let next = c.release.new.self.performance in
    one_made c.loop.core.performance next RELEASES c.loop.counter (search rules) c.release.ensures.performance ∙ c.loop.invariant

pub returns-in_default : goal.returns-in_default
returns-in_default c =
    let next = c.release.new.self.performance in
    at_rest c.loop.core.performance next c.release.result (RELEASES - c.loop.counter) c.in_default.not-Released c.release.ensures.answer
    c.release.ensures.performance ∙ c.loop.invariant

pub returns : goal.returns
returns c =
    let none : RELEASES - c.loop.counter ≡ 0 = search rules in
    sym (none_left c.loop.core.performance (RELEASES - c.loop.counter) none) ∙ c.loop.invariant
