use Rattle.std.proofs.Common.{◌≡◌, ℕ, List, [], ◌∷◌, refl, ap, subst, ◌∙◌}
use Rattle.osc_model.specs.Events.{submit, tick, release}
use Rattle.osc_model.specs.History.{Performance, state_of, stepped_in, onward}
use Rattle.osc_core.specs.Answers.{TellsRelease}
use Rattle.osc_uses.specs.Played.{played}
use Rattle.osc_uses.specs.Early.{IsNotEarly}
use Rattle.osc_uses.proofs.Playing.{played_one, played_more}
use Rattle.osc_uses.proofs.timed_bundle.timed_run.Goals as goal

-- the bundle, and a release at once
two : (before one after : Performance) (bundle : List ℕ) → one ≡ onward before 0 (submit bundle) → after ≡ onward one 0 release
    → after ≡ played before (submit bundle ∷ release ∷ [])
two before one after bundle first then =
    played_more before one after (submit bundle ∷ []) (release ∷ []) (played_one before one (submit bundle) first) (played_one one after release then)

pub returns-clause-early : goal.returns-clause-early
returns-clause-early g c =
    let submitted = played_one c.args.core.now.performance _ (submit c.args.bundle.now) c.submit-submitted.ensures.performance in
    subst (λ (p : Performance). TellsRelease c.release_due-early.result (stepped_in p release).answer) submitted c.release_due-early.ensures.answer

pub returns-clause-waits : goal.returns-clause-waits
returns-clause-waits g c =
    let submitted = played_one c.args.core.now.performance _ (submit c.args.bundle.now) c.submit-submitted.ensures.performance in
    subst (λ (p : Performance). IsNotEarly (state_of p) (stepped_in p release)) submitted c.release_due-early.ensures.in_time

pub returns-clause-ticked : goal.returns-clause-ticked
returns-clause-ticked g c =
    let early = two c.args.core.now.performance _ _ c.args.bundle.now c.submit-submitted.ensures.performance c.release_due-early.ensures.performance in
    c.release_at-ticked.ensures.ticked ∙ ap (λ (p : Performance). (stepped_in p (tick c.args.moment)).answer) early

pub returns-clause-released : goal.returns-clause-released
returns-clause-released g c =
    let before = c.args.core.now.performance in
    let bundle = c.args.bundle.now in
    let moment = c.args.moment in
    let early = two before _ _ bundle c.submit-submitted.ensures.performance c.release_due-early.ensures.performance in
    let ticked = played_more before _ _ (submit bundle ∷ release ∷ []) (tick moment ∷ []) early refl in
    subst (λ (p : Performance). TellsRelease c.release_at-ticked.result.1 (stepped_in p release).answer) ticked c.release_at-ticked.ensures.released

pub returns-clause-performance : goal.returns-clause-performance
returns-clause-performance g c =
    let before = c.args.core.now.performance in
    let bundle = c.args.bundle.now in
    let early = two before _ _ bundle c.submit-submitted.ensures.performance c.release_due-early.ensures.performance in
    played_more before _ _ (submit bundle ∷ release ∷ []) (tick c.args.moment ∷ release ∷ []) early c.release_at-ticked.ensures.performance

pub returns-clause-laws : goal.returns-clause-laws
returns-clause-laws g c =
    let after = c.release_at-ticked.new.core.performance in
    c.every_history_keeps_the_laws.ensures after.caps after.history c.bytes.ensures.legal
