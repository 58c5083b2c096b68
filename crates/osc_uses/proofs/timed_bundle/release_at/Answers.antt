use Rattle.std.proofs.Common.{List, [], ◌∷◌, ap, subst, ◌∙◌}
use Rattle.osc_model.specs.Events.{tick, release}
use Rattle.osc_model.specs.Heard.{Told, all_hear}
use Rattle.osc_model.specs.History.{Performance, state_of, stepped_in}
use Rattle.osc_core.specs.Answers.{TellsRelease}
use Rattle.osc_core.specs.Telling.{told}
use Rattle.osc_uses.specs.Early.{IsNotEarly}
use Rattle.osc_uses.proofs.Playing.{played_one, played_more}
use Rattle.osc_uses.proofs.timed_bundle.release_at.Goals as goal

pub returns-clause-released : goal.returns-clause-released
returns-clause-released g c =
    let ticked = played_one c.args.core.now.performance _ (tick c.args.moment) c.tick-ticked.ensures.performance in
    subst (λ (p : Performance). TellsRelease c.release_due-released.result (stepped_in p release).answer) ticked c.release_due-released.ensures.answer

pub returns-clause-in_time : goal.returns-clause-in_time
returns-clause-in_time g c =
    let ticked = played_one c.args.core.now.performance _ (tick c.args.moment) c.tick-ticked.ensures.performance in
    subst (λ (p : Performance). IsNotEarly (state_of p) (stepped_in p release)) ticked c.release_due-released.ensures.in_time

pub returns-clause-performance : goal.returns-clause-performance
returns-clause-performance g c =
    let before = c.args.core.now.performance in
    let ticked = played_one before _ (tick c.args.moment) c.tick-ticked.ensures.performance in
    played_more before _ _ (tick c.args.moment ∷ []) (release ∷ []) ticked (played_one _ _ release c.release_due-released.ensures.performance)

pub returns-clause-boxes : goal.returns-clause-boxes
returns-clause-boxes g c =
    let between = c.tick-ticked.new.self.performance in
    let boxes = told g.M.Method.keep g.M.Method.heard c.args.core.now.boxes.items in
    let ticked = played_one c.args.core.now.performance between (tick c.args.moment) c.tick-ticked.ensures.performance in
    c.release_due-released.ensures.boxes
    ∙ ap (λ (b : List Told). all_hear (stepped_in between release).invocations b) c.tick-ticked.ensures.boxes
    ∙ ap (λ (p : Performance). all_hear (stepped_in p release).invocations boxes) ticked
