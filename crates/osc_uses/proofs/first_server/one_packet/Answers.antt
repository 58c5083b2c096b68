use Rattle.std.proofs.Common.{List, [], ◌∷◌, ap, subst, ◌∙◌}
use Rattle.osc_model.specs.Events.{submit, release}
use Rattle.osc_model.specs.Heard.{Told, all_hear}
use Rattle.osc_model.specs.History.{Performance, stepped_in}
use Rattle.osc_core.specs.Answers.{TellsRelease}
use Rattle.osc_core.specs.Telling.{told}
use Rattle.osc_uses.proofs.Playing.{played_one, played_bytes, played_more}
use Rattle.osc_uses.proofs.first_server.one_packet.Goals as goal

pub returns-clause-released : goal.returns-clause-released
returns-clause-released g c =
    let before = c.args.core.now.performance in
    let bytes = c.args.bytes.now in
    let submitted = played_bytes before _ _ bytes c.submit-submitted.ensures.performance c.in_ok-packet.ensures.ok in
    subst (λ (p : Performance). TellsRelease c.release-released.result (stepped_in p release).answer) submitted c.release-released.ensures.answer

pub returns-clause-performance : goal.returns-clause-performance
returns-clause-performance g c =
    let before = c.args.core.now.performance in
    let bytes = c.args.bytes.now in
    let submitted = played_bytes before _ _ bytes c.submit-submitted.ensures.performance c.in_ok-packet.ensures.ok in
    played_more before _ _ (submit bytes ∷ []) (release ∷ []) submitted (played_one _ _ release c.release-released.ensures.performance)

pub returns-clause-boxes : goal.returns-clause-boxes
returns-clause-boxes g c =
    let before = c.args.core.now.performance in
    let between = c.submit-submitted.new.self.performance in
    let bytes = c.args.bytes.now in
    let boxes = told g.M.Method.keep g.M.Method.heard c.args.core.now.boxes.items in
    let submitted = played_bytes before between _ bytes c.submit-submitted.ensures.performance c.in_ok-packet.ensures.ok in
    c.release-released.ensures.boxes
    ∙ ap (λ (b : List Told). all_hear (stepped_in between release).invocations b) c.submit-submitted.ensures.boxes
    ∙ ap (λ (p : Performance). all_hear (stepped_in p release).invocations boxes) submitted
