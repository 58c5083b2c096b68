use Rattle.std.proofs.Common.{◌∙◌, None, ap}
use Rattle.osc_cues.specs.Faults.{made}
use Rattle.osc_cues.specs.Moments.{moment_read, tag_of}
use Rattle.osc_cues.specs.Plans.{Plan}
use Rattle.osc_cues.proofs.sheet.Sheet.start.Goals as goal

pub returns : goal.returns
returns c =
    c.tag_at.ensures ∙ ap (λ (plan : Plan). made tag_of (moment_read c.args.setting None plan.tempo c.args.word.now)) c.self.view_is
