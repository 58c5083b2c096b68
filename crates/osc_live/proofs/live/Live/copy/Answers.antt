use Rattle.std.proofs.Common.{subst}
use Rattle.osc_model.specs.Limits.{Limits}
use Rattle.osc_turn.specs.Passes.{view}
use Rattle.osc_live.specs.Reads.{Reads}
use Rattle.osc_live.proofs.Copies.{reads}
use Rattle.osc_live.proofs.live.Live.copy.Goals as goal

pub returns-clause-read : goal.returns-clause-read
returns-clause-read g c =
    let turn = c.act-pass.ensures in
    let new = c.act-pass.new.job in
    subst (λ (l : Limits). Reads l c.args.job.now.from c.args.job.now.into.now new.into.now new.count (view c.args.pass) (view c.act-pass.result.0))
    c.requires.asked.1
    (reads c.args.job.now.caps c.args.job.now.from c.args.job.now.into.now new.into.now new.count c.act-pass.result.1 (view c.args.pass)
    (view c.act-pass.result.0) turn.seen turn.once turn.counted turn.ran turn.ran.did_so.1)

pub returns-clause-same_reference : goal.returns-clause-same_reference
returns-clause-same_reference g c = c.act-pass.ensures.ran.did_so.0
