use Rattle.std.proofs.Common.{ap, ◌∙◌}
use Rattle.osc_replay.specs.Unlawful.{first_unlawful_in}
use Rattle.osc_replay.proofs.Unlawful.{fault_default, fault_some, fault_none}
use Rattle.osc_replay.proofs.old.first_fault.Goals as goal

pub returns-in_default : goal.returns-in_default
returns-in_default c =
    fault_default c.args.bytes.now c.split_at.result.0.now c.args.malformed.at c.split_at.ensures.front c.requires.malformed c.in_default.ensures.complete

pub returns-in-Some : goal.returns-in-Some
returns-in-Some c =
    fault_some c.args.bytes.now c.split_at.result.0.now c.args.malformed.at c.in-Some.at c.in-Ok.old.caps c.in-Ok.old.entries c.split_at.ensures.front
    c.requires.malformed c.in-Ok.ensures.written.1 c.in-Ok.ensures.complete (c.in-Some.ensures ∙ ap first_unlawful_in c.entries.ensures)

pub returns-in-None : goal.returns-in-None
returns-in-None c =
    fault_none c.args.bytes.now c.split_at.result.0.now c.args.malformed.at c.in-Ok.old.caps c.in-Ok.old.entries c.split_at.ensures.front
    c.requires.malformed c.in-Ok.ensures.complete (c.in-None.ensures ∙ ap first_unlawful_in c.entries.ensures)
