use Rattle.std.proofs.Common.{subst}
use Rattle.std.specs.Prelude.{Option}
use Rattle.osc_packet.specs.Bundling.{Bundling}
use Rattle.osc_score.specs.Keeping.{KeepsRuns}
use Rattle.osc_score.proofs.Making.{last_kept}
use Rattle.osc_score.proofs.added_note.all_runs.Goals as goal

pub returns-in_ok-keep-in-Some : goal.returns-in_ok-keep-in-Some
returns-in_ok-keep-in-Some c groups keeps =
    last_kept c.args.least c.args.runs.items c.keep.new.runs.items c.in-Some.bundler groups
    (subst (λ (o : Option Bundling). KeepsRuns c.args.least c.args.runs.items o groups) c.in-Some.is keeps) c.in_ok-keep-in-Some.ensures
