use Rattle.osc_runs.proofs.Listing.{told_whole}
use Rattle.osc_runs.proofs.laws.a_run_is_told_by_all_its_lines.Goals as goal

pub returns : goal.returns
returns c = told_whole
