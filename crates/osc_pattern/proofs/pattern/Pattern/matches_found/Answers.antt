use Rattle.std.proofs.Common.{◌+◌, length, ◌∙◌, arith}
use Rattle.osc_pattern.specs.Patterns.{part_at}
use Rattle.osc_pattern.specs.ReadyParts.{all_ready_size}
use Rattle.osc_pattern.proofs.PatternLaws.{match_part-decides}
use Rattle.osc_pattern.proofs.ReadOnce.{ready_rows}
use Rattle.osc_pattern.proofs.pattern.Pattern.matches_found.Goals as goal

pub returns-clause-exact : goal.returns-clause-exact
returns-clause-exact g c =
    match_part-decides c.match_ready.result (part_at c.args.self.now c.args.part) c.args.name.now
    (c.match_ready.ensures.value ∙ c.requires.found.same c.args.name.now)

pub returns-clause-bounded : goal.returns-clause-bounded
returns-clause-bounded g c =
    let part = part_at c.args.self.now c.args.part in
    let size = all_ready_size c.args.found.items.now + length c.args.found.rest.now in
    let rows = ready_rows (length c.args.name.now) size (length part) c.requires.found.size in
    omega (arith, c.match_ready.ensures.bounded)
