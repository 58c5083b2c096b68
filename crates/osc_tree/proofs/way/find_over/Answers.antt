use Rattle.std.proofs.Common.{◌≡◌, false, rules, arith}
use Rattle.std.specs.Prelude.{is_none}
use Rattle.osc_tree.proofs.Overs.{over_onward}
use Rattle.osc_tree.proofs.way.find_over.Goals as goal

pub returns-clause-on : goal.returns-clause-on
returns-clause-on c =
    let some : is_none c.first_name.result.1 ≡ false = search rules in
    over_onward c.args.pattern.now c.args.names.now c.first_name.result.0.now c.args.matching c.in_ok-at.at c.first_name.result.1
    c.requires.count (omega (arith, c.requires.parts)) c.in_ok-at.ensures.bound c.in_ok-at.ensures.cut some
    c.first_name.ensures.names
