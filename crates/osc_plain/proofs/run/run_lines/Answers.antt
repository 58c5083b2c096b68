use Rattle.std.proofs.Common.{◌≡◌, ◌<◌, length, rules}
use Rattle.osc_script.specs.Adds.{count_adds}
use Rattle.osc_plain.proofs.Tops.{short_ends}
use Rattle.osc_plain.proofs.run.run_lines.Goals as goal

pub returns-then-len-need-clause-ends : goal.returns-then-len-need-clause-ends
returns-then-len-need-clause-ends g c =
    let have : c.len-then-len-need.result ≡ length c.args.bank.items = search rules in
    let need : c.count_adds-need.result ≡ count_adds c.args.lines.items = search rules in
    let few : c.len-then-len-need.result < c.count_adds-need.result = search rules in (
      short_ends c.args.report c.args.caps c.bank_short-status.result _ c.len-then-len-need.result _ c.count_adds-need.result c.args.lines.items _
          c.unplayed.ensures.status have need few c.bank_short-status.ensures,
      search rules,
    )
