use Rattle.std.proofs.Common.{◌<◌, ◌≤◌, length, arith}
use Rattle.std.proofs.lemmas.Bool.Decides.{nat_tests}
use Rattle.osc_cues.specs.declared.limits.TheConstants.{MAX_SHEET}
use Rattle.osc_cues.proofs.Outcomes.{read_wrong}
use Rattle.osc_cues.proofs.sheet.Sheet.read.Goals as goal

pub returns-else-is_empty : goal.returns-else-is_empty
returns-else-is_empty c =
    let short : length c.args.bytes.now ≤ MAX_SHEET = grind (arith, nat_tests) in
    let some : 0 < length c.as_slice.result.now = grind (arith, nat_tests) in
    read_wrong c.args.methods.now c.args.setting c.args.bytes.now c.in_ok-draft.draft c.as_slice.result.now
    c.in_ok-draft.ensures.value c.as_slice.ensures short some
