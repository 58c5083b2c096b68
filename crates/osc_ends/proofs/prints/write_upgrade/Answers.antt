use Rattle.std.proofs.Common.{◌≡◌, rules}
use Rattle.osc_model.specs.Limits.{max_recording}
use Rattle.osc_replay.specs.declared.upgrade_text.UpgradeFault.TheVariants.{Malformed, TooLarge}
use Rattle.osc_ends.proofs.Upgrades.{not_malformed, not_too_large, upgrade_ends, upgrades_to}
use Rattle.osc_ends.proofs.prints.write_upgrade.Goals as goal

pub returns-in-Ok-clause-ends : goal.returns-in-Ok-clause-ends
returns-in-Ok-clause-ends g c =
    let answers = c.in-Ok.ensures in
    let to = upgrades_to c.args.bytes.now c.in-Ok.recording answers.ok answers.complete answers.legal answers.illegal in
    upgrade_ends c.args.bytes.now c.in-Ok.recording c.write_text.result c.as_slice.result.now _ c.as_slice.ensures to c.write_text.ensures

pub returns-in-Err-Malformed-clause-complete : goal.returns-in-Err-Malformed-clause-complete
returns-in-Err-Malformed-clause-complete g c = λ caps history is few.
    let known : c.in-Err-Malformed.field-0 ≡ Malformed c.in-Err-Malformed.at = search rules in
    absurd
    (not_malformed c.in-Err-Malformed.field-0 c.in-Err-Malformed.at max_recording caps history known (c.in-Err-Malformed.ensures.complete caps history is))

pub returns-in-Err-TooLarge-clause-complete : goal.returns-in-Err-TooLarge-clause-complete
returns-in-Err-TooLarge-clause-complete g c = λ caps history is few.
    let known : c.in-Err-TooLarge.field-0 ≡ TooLarge c.in-Err-TooLarge.need c.in-Err-TooLarge.limit = search rules in
    absurd
    (not_too_large c.in-Err-TooLarge.field-0 c.in-Err-TooLarge.need c.in-Err-TooLarge.limit max_recording caps history known
    (c.in-Err-TooLarge.ensures.complete caps history is) few)
