use Rattle.osc_patch.proofs.Ports.{not_read}
use Rattle.osc_patch.proofs.port.number_of.Goals as goal

pub returns-in_default-2 : goal.returns-in_default-2
returns-in_default-2 c = not_read c.args.digits.now c.in_default.field-0 c.in_default.ensures.value.0 c.requires
