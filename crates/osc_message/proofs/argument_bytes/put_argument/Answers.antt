-- A text in which no zero byte is found has none.
use Rattle.osc_message.specs.Shown.{shown}
use Rattle.osc_message.proofs.Openings.{argument_nonzero}
use Rattle.osc_message.proofs.argument_bytes.put_argument.Goals as goal

pub append_argument-requires-clause-no_zero : goal.append_argument-requires-clause-no_zero
append_argument-requires-clause-no_zero c = argument_nonzero (shown c.args.arg) c.requires.small c.requires.no_null
