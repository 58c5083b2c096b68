use Rattle.osc_message.specs.Building.{open_refusal}
use Rattle.osc_c.proofs.Begun.{begun}
use Rattle.osc_c.proofs.writer.osc_message_write.Goals as goal

pub returns-in-Ok-clause-answer : goal.returns-in-Ok-clause-answer
returns-in-Ok-clause-answer c memory =
    begun (open_refusal c.args.pattern.now) c.args.pattern.now c.args.arguments.now c.args.bytes.now c.in-Ok.builder c.in-Ok.ensures.refused
    c.in-Ok.ensures.ok c.write_arguments.result c.args.buffer.now c.write_arguments.new.buffer (c.write_arguments.ensures.answer memory)
