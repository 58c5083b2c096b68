use Rattle.osc_cues.proofs.Orders.{said_in}
use Rattle.osc_cues.proofs.draft.Draft.read_line.Goals as goal

pub returns-in-Ok-clause-sound : goal.returns-in-Ok-clause-sound
returns-in-Ok-clause-sound c =
    said_in c.accept.result c.args.methods.now c.args.setting c.args.self.now c.accept.new.self c.args.number c.args.line.now c.in-Ok.said
    c.accept.ensures.said c.requires.sound c.in-Ok.ensures.says c.in-Ok.ensures.said
