use Rattle.std.proofs.Common.{None, sym, ◌∙◌}
use Rattle.std.proofs.lemmas.Bool.{cond-false}
use Rattle.osc_packet.proofs.Entering.{element_own}
use Rattle.osc_packet.proofs.Few.{sound}
use Rattle.osc_packet.proofs.units.Units.of_message.Goals as goal

pub new-requires : goal.new-requires
new-requires c =
    let whole = sound c.args.bytes.now c.requires.packet in
    (sym (cond-false _ _ _ c.requires.message) ∙ element_own 16 None 0 0 c.args.bytes.now whole.silent, whole.short)
