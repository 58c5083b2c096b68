use Rattle.std.proofs.Common.{None, sym, ◌∙◌}
use Rattle.std.proofs.lemmas.Bool.{cond-false}
use Rattle.osc_packet.proofs.Entering.{element_own}
use Rattle.osc_packet.proofs.Few.{sound}
use Rattle.osc_packet.proofs.packet.Packet.alone.Goals as goal

pub new-requires : goal.new-requires
new-requires c =
    let whole = sound c.self.inside.bytes.now c.self.invariant in
    (sym (cond-false _ _ _ (sym c.is_bundle.ensures ∙ c.if-is_bundle.false)) ∙ element_own 16 None 0 0 c.self.inside.bytes.now whole.silent, whole.short)
