use Rattle.std.proofs.Common.{◌≡◌, ◌++◌, drop}
use Rattle.std.specs.List.{flat_map}
use Rattle.osc_packet.specs.Bundling.{sized, bundled}
use Rattle.osc_carry.specs.Waiting.{AreShort}
use Rattle.osc_carry.proofs.unit_packet.bundle_of.Given as goal

abbrev pub invariant-loop-message : goal.invariant-loop-message
invariant-loop-message l = record {
  short : AreShort (drop l.message-index l.messages);
  said : l.packet.items ++ flat_map sized (drop l.message-index l.messages) ≡ bundled (record { tag = l.tag; messages = l.fn.messages });
}
