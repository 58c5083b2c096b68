use Rattle.std.proofs.Common.{◌≡◌, ◌+◌, ◌≤◌, length}
use Rattle.osc_packet.specs.Units.{stored_size}
use Rattle.osc_packet.specs.Contents.{messages_of, IsSound}
use Rattle.osc_packet.proofs.unit.Unit.stored.Given as goal

-- the size so far and that of the messages that are left are the size of all
abbrev pub invariant-loop-message : goal.invariant-loop-message
invariant-loop-message l =
    record {
      sound : IsSound l.rest;
      sized : l.size + stored_size (messages_of l.rest) ≡ stored_size l.self.messages;
      few : stored_size l.self.messages ≤ 65508;
    }

abbrev pub decreases-loop-message : goal.decreases-loop-message
decreases-loop-message l = length (messages_of l.rest)
