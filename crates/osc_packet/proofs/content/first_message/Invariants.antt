use Rattle.std.proofs.Common.{◌≡◌, ◌≤◌, length, None}
use Rattle.osc_packet.specs.Reading.{body_fault, messages_in}
use Rattle.osc_packet.specs.Contents.{own_fault}
use Rattle.osc_packet.proofs.content.first_message.Given as goal

-- the messages among the rest are those among all
abbrev pub invariant-loop-rest : goal.invariant-loop-rest
invariant-loop-rest l = record {
  same : messages_in l.elements ≡ messages_in l.rest;
  sound : body_fault own_fault 0 l.rest ≡ None;
  shorter : length l.rest ≤ length l.elements;
}

abbrev pub decreases-loop-rest : goal.decreases-loop-rest
decreases-loop-rest l = length l.rest
