use Rattle.std.proofs.Common.{◌≡◌, ◌+◌, ◌≤◌, length}
use Rattle.osc_packet.specs.Contents.{messages_of, IsSound}
use Rattle.osc_packet.proofs.unit.Unit.count.Given as goal

-- the messages so far and those that are left are all
abbrev pub invariant-loop-after : goal.invariant-loop-after
invariant-loop-after l =
    record { sound : IsSound l.rest; counted : l.count + length (messages_of l.rest) ≡ length l.self.messages; few : length l.self.messages ≤ 65508 }

abbrev pub decreases-loop-after : goal.decreases-loop-after
decreases-loop-after l = length (messages_of l.rest)
