use Rattle.std.proofs.Common.{◌≡◌, ◌+◌, ◌≤◌, ◌++◌, IsTrue, vec_len, vec_capacity}
use Rattle.std.specs.List.{list_all}
use Rattle.osc_message.specs.Reading.{is_message}
use Rattle.osc_packet.specs.Units.{stored_size}
use Rattle.osc_core.specs.Frames.{framed}
use Rattle.osc_core.proofs.store.append.Given as goal

-- the bytes so far and those of the messages that are left are the bytes of all
abbrev pub invariant-loop-message : goal.invariant-loop-message
invariant-loop-message l = record {
  can : (goal.iterator-loop-message).can_next l.message-iterator;
  finite : (goal.iterator-loop-message).is_finite l.message-iterator;
  said : l.bytes.items ++ framed l.message-iterator ≡ l.initial.bytes.items ++ framed l.fn.messages;
  room : vec_len l.bytes + stored_size l.message-iterator ≤ vec_capacity l.bytes;
  capacity : vec_capacity l.initial.bytes ≤ vec_capacity l.bytes;
  read : IsTrue (list_all (is_message 1073741824) l.message-iterator) → IsTrue (list_all (is_message 1073741824) l.fn.messages);
}
