use Rattle.std.proofs.Common.{◌≡◌}
use Rattle.osc_stream.specs.Feeding.{taken}
use Rattle.osc_tests_bytes.proofs.streams.a_stream_is_ready_at_the_last_byte_of_each_packet.Given as goal

abbrev pub invariant-loop-at : goal.invariant-loop-at
invariant-loop-at g l = taken l.stream ≡ l.at
