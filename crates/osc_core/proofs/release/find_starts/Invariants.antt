use Rattle.std.proofs.Common.{◌≡◌, ◌+◌, ◌*◌, ◌-◌, ◌≤◌, ◌++◌, length, vec_capacity}
use Rattle.osc_core.specs.Frames.{messages_in, AreFramed}
use Rattle.osc_core.specs.Invoked.{starts_of}
use Rattle.osc_core.proofs.release.find_starts.Given as goal

-- the places so far and those of the messages that are left are the places of all
abbrev pub invariant-loop-rest : goal.invariant-loop-rest
invariant-loop-rest l = record {
  framed : AreFramed l.rest;
  within : length l.rest ≤ length l.bytes;
  said : l.starts.items ++ starts_of (length l.bytes - length l.rest) (messages_in l.rest) ≡ starts_of 0 (messages_in l.bytes);
  few : 4 * length l.starts.items + length l.rest ≤ length l.bytes;
  capacity : vec_capacity l.initial.starts ≤ vec_capacity l.starts;
}

abbrev pub decreases-loop-rest : goal.decreases-loop-rest
decreases-loop-rest l = length l.rest
