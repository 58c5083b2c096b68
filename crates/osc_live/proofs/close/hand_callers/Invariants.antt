use Rattle.std.proofs.Common.{◌≡◌, ◌+◌, ◌≤◌, ◌++◌, length, map, vec_len, vec_capacity}
use Rattle.std.specs.Vec.Iter.{into_iter_items}
use Rattle.osc_live.specs.declared.caller.Caller.{Caller}
use Rattle.osc_live.proofs.close.hand_callers.Given as goal

-- the passes so far, and those that are left, are all
abbrev pub invariant-loop-caller : goal.invariant-loop-caller
invariant-loop-caller l = record {
  items : l.passes.items ++ map (λ (one : Caller). one.pass) (into_iter_items l.caller-iterator)
      ≡ l.initial.passes.items ++ map (λ (one : Caller). one.pass) l.fn.callers.items;
  room : vec_len l.passes + length (into_iter_items l.caller-iterator) ≤ vec_capacity l.passes;
  capacity : vec_capacity l.passes ≡ vec_capacity l.initial.passes;
}
