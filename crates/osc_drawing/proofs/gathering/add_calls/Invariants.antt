use Rattle.std.proofs.Common.{◌≡◌, ◌++◌, take}
use Rattle.std.specs.List.{flat_map}
use Rattle.osc_drawing.specs.Marks.{call_marks}
use Rattle.osc_drawing.proofs.gathering.add_calls.Given as goal

abbrev pub invariant-loop-call : goal.invariant-loop-call
invariant-loop-call l = l.out.items ≡ l.initial.out.items ++ flat_map (call_marks l.draft) (take l.call-index l.calls)
