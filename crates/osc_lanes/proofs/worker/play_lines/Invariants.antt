use Rattle.std.proofs.Common.{◌≡◌, ◌≤◌, length, None}
use Rattle.std.specs.Vec.Iter.{into_iter_items}
use Rattle.osc_turn.specs.Passes.{view}
use Rattle.osc_live.specs.Tokens.{IsOurs}
use Rattle.osc_script.specs.Adds.{count_adds}
use Rattle.osc_life.specs.Holders.{seen_by, holder_of}
use Rattle.osc_lanes.specs.Performs.{told_of}
use Rattle.osc_lanes.proofs.Going.{GoesOn}
use Rattle.osc_lanes.proofs.worker.play_lines.Given as goal

abbrev pub invariant-loop-line : goal.invariant-loop-line
invariant-loop-line g l = record {
  ours : IsOurs l.live l.caller;
  holder : holder_of l.live.caps l.caller ≡ holder_of l.live.caps l.fn.caller;
  made : (view l.caller.pass).made ≡ (view l.fn.caller.pass).made;
  handed : count_adds (into_iter_items l.line-iterator) ≤ length (into_iter_items l.lane.boxes);
  begun : l.lane.told.stop ≡ None;
  number : l.lane.number ≡ l.initial.lane.number;
  so_far : GoesOn g.M.Method.keep g.M.Method.heard (holder_of l.live.caps l.fn.caller) l.fn.lines.items (into_iter_items l.initial.lane.boxes)
      (told_of l.initial.lane.told) (seen_by l.fn.caller) (into_iter_items l.line-iterator) (into_iter_items l.lane.boxes) (told_of l.lane.told)
      (seen_by l.caller);
}
