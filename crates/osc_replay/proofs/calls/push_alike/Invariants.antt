use Rattle.std.proofs.Common.{◌≡◌, ◌++◌, map, take}
use Rattle.osc_replay.specs.Calls.{hits_bytes, call_lines}
use Rattle.osc_model.specs.Calls.{call_by}
use Rattle.osc_print.specs.Lines.{call_end}
use Rattle.osc_replay.proofs.calls.push_alike.Given as goal

abbrev pub invariant-loop-id : goal.invariant-loop-id
invariant-loop-id l = record {
  hits : l.calls.hits.items ≡ l.fn.calls.hits.items ++ hits_bytes (map (call_by l.tree.methods l.call.index l.call.message) (take l.id-index l.ids));
  lines : l.calls.lines ≡ l.fn.calls.lines
      ++ call_lines l.fn.calls.prints l.call.unit (map (call_by l.tree.methods l.call.index l.call.message) (take l.id-index l.ids));
  end : l.calls.end ≡ call_end l.call.message;
  prints : l.calls.prints ≡ l.fn.calls.prints;
}
