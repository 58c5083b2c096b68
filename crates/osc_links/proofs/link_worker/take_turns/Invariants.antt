use Rattle.std.proofs.Common.{◌≡◌, length}
use Rattle.osc_edge.specs.declared.limits.TheConstants.{MAX_DATAGRAM}
use Rattle.osc_turn.specs.Passes.{view}
use Rattle.osc_live.specs.Seen.{IsTokenOf}
use Rattle.osc_life.specs.Holders.{seen_by, holder_of}
use Rattle.osc_links.specs.Links.{IsOpen}
use Rattle.osc_links.proofs.Turning.{TurnsGoOn}
use Rattle.osc_links.proofs.link_worker.take_turns.Given as goal

abbrev pub invariant-loop : goal.invariant-loop
invariant-loop g l = record {
  ours : IsTokenOf l.live.turn l.live.caps l.opened.caller.pass;
  holder : holder_of l.live.caps l.opened.caller ≡ holder_of l.live.caps l.fn.opened.caller;
  made : (view l.opened.caller.pass).made ≡ (view l.fn.opened.caller.pass).made;
  space : length l.space ≡ MAX_DATAGRAM;
  within : IsOpen l.bounds l.taken l.quiets;
  count : g.L.Link.faults l.opened.from ≡ g.L.Link.faults l.initial.opened.from;
  goes : TurnsGoOn g.M.Method.keep g.M.Method.heard (holder_of l.live.caps l.fn.opened.caller) l.bounds l.fn.opened.faults.items (g.L.Link.left l.initial.opened.from)
      (seen_by l.fn.opened.caller) l.taken l.quiets l.opened.faults.items (g.L.Link.left l.opened.from) (seen_by l.opened.caller);
}
