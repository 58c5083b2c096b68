use Rattle.std.proofs.Common.{◌≡◌, List, ℕ, length, Option}
use Rattle.osc_edge.specs.declared.limits.TheConstants.{MAX_DATAGRAM}
use Rattle.osc_model.specs.History.{Performance}
use Rattle.osc_uses.specs.Light.{ServesLight}
use Rattle.osc_uses.proofs.light.serve_light.Given as goal

-- what the turns that are left do is what all of them do
abbrev pub invariant-loop : goal.invariant-loop
invariant-loop g l = record {
  space : length l.space ≡ MAX_DATAGRAM;
  ahead : (left : Option (List (Option (List ℕ)))) (after : Performance)
      → ServesLight (g.L.Link.left l.link) left l.core.performance after
      → ServesLight (g.L.Link.left l.initial.link) left l.initial.core.performance after;
}
