use Rattle.std.proofs.Common.{rules}
use Rattle.std.proofs.lemmas.List.Sorted.{IsNonDecreasingBy-from_sort_by_key}
use Rattle.osc_player.proofs.performance.sort_by_id.Goals as goal

pub returns-clause-ascending : goal.returns-clause-ascending
returns-clause-ascending g c = IsNonDecreasingBy-from_sort_by_key (λ one. one.0) _ c.in_ok-sort_by_key.ensures.sorted (λ a r q k. search rules)
