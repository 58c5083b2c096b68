use Rattle.std.proofs.Common.{◌∙◌, ℕ, ◌+◌, List, [], ◌∷◌, ◌++◌, map, sym, ap, arith}
use Rattle.std.specs.List.{range_with_len}
use Rattle.std.proofs.lemmas.List.FromFn.{map-range_with_len_more}
use Rattle.osc_top.proofs.link_ports.ports_from.Goals as goal

pub loop-link-preserved : goal.loop-link-preserved
loop-link-preserved c =
    let first = c.args.first in
    let link = c.loop-link.link in
    let ports = map (λ (k : ℕ). first + k) (range_with_len 0 link) in
    c.in_ok-push.ensures.items
    ∙ ap (λ (l : List ℕ). l ++ (c.from.result + link) ∷ []) c.loop-link.invariant
    ∙ ap (λ (n : ℕ). ports ++ (n + link) ∷ []) c.from.ensures
    ∙ sym (map-range_with_len_more (λ (k : ℕ). first + k) 0 link link (omega arith))
