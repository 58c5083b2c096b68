use Rattle.std.proofs.Common.{take}
use Rattle.std.specs.List.{flat_map}
use Rattle.json.specs.Tree.{json_tokens}
use Rattle.osc_page.specs.States.{row_json}
use Rattle.osc_page.specs.Added.{Adds}
use Rattle.osc_page.proofs.states.write_each_row.Given as goal

abbrev pub invariant-loop-one : goal.invariant-loop-one
invariant-loop-one l = Adds l.fn.out l.out (flat_map (λ one. json_tokens (row_json one)) (take l.one-index l.rows))
