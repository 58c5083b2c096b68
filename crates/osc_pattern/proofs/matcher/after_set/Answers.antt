use Rattle.std.proofs.Common.{◌+◌, ◌∷◌, [], length, ap, ◌∙◌, arith}
use Rattle.std.proofs.Math.ListN.{length-append}
use Rattle.std.specs.List.{list_any}
use Rattle.osc_pattern.specs.Items.{set, item_text}
use Rattle.osc_pattern.specs.Cuts.{after_byte}
use Rattle.osc_pattern.specs.Views.{is_place_of}
use Rattle.osc_pattern.specs.ReadyParts.{after_one, is_as}
use Rattle.osc_pattern.proofs.Reaches.{any_rest-same, row_step}
use Rattle.osc_pattern.proofs.ReadOnce.{set_read}
use Rattle.osc_pattern.proofs.matcher.after_set.Goals as goal

pub returns-clause-value : goal.returns-clause-value
returns-clause-value g c test =
    let list = c.args.list.now in
    let own = is_as c.of-set.result.bytes c.of-set.result.within in
    c.after_one.ensures.value test
    ∙ any_rest-same (λ rest. list_any test (after_one own rest)) (λ rest. list_any test (after_byte (set list) rest))
    (λ rest. ap (list_any test) (set_read own list c.of-set.ensures.value rest)) (is_place_of c.args.reached.now) 0 c.args.name.now

pub returns-clause-bounded : goal.returns-clause-bounded
returns-clause-bounded g c =
    let list = c.args.list.now in
    let size = length-append list (93 ∷ []) in
    let row = row_step (length c.args.name.now) (length list + 1) 1 (length (item_text (set list))) (omega arith) in
    omega (arith, c.of-set.ensures.bounded, c.after_one.ensures.bounded)
