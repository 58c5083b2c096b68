use Rattle.std.proofs.Common.{◌<◌, [], length, ap, ◌∙◌, arith}
use Rattle.std.specs.List.{list_any}
use Rattle.std.proofs.lemmas.Option.{unwrap_or-slice_get}
use Rattle.osc_pattern.specs.Items.{is_slash}
use Rattle.osc_pattern.specs.Patterns.{parts_of}
use Rattle.osc_pattern.proofs.PatternLaws.{parts_of-no_slash}
use Rattle.osc_tree.proofs.way.find_onward.Goals as goal

pub find_aim-requires-clause-one : goal.find_aim-requires-clause-one
find_aim-requires-clause-one c =
    let parts = parts_of c.args.pattern.now in
    let within : c.args.matching < length parts = omega (arith, c.requires.parts) in
    ap (list_any is_slash) (c.part.ensures ∙ unwrap_or-slice_get parts c.args.matching [])
    ∙ parts_of-no_slash c.args.pattern.now c.args.matching [] within
