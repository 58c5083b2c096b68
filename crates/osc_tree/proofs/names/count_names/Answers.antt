use Rattle.std.proofs.Common.{arith}
use Rattle.std.proofs.lemmas.List.Splits.{length-slice_split}
use Rattle.osc_pattern.specs.Items.{is_slash}
use Rattle.osc_tree.proofs.names.count_names.Goals as goal

pub returns : goal.returns
returns c = record { count = omega (arith, c.count_slashes.ensures, length-slice_split is_slash c.args.names.now) }
