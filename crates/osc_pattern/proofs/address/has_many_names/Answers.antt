use Rattle.std.proofs.Common.{arith}
use Rattle.std.proofs.lemmas.List.Splits.{length-slice_split}
use Rattle.std.proofs.lemmas.Bool.Decides.{nat_tests}
use Rattle.osc_pattern.specs.Items.{is_slash}
use Rattle.osc_pattern.proofs.address.has_many_names.Goals as goal

pub returns : goal.returns
returns c = grind (arith, nat_tests, length-slice_split is_slash c.args.names.now)
