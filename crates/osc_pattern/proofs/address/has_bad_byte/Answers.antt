-- The parts that `split` gives are those of `slice_split`, and `any` tests each.
use Rattle.std.proofs.Common.{rules, tests}
use Rattle.std.specs.List.{list_any}
use Rattle.std.proofs.lemmas.Iterator.Search.{any_from_yields_List}
use Rattle.std.proofs.lemmas.Iterator.Splits.{YieldsList-from_slice_split}
use Rattle.osc_pattern.specs.Items.{is_slash}
use Rattle.osc_pattern.specs.Addresses.{is_bad_byte}
use Rattle.osc_pattern.proofs.address.has_bad_byte.Goals as goal

pub returns : goal.returns
returns c =
    any_from_yields_List (list_any is_bad_byte) _ _ _ c.any.ensures.ran
    (YieldsList-from_slice_split _ is_slash c.args.names.now c.split.ensures.rest c.split.ensures.done c.split.ensures.closure
    (λ x b q k. search (rules, tests)))
    (λ x b q k. search (rules, tests))
