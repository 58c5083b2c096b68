use Rattle.std.proofs.Common.{rules, tests}
use Rattle.std.proofs.lemmas.Iterator.Consumers.{map_from_collect}
use Rattle.std.proofs.lemmas.Iterator.Splits.{YieldsList-from_slice_split}
use Rattle.osc_patch.specs.Words.{is_line_feed}
use Rattle.osc_patch.proofs.Counts.{few_of}
use Rattle.osc_patch.proofs.words.cut_lines.Goals as goal

pub returns : goal.returns
returns c =
    let lines = map_from_collect _ c.collect.ensures.ran
    (YieldsList-from_slice_split _ is_line_feed c.args.bytes.now c.split.ensures.rest c.split.ensures.done c.split.ensures.closure (λ x r q k. search (rules, tests))) in
    record { lines = lines; few = few_of c.args.bytes.now c.collect.result lines }
