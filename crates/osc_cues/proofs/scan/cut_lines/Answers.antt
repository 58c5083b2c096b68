use Rattle.std.proofs.Common.{rules, tests, ◌≡◌, List, ℕ, map, IfOk, subst}
use Rattle.std.proofs.lemmas.Iterator.Consumers.{map_from_collect}
use Rattle.std.proofs.lemmas.Iterator.Splits.{YieldsList-from_slice_split}
use Rattle.std.specs.List.{slice_split}
use Rattle.osc_cues.specs.Words.{is_line_feed}
use Rattle.osc_cues.proofs.Counts.{few_of}
use Rattle.osc_cues.proofs.scan.cut_lines.Goals as goal

pub returns : goal.returns
returns c =
    let lines = map_from_collect _ c.collect.ensures.ran
    (YieldsList-from_slice_split _ is_line_feed c.without_mark.result.now c.split.ensures.rest c.split.ensures.done
    c.split.ensures.closure (λ x r q k. search (rules, tests))) in
    record {
      lines = subst (λ (l : List ℕ). IfOk c.collect.result
          (λ lines. map (λ line. line.now) lines.items ≡ slice_split is_line_feed l)) c.without_mark.ensures.value lines;
      few = few_of c.without_mark.result.now _ c.collect.result c.without_mark.ensures.few lines;
    }
