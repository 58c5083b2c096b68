use Rattle.std.proofs.Common.{◌∙◌, ℕ, List, Bor, map, ap}
use Rattle.osc_cues.specs.declared.limits.TheConstants.{MAX_SHEET}
use Rattle.osc_cues.proofs.Counts.{short_line}
use Rattle.osc_cues.proofs.sheet.read_lines.Goals as goal

pub read_line-requires-clause-short : goal.read_line-requires-clause-short
read_line-requires-clause-short c =
    short_line c.args.bytes.now c.deref-text-items.result.now c.loop-text.text-index MAX_SHEET _ _ c.without_return.ensures.few
    (ap (λ (l : List (Bor (List ℕ))). map (λ (line : Bor (List ℕ)). line.now) l) c.deref-text-items.ensures.value
    ∙ c.in_ok-lines.ensures.lines)
    c.loop-text-test.true c.requires
