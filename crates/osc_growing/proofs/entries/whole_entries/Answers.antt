use Rattle.std.proofs.Common.{◌≡◌, ◌+◌, Some, None, option_map, length, drop, refl, ap, ◌∙◌, arith, length-drop}
use Rattle.osc_record.specs.Reading.{message_first}
use Rattle.osc_record.proofs.Walks.{slice_rest}
use Rattle.osc_growing.proofs.Wholes.{one_more, no_more, none_left, holds_at}
use Rattle.osc_growing.proofs.entries.whole_entries.Goals as goal

pub loop-end-preserved : goal.loop-end-preserved
loop-end-preserved c =
    let end = c.loop-end.end in
    let size = c.in-Some.size in
    let bytes = c.args.bytes.now in
    let found : Some size ≡ option_map (λ entry. 4 + length entry) (message_first (drop end bytes)) =
    c.in-Some.ensures.value ∙ ap (λ l. option_map (λ entry. 4 + length entry) (message_first l)) (slice_rest end bytes) in
    record {
      inside = omega (arith, c.in-Some.ensures.within, length-drop end bytes, c.loop-end.invariant.inside);
      whole = λ count holds.
          holds_at bytes (end + (size + count)) (end + size + count) (omega arith)
          (c.loop-end.invariant.whole (size + count) (one_more bytes end size count found holds));
    }

pub returns-in-None-clause-whole : goal.returns-in-None-clause-whole
returns-in-None-clause-whole c =
    let end = c.loop-end.end in
    let bytes = c.args.bytes.now in
    holds_at bytes (end + 0) end (omega arith)
    (c.loop-end.invariant.whole 0 (no_more (drop end bytes) None refl
    (c.in-None.ensures.value ∙ ap (λ l. option_map (λ entry. 4 + length entry) (message_first l)) (slice_rest end bytes))))

pub returns-clause-whole : goal.returns-clause-whole
returns-clause-whole c =
    let end = c.loop-end.end in
    let bytes = c.args.bytes.now in
    holds_at bytes (end + 0) end (omega arith)
    (c.loop-end.invariant.whole 0 (none_left (drop end bytes) (omega (arith, length-drop end bytes, c.loop-end-test.false))))
