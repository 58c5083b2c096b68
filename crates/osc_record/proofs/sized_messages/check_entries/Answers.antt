use Rattle.std.proofs.Common.{◌≡◌, Some, drop, sym, ap, ◌∙◌, arith, length-drop}
use Rattle.osc_record.specs.Reading.{entry_first, outcome}
use Rattle.osc_record.specs.Shown.{parts_of}
use Rattle.osc_record.proofs.Walks.{at_none, passed, slice_rest}
use Rattle.osc_record.proofs.sized_messages.check_entries.Goals as goal

pub loop-at-preserved : goal.loop-at-preserved
loop-at-preserved c =
    let at = c.loop-at.at in
    let bytes = c.args.bytes.now in
    let found : entry_first c.args.version c.args.limit at (drop at bytes) ≡ Some (parts_of c.in-Some.field-0-0, c.in-Some.size) =
    ap (entry_first c.args.version c.args.limit at) (sym (slice_rest at bytes)) ∙ sym c.in-Some.ensures.value in
    record {
      inside = omega (arith, c.in-Some.ensures.within, length-drop at bytes);
      same = sym (passed c.args.version c.args.limit at bytes (parts_of c.in-Some.field-0-0, c.in-Some.size) c.loop-at-test.true found)
          ∙ c.loop-at.invariant.same;
    }

pub returns-in-None : goal.returns-in-None
returns-in-None c =
    let at = c.loop-at.at in
    let bytes = c.args.bytes.now in
    sym (ap outcome
    (at_none c.args.version c.args.limit at (drop at bytes) (omega (arith, length-drop at bytes))
    (ap (entry_first c.args.version c.args.limit at) (sym (slice_rest at bytes)) ∙ sym c.in-None.ensures.value))) ∙ c.loop-at.invariant.same
