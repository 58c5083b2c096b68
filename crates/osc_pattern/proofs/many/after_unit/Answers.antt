use Rattle.std.proofs.Common.{length, sym, ap, ◌∙◌, arith}
use Rattle.std.specs.List.{list_any}
use Rattle.osc_pattern.specs.Items.{item_text}
use Rattle.osc_pattern.specs.Cuts.{after_item}
use Rattle.osc_pattern.specs.Reading.{match_part}
use Rattle.osc_pattern.specs.Repeats.{after_part}
use Rattle.osc_pattern.specs.Views.{item_of}
use Rattle.osc_pattern.proofs.Matches.{match_part-item}
use Rattle.osc_pattern.proofs.Moves.{same_any}
use Rattle.osc_pattern.proofs.Reaches.{first_item-size}
use Rattle.osc_pattern.proofs.Repeats.{part_first, part_end}
use Rattle.osc_pattern.proofs.many.after_unit.Goals as goal

pub loop-item-preserved : goal.loop-item-preserved
loop-item-preserved c =
    let unit = c.loop-item.unit.now in
    let rest = c.loop-item.rest.now in
    let item = item_of c.in-Some.item in
    let others = c.in-Some.others.now in
    let own = item_of c.in_ok-own.own in
    let left = c.in_ok-own.left.now in
    let found = sym c.in-Some.ensures.value in
    let given = sym c.in_ok-own.ensures.value in
    let same = c.is_same.ensures c.if-not-is_same.false in
    let size = first_item-size unit item others found in
    let sizes = first_item-size rest own left given in
    let alike = ap (λ i. length (item_text i)) same in
    let so_far = c.loop-item.invariant in (
      λ name test agrees. so_far.0 name test (λ name.
          part_first test unit item others name found
          ∙ same_any (λ x. list_any test (after_part others x)) (match_part left) agrees (after_item item name)
          ∙ ap (λ i. list_any (match_part left) (after_item i name)) same
          ∙ sym (match_part-item rest own left name given)),
      omega arith,
    )

pub returns-then-rest-part-clause-same : goal.returns-then-rest-part-clause-same
returns-then-rest-part-clause-same c name =
    let unit = c.loop-item.unit.now in
    let rest = c.loop-item.rest.now in
    let empty = sym c.is_empty.ensures ∙ c.if-not-is_empty.false in
    c.loop-item.invariant.0 name (match_part rest) (λ left. part_end (match_part rest) unit left empty)
