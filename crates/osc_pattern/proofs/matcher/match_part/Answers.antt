use Rattle.std.proofs.Common.{◌≡◌, rules, ◌&&◌, ◌==◌, ◌+◌, ◌-◌, ◌*◌, true, false, length, take, drop, sym, ap, ◌∙◌, arith}
use Rattle.std.proofs.Math.ListN.{get_or}
use Rattle.osc_pattern.specs.Items.{item_text}
use Rattle.osc_pattern.specs.Cuts.{has_byte}
use Rattle.osc_pattern.specs.Views.{item_of}
use Rattle.osc_pattern.proofs.Matches.{match_part-stuck, own_byte, other_byte, no_byte, star_at_end}
use Rattle.osc_pattern.proofs.Reaches.{first_item-size, row_step, first_and_rest, no_rest}
use Rattle.osc_pattern.proofs.matcher.match_part.Goals as goal

pub returns-then-is_empty-clause-value : goal.returns-then-is_empty-clause-value
returns-then-is_empty-clause-value g c =
    let name = c.loop-item.name.now in
    let stuck = match_part-stuck c.loop-item.part.now name (sym c.in_default.ensures.value) in
    let empty = sym c.is_empty.ensures ∙ c.if-is_empty.true in
    c.is_empty-then-is_empty.ensures ∙ sym (stuck ∙ ap (λ t. t && length name == 0) empty) ∙ c.loop-item.invariant.0

pub returns-else-is_empty-clause-value : goal.returns-else-is_empty-clause-value
returns-else-is_empty-clause-value g c =
    let name = c.loop-item.name.now in
    let stuck = match_part-stuck c.loop-item.part.now name (sym c.in_default.ensures.value) in
    let filled = sym c.is_empty.ensures ∙ c.if-is_empty.false in
    c.if-is_empty.false ∙ sym (stuck ∙ ap (λ t. t && length name == 0) filled) ∙ c.loop-item.invariant.0

pub returns-in_default-name : goal.returns-in_default-name
returns-in_default-name g c =
    let ticked = c.tick.ensures in
    let so_far = c.loop-item.invariant in
    let empty = no_rest c.loop-item.name.now c.in_default-name.len_below in
    let none = no_byte c.loop-item.part.now c.in-Some.item c.in-Some.others.now c.loop-item.name.now (sym c.in-Some.ensures.value) c.in-Any.is empty in
    record {
      value = sym none ∙ so_far.0;
      begun = omega arith;
      bounded = omega arith;
    }

pub returns-then-not-has_byte : goal.returns-then-not-has_byte
returns-then-not-has_byte g c =
    let item = item_of c.in-Some.item in
    let part = c.loop-item.part.now in
    let others = c.in-Some.others.now in
    let name = c.loop-item.name.now in
    let found = sym c.in-Some.ensures.value in
    let spelled = first_and_rest name 0 c.in-len1-up.len_at_least in
    let differs : has_byte item (get_or name 0 0) ≡ false = sym c.has_byte.ensures.value ∙ c.if-not-has_byte.true in
    let ticked = c.tick.ensures in
    let so_far = c.loop-item.invariant in
    let more = c.has_byte.ensures.counted in
    let most = c.has_byte.ensures.bounded in
    let row = row_step (length name) (length (item_text item)) (length others) (length part) (first_item-size part item others found) in
    record {
      value = sym (other_byte part c.in-Some.item others name (get_or name 0 0) (take (length name - 1) (drop 1 name)) found c.in-Any.is spelled differs)
          ∙ so_far.0;
      begun = omega arith;
      bounded = omega arith;
    }

pub loop-item-preserved : goal.loop-item-preserved
loop-item-preserved g c =
    let item = item_of c.in-Some.item in
    let part = c.loop-item.part.now in
    let others = c.in-Some.others.now in
    let name = c.loop-item.name.now in
    let rest = take (length name - 1) (drop 1 name) in
    let found = sym c.in-Some.ensures.value in
    let spelled = first_and_rest name 0 c.in-len1-up.len_at_least in
    let has : has_byte item (get_or name 0 0) ≡ true = sym c.has_byte.ensures.value ∙ c.if-not-has_byte.false in
    let ticked = c.tick.ensures in
    let so_far = c.loop-item.invariant in
    let more = c.has_byte.ensures.counted in
    let most = c.has_byte.ensures.bounded in
    let row = row_step (length name) (length (item_text item)) (length others) (length part) (first_item-size part item others found) in
    let size : length name ≡ 1 + length rest = omega (arith, ap length spelled) in
    let same : (length rest + 1) * length others ≡ length name * length others = ap (λ n. n * length others) (omega arith) in (
      sym (own_byte part c.in-Some.item others name (get_or name 0 0) rest found c.in-Any.is spelled has) ∙ so_far.0,
      omega arith,
      omega arith,
      omega arith,
    )

pub returns-then-is_empty-2-clause-value : goal.returns-then-is_empty-2-clause-value
returns-then-is_empty-2-clause-value g c =
    let others = c.in-Some.others.now in
    let none : length others ≡ 0 = search rules in
    c.if-is_empty-2.true
    ∙ sym (star_at_end c.loop-item.part.now others c.loop-item.name.now c.in-Some.item (sym c.in-Some.ensures.value) c.in-Star.is none)
    ∙ c.loop-item.invariant.0
