use Rattle.std.proofs.Common.{◌≡◌, ◌-◌, length, drop, Some, refl, ap, ◌∙◌, arith, rules, add-one}
use Rattle.std.proofs.lemmas.List.{length-drop}
use Rattle.osc_packet.specs.Packets.{effective_tag}
use Rattle.osc_packet.specs.Wants.{part}
use Rattle.osc_packet.specs.Contents.{own_fault}
use Rattle.osc_packet.specs.Reading.{bundle_tag, body_fault, messages_in}
use Rattle.osc_packet.specs.Walks.{bundle_at, IsNext}
use Rattle.osc_packet.proofs.Parts.{part_length}
use Rattle.osc_packet.proofs.Entering.{entered}
use Rattle.osc_packet.proofs.walk.next_unit.Goals as goal

pub bundle_tag-requires : goal.bundle_tag-requires
bundle_tag-requires c =
    let sized : length c.args.walk.now.bundles ≡ 16 = search (rules, c.fits-walk) in
    let next : IsNext c.args.bytes.now c.args.walk.now.bundles c.args.walk.now.depth c.args.walk.now.place c.in_ok-found.found = c.in_ok-found.ensures in
    let step = entered c.args.bytes.now c.args.walk.now.bundles c.args.walk.now.depth c.args.walk.now.place c.in_ok-found.found
    (effective_tag (Some (bundle_at c.args.walk.now.bundles (c.in_ok-found.found.depth - 1)).tag)
    (bundle_tag (part c.args.bytes.now c.in_ok-found.found.place c.in_ok-found.found.end))) sized next refl in
    step.long

pub bounds-walk-found-2 : goal.bounds-walk-found-2
bounds-walk-found-2 c =
    let sized : length c.args.walk.now.bundles ≡ 16 = search (rules, c.fits-walk) in
    let next : IsNext c.args.bytes.now c.args.walk.now.bundles c.args.walk.now.depth c.args.walk.now.place c.in_ok-found.found = c.in_ok-found.ensures in
    let step = entered c.args.bytes.now c.args.walk.now.bundles c.args.walk.now.depth c.args.walk.now.place c.in_ok-found.found
    (effective_tag (Some (bundle_at c.args.walk.now.bundles (c.in_ok-found.found.depth - 1)).tag)
    (bundle_tag (part c.args.bytes.now c.in_ok-found.found.place c.in_ok-found.found.end))) sized next refl in
    step.shallow

pub bundle_elements-requires : goal.bundle_elements-requires
bundle_elements-requires c =
    let sized : length c.args.walk.now.bundles ≡ 16 = search (rules, c.fits-walk) in
    let next : IsNext c.args.bytes.now c.args.walk.now.bundles c.args.walk.now.depth c.args.walk.now.place c.in_ok-found.found = c.in_ok-found.ensures in
    let step = entered c.args.bytes.now c.args.walk.now.bundles c.args.walk.now.depth c.args.walk.now.place c.in_ok-found.found
    (effective_tag (Some (bundle_at c.args.walk.now.bundles (c.in_ok-found.found.depth - 1)).tag)
    (bundle_tag (part c.args.bytes.now c.in_ok-found.found.place c.in_ok-found.found.end))) sized next refl in
    step.long

pub new-requires : goal.new-requires
new-requires c =
    let sized : length c.args.walk.now.bundles ≡ 16 = search (rules, c.fits-walk) in
    let next : IsNext c.args.bytes.now c.args.walk.now.bundles c.args.walk.now.depth c.args.walk.now.place c.in_ok-found.found = c.in_ok-found.ensures in
    let step = entered c.args.bytes.now c.args.walk.now.bundles c.args.walk.now.depth c.args.walk.now.place c.in_ok-found.found
    (effective_tag (Some (bundle_at c.args.walk.now.bundles (c.in_ok-found.found.depth - 1)).tag)
    (bundle_tag (part c.args.bytes.now c.in_ok-found.found.place c.in_ok-found.found.end))) sized next refl in
    let whole : c.bundle_elements.result.now
    ≡ drop 16 (part c.args.bytes.now c.in_ok-found.found.place c.in_ok-found.found.end)
    = c.bundle_elements.ensures in (
      ap (body_fault own_fault 0) whole ∙ step.sound,
      omega (
        arith,
        ap length whole,
        length-drop 16 (part c.args.bytes.now c.in_ok-found.found.place c.in_ok-found.found.end),
        part_length c.args.bytes.now
            c.in_ok-found.found.place c.in_ok-found.found.end next.inside,
      ),
    )

pub returns-clause-walk : goal.returns-clause-walk
returns-clause-walk c =
    let sized : length c.args.walk.now.bundles ≡ 16 = search (rules, c.fits-walk) in
    let next : IsNext c.args.bytes.now c.args.walk.now.bundles c.args.walk.now.depth c.args.walk.now.place c.in_ok-found.found = c.in_ok-found.ensures in
    let tag_is : c.bundle_tag.result ≡ bundle_tag (part c.args.bytes.now c.in_ok-found.found.place c.in_ok-found.found.end) = c.bundle_tag.ensures in
    let is : c.effective_tag-tag.result
    ≡ (effective_tag (Some (bundle_at c.args.walk.now.bundles (c.in_ok-found.found.depth - 1)).tag)
    (bundle_tag (part c.args.bytes.now c.in_ok-found.found.place c.in_ok-found.found.end))) = c.effective_tag-tag.ensures
    ∙ ap (effective_tag (Some (bundle_at c.args.walk.now.bundles (c.in_ok-found.found.depth - 1)).tag)) tag_is in
    let step = entered c.args.bytes.now c.args.walk.now.bundles c.args.walk.now.depth c.args.walk.now.place c.in_ok-found.found c.effective_tag-tag.result sized
    next is in
    rw add-one step.walk

pub returns-clause-few : goal.returns-clause-few
returns-clause-few c =
    let sized : length c.args.walk.now.bundles ≡ 16 = search (rules, c.fits-walk) in
    let next : IsNext c.args.bytes.now c.args.walk.now.bundles c.args.walk.now.depth c.args.walk.now.place c.in_ok-found.found = c.in_ok-found.ensures in
    let step = entered c.args.bytes.now c.args.walk.now.bundles c.args.walk.now.depth c.args.walk.now.place c.in_ok-found.found
    (effective_tag (Some (bundle_at c.args.walk.now.bundles (c.in_ok-found.found.depth - 1)).tag)
    (bundle_tag (part c.args.bytes.now c.in_ok-found.found.place c.in_ok-found.found.end))) sized next refl in
    omega (arith, step.shallow)

pub returns-clause-units : goal.returns-clause-units
returns-clause-units c =
    let sized : length c.args.walk.now.bundles ≡ 16 = search (rules, c.fits-walk) in
    let next : IsNext c.args.bytes.now c.args.walk.now.bundles c.args.walk.now.depth c.args.walk.now.place c.in_ok-found.found = c.in_ok-found.ensures in
    let tag_is : c.bundle_tag.result ≡ bundle_tag (part c.args.bytes.now c.in_ok-found.found.place c.in_ok-found.found.end) = c.bundle_tag.ensures in
    let is : c.effective_tag-tag.result
    ≡ (effective_tag (Some (bundle_at c.args.walk.now.bundles (c.in_ok-found.found.depth - 1)).tag)
    (bundle_tag (part c.args.bytes.now c.in_ok-found.found.place c.in_ok-found.found.end))) = c.effective_tag-tag.ensures
    ∙ ap (effective_tag (Some (bundle_at c.args.walk.now.bundles (c.in_ok-found.found.depth - 1)).tag)) tag_is in
    let step = entered c.args.bytes.now c.args.walk.now.bundles c.args.walk.now.depth c.args.walk.now.place c.in_ok-found.found c.effective_tag-tag.result sized
    next is in
    let whole : c.bundle_elements.result.now ≡ drop 16 (part c.args.bytes.now c.in_ok-found.found.place c.in_ok-found.found.end) = c.bundle_elements.ensures in
    let unit_is : c.new.result
    ≡ record {
      tag = c.effective_tag-tag.result;
      messages = messages_in (drop 16 (part c.args.bytes.now c.in_ok-found.found.place c.in_ok-found.found.end));
    } =
    c.new.ensures ∙ (λ i. record { tag = c.effective_tag-tag.result; messages = messages_in (whole i) }) in
    rw (add-one, unit_is) step.units
