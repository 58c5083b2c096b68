use Rattle.std.proofs.Common.{◌≡◌, ◌++◌, ◌∷◌, [], length, vec_capacity, ap, arith, rules}
use Rattle.std.specs.List.{slice_split}
use Rattle.std.specs.Option.{option_to_list}
use Rattle.osc_pattern.specs.Items.{is_comma}
use Rattle.osc_tree.specs.Choosing.{spelled}
use Rattle.osc_tree.specs.Registry.{id_at}
use Rattle.osc_tree.specs.Views.{methods_of}
use Rattle.osc_tree.proofs.Gathered.{chosen_ids, some_text, room_left, room_within, ids_left, last_ids, few_chosen, chain_of, order_of}
use Rattle.osc_tree.proofs.choice.add_chosen.Goals as goal

pub loop-more-init : goal.loop-more-init
loop-more-init c = record {
  ids = ap (λ l. l ++ chosen_ids c.args.methods.now c.args.places.now c.args.choice.now.front.now c.args.choice.now.back.now
      (slice_split is_comma c.args.choice.now.texts.now)) c.requires.empty;
  order = c.requires.texts;
  capacity = omega arith;
}

pub add_text-requires-clause-room : goal.add_text-requires-clause-room
add_text-requires-clause-room c =
    let front = c.args.choice.now.front.now in
    let back = c.args.choice.now.back.now in
    let text = c.first_text.result.0.now in
    let cut = some_text c.loop-more.left.now text c.first_text.result.1 c.first_text.ensures.texts in
    room_within (c.loop-more.ids.items ++ option_to_list (id_at (methods_of c.args.methods.now) (spelled front back text))) (length c.args.places.now)
    (vec_capacity c.args.ids.now) (vec_capacity c.loop-more.ids)
    (room_left c.args.methods.now c.args.places.now front back text c.loop-more.ids.items (slice_split is_comma c.loop-more.left.now) cut.0
    (slice_split is_comma c.args.choice.now.texts.now) c.requires.list c.requires.order cut.1 c.loop-more.invariant.order c.loop-more.invariant.ids)
    c.requires.room c.loop-more.invariant.capacity

pub returns-in_default-clause-ids : goal.returns-in_default-clause-ids
returns-in_default-clause-ids c =
    let text = c.first_text.result.0.now in
    let cut : slice_split is_comma c.loop-more.left.now ≡ text ∷ [] = search rules in
    last_ids c.args.methods.now c.args.places.now c.args.choice.now.front.now c.args.choice.now.back.now text c.loop-more.ids.items c.add_text.new.ids.items
    (slice_split is_comma c.loop-more.left.now) (slice_split is_comma c.args.choice.now.texts.now) c.requires.list c.requires.order cut
    c.loop-more.invariant.order c.add_text.ensures.ids c.loop-more.invariant.ids

pub returns-in_default-clause-len : goal.returns-in_default-clause-len
returns-in_default-clause-len c =
    let text = c.first_text.result.0.now in
    let front = c.args.choice.now.front.now in
    let back = c.args.choice.now.back.now in
    let all = slice_split is_comma c.args.choice.now.texts.now in
    let cut : slice_split is_comma c.loop-more.left.now ≡ text ∷ [] = search rules in
    let those = last_ids c.args.methods.now c.args.places.now front back text c.loop-more.ids.items c.add_text.new.ids.items
    (slice_split is_comma c.loop-more.left.now) all c.requires.list c.requires.order cut
    c.loop-more.invariant.order c.add_text.ensures.ids c.loop-more.invariant.ids in
    omega (arith, ap length those, few_chosen c.args.methods.now c.args.places.now front back all)

pub loop-more-preserved : goal.loop-more-preserved
loop-more-preserved c =
    let text = c.first_text.result.0.now in
    let front = c.args.choice.now.front.now in
    let back = c.args.choice.now.back.now in
    let left = slice_split is_comma c.loop-more.left.now in
    let more = slice_split is_comma c.in-Some.more.now in
    let cut : left ≡ text ∷ more = search rules in
    let so_far = c.loop-more.invariant in
    let grown = c.add_text.ensures.capacity in
    record {
      ids = ids_left c.args.methods.now c.args.places.now front back text c.loop-more.ids.items c.add_text.new.ids.items left more
          (slice_split is_comma c.args.choice.now.texts.now) c.requires.list c.requires.order cut so_far.order c.add_text.ensures.ids so_far.ids;
      order = order_of back text more (chain_of back text left more cut so_far.order);
      capacity = omega (arith, so_far.capacity);
    }
