use Rattle.std.proofs.Common.{◌||◌, ◌∷◌, ◌-◌, length, take, drop, ap, sym, ◌∙◌, arith}
use Rattle.std.specs.List.{slice_split}
use Rattle.std.proofs.Math.ListN.{get_or}
use Rattle.osc_pattern.specs.Items.{is_comma}
use Rattle.osc_pattern.specs.Views.{is_place_of, passes, texts_left}
use Rattle.osc_pattern.proofs.Repeats.{eight_and_rest}
use Rattle.osc_pattern.proofs.matcher.try_eights.Goals as goal

pub loop-texts-preserved : goal.loop-texts-preserved
loop-texts-preserved g c =
    let texts = c.loop-texts.texts.now in
    let others = take (length texts - 8) (drop 8 texts) in
    let seventh = get_or texts 7 0 ∷ others in
    let sixth = get_or texts 6 0 ∷ seventh in
    let fifth = get_or texts 5 0 ∷ sixth in
    let fourth = get_or texts 4 0 ∷ fifth in
    let third = get_or texts 3 0 ∷ fourth in
    let second = get_or texts 2 0 ∷ third in
    let first = get_or texts 1 0 ∷ second in
    let spelled = eight_and_rest texts c.in-len8-up.len_at_least in
    let size = ap length spelled in
    let all = is_place_of c.args.reached.now in
    let places = is_place_of c.loop-texts.places in
    let next = c.loop-texts.next in
    let so_far = c.loop-texts.invariant in (
      λ name test short marked.
          c.try_byte-in-len8-up-7.ensures.value name others test short marked
          ∙ c.try_byte-in-len8-up-6.ensures.value name seventh test short marked
          ∙ c.try_byte-in-len8-up-5.ensures.value name sixth test short marked
          ∙ c.try_byte-in-len8-up-4.ensures.value name fifth test short marked
          ∙ c.try_byte-in-len8-up-3.ensures.value name fourth test short marked
          ∙ c.try_byte-in-len8-up-2.ensures.value name third test short marked
          ∙ c.try_byte-in-len8-up.ensures.value name second test short marked
          ∙ c.try_byte.ensures.value name first test short marked
          ∙ sym (ap (λ xs. passes test next name || texts_left test places all (slice_split is_comma xs) name) spelled)
          ∙ so_far.0 name test short marked,
      omega (
        arith,
        c.try_byte.ensures.counted,
        c.try_byte-in-len8-up.ensures.counted,
        c.try_byte-in-len8-up-2.ensures.counted,
        c.try_byte-in-len8-up-3.ensures.counted,
        c.try_byte-in-len8-up-4.ensures.counted,
        c.try_byte-in-len8-up-5.ensures.counted,
        c.try_byte-in-len8-up-6.ensures.counted,
        c.try_byte-in-len8-up-7.ensures.counted,
      ),
      omega (
        arith,
        size,
        c.try_byte.ensures.counted,
        c.try_byte-in-len8-up.ensures.counted,
        c.try_byte-in-len8-up-2.ensures.counted,
        c.try_byte-in-len8-up-3.ensures.counted,
        c.try_byte-in-len8-up-4.ensures.counted,
        c.try_byte-in-len8-up-5.ensures.counted,
        c.try_byte-in-len8-up-6.ensures.counted,
        c.try_byte-in-len8-up-7.ensures.counted,
      ),
    )
