use Rattle.std.proofs.Common.{◌+◌, ◌-◌, length, take, drop, sym, ◌∙◌, arith}
use Rattle.osc_pattern.specs.Views.{is_place_of}
use Rattle.osc_pattern.specs.ReadyParts.{match_ready, all_ready_size}
use Rattle.osc_pattern.proofs.Reaches.{any_rest-none}
use Rattle.osc_pattern.proofs.ReadOnce.{first_ready, ready_spent}
use Rattle.osc_pattern.proofs.Moves.{rows_less}
use Rattle.osc_pattern.proofs.matcher.match_items.Goals as goal

pub loop-items-init : goal.loop-items-init
loop-items-init g c = (
  c.first_place-reached.ensures (match_ready c.args.part.items.now c.args.part.rest.now) c.args.name.now,
  omega arith,
  omega arith,
)

pub returns-then-is_empty-clause-value : goal.returns-then-is_empty-clause-value
returns-then-is_empty-clause-value g c =
    sym (any_rest-none (match_ready c.loop-items.items.now c.args.part.rest.now) (is_place_of c.loop-items.reached)
    (c.is_empty.ensures c.if-is_empty.true) 0 c.args.name.now)
    ∙ c.loop-items.invariant.0

pub loop-items-preserved : goal.loop-items-preserved
loop-items-preserved g c =
    let items = c.loop-items.items.now in
    let others = take (length items - 1) (drop 1 items) in
    let rest = c.args.part.rest.now in
    let name = c.args.name.now in
    let some = c.in-len1-up.len_at_least in
    let more = c.places_after_ready-reached.ensures.counted in
    let most = c.places_after_ready-reached.ensures.bounded in
    let so_far = c.loop-items.invariant in (
      c.places_after_ready-reached.ensures.value (match_ready others rest)
          ∙ sym (first_ready items _ rest name (is_place_of c.loop-items.reached) some) ∙ so_far.0,
      omega arith,
      ready_spent items _ (length name + 1) (length rest) _ _ _ some most so_far.2,
    )

pub returns-clause-bounded : goal.returns-clause-bounded
returns-clause-bounded g c =
    let places = length c.args.name.now + 1 in
    let items = c.loop-items.items.now in
    let rest = length c.args.part.rest.now in
    let ticked = c.tick.ensures in
    let so_far = c.loop-items.invariant in
    let less = rows_less places rest (all_ready_size items + rest) (omega arith) in
    omega (arith, c.match_choices.ensures.bounded)
