use Rattle.std.proofs.Common.{◌≡◌, ℕ, subst, ◌<◌, ◌≤◌, ◌+◌, ◌-◌, ◌/◌, length, map, get_or, sym, arith}
use Rattle.std.proofs.lemmas.List.{length-map, get_or-map}
use Rattle.osc_core.proofs.Ascents.{still_below, still_above}
use Rattle.osc_core.proofs.boxes.first_from.Goals as goal

pub loop-low-preserved-then-boxes-middle : goal.loop-low-preserved-then-boxes-middle
loop-low-preserved-then-boxes-middle g c =
    let boxes = c.args.boxes.now in
    let ids = map (λ one. one.0) boxes in
    let middle = c.loop-low.low + (c.loop-low.high - c.loop-low.low) / 2 in
    let within : middle < length boxes = omega arith in
    let at : get_or ids middle 0 ≡ (get_or boxes middle c.index-boxes-middle.result).0 =
    get_or-map (λ one. one.0) boxes middle c.index-boxes-middle.result 0 within in
    record {
      order = omega arith;
      within = c.loop-low.invariant.within;
      below = still_below ids middle c.args.id c.requires (omega (arith, length-map boxes (λ one. one.0)))
          (subst (λ (n : ℕ). n < c.args.id) (sym at) c.if-boxes-middle.true);
      above = c.loop-low.invariant.above;
    }

pub loop-low-preserved : goal.loop-low-preserved
loop-low-preserved g c =
    let boxes = c.args.boxes.now in
    let ids = map (λ one. one.0) boxes in
    let middle = c.loop-low.low + (c.loop-low.high - c.loop-low.low) / 2 in
    let within : middle < length boxes = omega arith in
    let at : get_or ids middle 0 ≡ (get_or boxes middle c.index-boxes-middle.result).0 =
    get_or-map (λ one. one.0) boxes middle c.index-boxes-middle.result 0 within in
    record {
      order = omega arith;
      within = omega arith;
      below = c.loop-low.invariant.below;
      above = λ k le lt. still_above ids middle c.args.id c.requires (subst (λ (n : ℕ). c.args.id ≤ n) (sym at) c.if-boxes-middle.false) k le
          (omega (arith, length-map boxes (λ one. one.0)));
    }
