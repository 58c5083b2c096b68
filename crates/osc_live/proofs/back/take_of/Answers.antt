use Rattle.std.proofs.Common.{rules, ◌≡◌, ◌≢◌, ℕ, ◌-◌, ◌<◌, length, get_or, drop, refl, sym, ap, subst, ◌∙◌, arith, Some}
use Rattle.osc_live.specs.Redone.{TakesOut}
use Rattle.std.specs.List.{AllByRecursion}
use Rattle.osc_live.proofs.Backs.{taken_out, none_out, all_dropped, none_more, default_free}
use Rattle.osc_live.proofs.back.take_of.Goals as goal

pub loop-place-init : goal.loop-place-init
loop-place-init g c = record {
  within = omega (arith, c.len-place.ensures);
  same = refl;
  none = all_dropped _ c.args.boxes.now.items c.len-place.result (omega (arith, c.len-place.ensures, c.args.boxes.now.ok));
}

pub returns-then-index-id : goal.returns-then-index-id
returns-then-index-id g c =
    let inv = c.loop-place.invariant in
    let within = inv.within in
    let some : 0 < c.loop-place.place = search rules in
    let at : c.remove.result ≡ get_or c.loop-place.boxes.items (c.loop-place.place - 1) c.remove.result = search rules in
    let seen : c.index.result.now ≡ get_or c.loop-place.boxes.items (c.loop-place.place - 1) c.index.result.now = search rules in
    let test : c.index.result.now.0 ≡ c.args.id = search rules in
    let there : c.loop-place.place - 1 < length c.loop-place.boxes.items = omega (arith, within, some, c.loop-place.boxes.ok) in
    let found : c.remove.result ≡ c.index.result.now =
    at ∙ (default_free c.loop-place.boxes.items (c.loop-place.place - 1) c.remove.result c.index.result.now there ∙ sym seen) in
    let same : c.remove.result.0 ≡ c.args.id = ap (λ x. x.0) found ∙ test in
    let items = ap (λ b. b.items) inv.same in
    subst (λ l. TakesOut c.args.id l c.remove.new.self.items (Some c.remove.result.1)) items
    (taken_out c.args.id c.loop-place.boxes.items c.remove.new.self.items (c.loop-place.place - 1) c.remove.result
    (omega (arith, within, some, c.loop-place.boxes.ok)) at same c.remove.ensures.items)

pub loop-place-preserved : goal.loop-place-preserved
loop-place-preserved g c =
    let inv = c.loop-place.invariant in
    let within = inv.within in
    let some : 0 < c.loop-place.place = search rules in
    let other : (get_or c.loop-place.boxes.items (c.loop-place.place - 1) c.index.result.now).0 ≢ c.args.id = search rules in
    record {
      within = omega arith;
      same = inv.same;
      none = none_more _ c.loop-place.boxes.items (c.loop-place.place - 1) c.loop-place.place c.index.result.now (omega arith)
          (omega (arith, within, some, c.loop-place.boxes.ok)) other inv.none;
    }

pub returns : goal.returns
returns g c =
    let inv = c.loop-place.invariant in
    let none : c.loop-place.place ≡ 0 = search rules in
    let items = ap (λ b. b.items) inv.same in (
      none_out c.args.id c.args.boxes.now.items (subst (λ l. AllByRecursion (λ one. one.0 ≢ c.args.id) l) items
          (subst (λ (n : ℕ). AllByRecursion (λ one. one.0 ≢ c.args.id) (drop n c.loop-place.boxes.items)) none inv.none)),
      items,
    )
