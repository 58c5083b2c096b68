use Rattle.std.proofs.Common.{ℕ, List, ◌∷◌, ◌++◌, ap, ◌∙◌}
use Rattle.std.proofs.lemmas.Result.{on_ok_weaker}
use Rattle.osc_shown.specs.Places.{hits}
use Rattle.osc_shown.proofs.Listing.{hit_said}
use Rattle.osc_shown.proofs.destination.add_hit.Goals as goal

pub returns-in-Some : goal.returns-in-Some
returns-in-Some c =
    let pattern = c.args.pattern.now in
    let more = hits pattern c.in-Some.field-0-1.now in
    on_ok_weaker c.add_between.result
    (hit_said c.args.hit.now c.args.goes_on (hits pattern c.args.after.now) (c.in-Some.next.now ∷ more) c.args.out.now.items
    c.add.new.out.items c.add_between.new.out.items c.in-Some.ensures.some
    (c.in_ok-add.ensures ∙ ap (λ (l : List ℕ). c.args.out.now.items ++ l) c.bytes.ensures.value))
    (c.add_between.ensures more)
