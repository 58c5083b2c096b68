use Rattle.std.proofs.Common.{◌<◌, length, map, sym, ◌∙◌, arith}
use Rattle.std.proofs.lemmas.List.{length-map, get_or-map}
use Rattle.osc_core.proofs.Ascents.{nowhere}
use Rattle.osc_core.proofs.boxes.place_of.Goals as goal

pub returns-then-place-boxes : goal.returns-then-place-boxes
returns-then-place-boxes g c =
    let boxes = c.args.boxes.now in
    nowhere (map (λ one. one.0) boxes) c.first_from-place.result c.args.id c.requires c.first_from-place.ensures
    (λ lt same. omega (arith, lt, length-map boxes (λ one. one.0)))

pub returns-then-boxes-place : goal.returns-then-boxes-place
returns-then-boxes-place g c =
    let boxes = c.args.boxes.now in
    let place = c.first_from-place.result in
    nowhere (map (λ one. one.0) boxes) place c.args.id c.requires c.first_from-place.ensures
    (λ lt same.
    let within : place < length boxes = omega (arith, lt, length-map boxes (λ one. one.0)) in
    c.if-boxes-place.true (sym (get_or-map (λ one. one.0) boxes place c.index-boxes-place.result 0 within) ∙ same))
