use Rattle.std.proofs.Common.{List, length, refl, ap, sym, subst, arith}
use Rattle.std.specs.List.{flat_map}
use Rattle.osc_message.specs.Messages.{Argument, IsMessage, atom_of}
use Rattle.osc_c.proofs.Places.{fits}
use Rattle.osc_c.proofs.message.osc_message_read.Goals as goal

pub first_place-requires : goal.first_place-requires
first_place-requires c = (fits 65504 c.in-Ok.message (subst (IsMessage 65504) (sym c.in-Ok.ensures.ok) (c.in-Ok.ensures.exact.0 refl))).place

pub fill-requires-clause-inside : goal.fill-requires-clause-inside
fill-requires-clause-inside c =
    let fit = fits 65504 c.in-Ok.message (subst (IsMessage 65504) (sym c.in-Ok.ensures.ok) (c.in-Ok.ensures.exact.0 refl)) in
    omega (arith, fit.inside, c.first_place.ensures, ap (λ (l : List Argument). length (flat_map atom_of l)) c.args-in-Ok.ensures)

pub fill-requires-clause-few : goal.fill-requires-clause-few
fill-requires-clause-few c =
    let fit = fits 65504 c.in-Ok.message (subst (IsMessage 65504) (sym c.in-Ok.ensures.ok) (c.in-Ok.ensures.exact.0 refl)) in
    omega (arith, fit.few, ap (λ (l : List Argument). length l) c.args-in-Ok.ensures)
