use Rattle.std.proofs.Common.{◌≡◌, ◌∙◌, sym, subst, arith}
use Rattle.std.proofs.lemmas.Bool.Decides.{nat_tests}
use Rattle.std.specs.List.{AllByRecursion}
use Rattle.osc_cues.specs.Bundles.{FitsPacket}
use Rattle.osc_cues.proofs.Groups.{room_on}
use Rattle.osc_cues.proofs.bundle.fill.Goals as goal

pub push-requires-clause-room : goal.push-requires-clause-room
push-requires-clause-room c =
    let same : c.in-Some.cue.now.tag ≡ c.args.tag = grind (arith, nat_tests) in
    room_on c.loop-cue.bundler c.in-Some.cue.now c.in-Some.others.now c.loop-cue.rest.now c.as_slice.result.now
    (subst (AllByRecursion FitsPacket) (sym c.loop-cue.invariant.moment) c.requires.fits) c.in-Some.ensures.cases.0
    (same ∙ sym c.loop-cue.invariant.tag) c.as_slice.ensures
