use Rattle.osc_cues.proofs.Groups.{first_room}
use Rattle.osc_cues.proofs.bundle.first_bundle.Goals as goal

pub push-requires-clause-room : goal.push-requires-clause-room
push-requires-clause-room c =
    first_room c.in_ok-bundler.bundler c.args.first.now c.args.cues.now c.as_slice.result.now c.in_ok-bundler.ensures c.as_slice.ensures
    c.requires.fits
