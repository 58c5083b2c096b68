use Rattle.osc_packet.proofs.Bundlings.{opened}
use Rattle.osc_packet.proofs.bundler.Bundler.open.Goals as goal

pub invariant_of-result : goal.invariant_of-result
invariant_of-result c = (opened c.args.tag c.in_ok-bundle_head.field-0.items c.ranges.tag.fits c.in_ok-bundle_head.ensures).kept

pub returns : goal.returns
returns c = (opened c.args.tag c.in_ok-bundle_head.field-0.items c.ranges.tag.fits c.in_ok-bundle_head.ensures).stands
