use Rattle.std.proofs.Common.{◌≡◌, length, rules}
use Rattle.osc_pattern.proofs.ReadOnce.{star_ready}
use Rattle.osc_pattern.proofs.ready.Part.is_star.Goals as goal

pub returns : goal.returns
returns c =
    let none : length c.args.self.now.items.now ≡ 0 = search rules in
    let one : length c.args.self.now.rest.now ≡ 1 = search rules in
    λ is name. star_ready c.args.self.now.items.now c.args.self.now.rest.now name none one is
