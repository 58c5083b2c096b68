use Rattle.std.proofs.Common.{ℕ, take, ap, ◌∙◌}
use Rattle.std.proofs.lemmas.List.{take_min}
use Rattle.osc_shown.proofs.called.front_places.Goals as goal

pub returns : goal.returns
returns c = ap (λ (n : ℕ). take n c.args.places.now) c.min.ensures ∙ take_min 3 c.args.places.now
