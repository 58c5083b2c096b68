use Rattle.std.proofs.Common.{ℕ, take, ap, ◌∙◌}
use Rattle.std.proofs.lemmas.List.{take_min}
use Rattle.osc_console.proofs.shown_link.front.Goals as goal

pub returns : goal.returns
returns c = ap (λ (n : ℕ). take n c.args.space.now) c.min.ensures ∙ take_min c.args.size c.args.space.now
