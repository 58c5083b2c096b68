use Rattle.std.proofs.Common.{length, drop, ap, ◌∙◌, arith}
use Rattle.osc_core.specs.Invoked.{calls_in}
use Rattle.osc_core.proofs.sequential.Core.calls_from.Goals as goal

pub calls_from-requires : goal.calls_from-requires
calls_from-requires g c = let within = c.args.self.now.within in omega (arith, within, ap length c.bytes.ensures.text)

pub returns : goal.returns
returns g c =
    let core = c.args.self.now in
    c.calls_from.ensures ∙ ap (drop c.args.first) (ap (calls_in core.last) c.bytes.ensures.text ∙ core.calls)
