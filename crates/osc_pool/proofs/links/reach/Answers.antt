use Rattle.std.proofs.Common.{◌≡◌, ◌-◌, ◌≤◌, ◌++◌, ℕ, length, replicate, vec_len, ap, ◌∙◌, arith}
use Rattle.std.proofs.lemmas.List.{take_all}
use Rattle.osc_pool.specs.Paths.{zeros, filled_up}
use Rattle.osc_pool.proofs.Reached.{filled_more}
use Rattle.osc_pool.proofs.links.reach.Goals as goal

pub returns-clause-same : goal.returns-clause-same
returns-clause-same c limit within few =
    let blocks = c.args.blocks.now.items in
    let short : length blocks ≤ c.args.count = omega (arith, c.len.ensures, c.if-len-count.false) in
    let more : c.args.count - vec_len c.args.blocks.now ≡ c.args.count - length blocks = omega arith in
    ap (filled_up limit) (c.in-Ok.ensures.items ∙ ap (λ l. l ++ replicate (c.args.count - vec_len c.args.blocks.now) zeros)
    (take_all c.args.count blocks short))
    ∙ ap (λ (n : ℕ). filled_up limit (blocks ++ replicate n zeros)) more ∙ filled_more limit c.args.count blocks within short
