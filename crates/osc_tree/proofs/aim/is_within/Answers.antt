use Rattle.std.proofs.Common.{◌≤◌, ◌<◌, length, sym, ◌∙◌, ap, nat_lt, rules}
use Rattle.osc_tree.proofs.Onward.{other_end, short_end, long_end}
use Rattle.osc_tree.proofs.aim.is_within.Goals as goal

pub returns-then-not-starts_with : goal.returns-then-not-starts_with
returns-then-not-starts_with c = sym (other_end c.args.rest.now c.args.text.now c.args.end c.requires
    (sym c.starts_with.ensures.value ∙ c.if-not-starts_with.true))

pub returns-in-Some : goal.returns-in-Some
returns-in-Some c =
    let lt : length c.args.text.now < length c.args.rest.now = search rules in
    ap (λ b. nat_lt b c.args.end) c.in-Some.ensures.lookup.1
    ∙ long_end c.args.rest.now c.args.text.now c.args.end c.in-Some.byte.now (sym c.starts_with.ensures.value ∙ c.if-not-starts_with.false) lt

pub returns-in-None : goal.returns-in-None
returns-in-None c =
    let le : length c.args.rest.now ≤ length c.args.text.now = search rules in
    sym (short_end c.args.rest.now c.args.text.now c.args.end (sym c.starts_with.ensures.value ∙ c.if-not-starts_with.false) le)
