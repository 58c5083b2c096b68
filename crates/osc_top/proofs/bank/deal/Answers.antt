use Rattle.std.proofs.Common.{arith, rules}
use Rattle.std.proofs.lemmas.List.{length-map}
use Rattle.osc_lanes.specs.Performs.{part_of}
use Rattle.osc_turn.proofs.Histories.{none_long}
use Rattle.osc_top.proofs.Dealt.{dealing_begins, next_lane, next_handed, deals_on, all_parts, all_others}
use Rattle.osc_top.proofs.bank.deal.Goals as goal

pub loop-line-init : goal.loop-line-init
loop-line-init g c =
    dealing_begins c.args.lines.items _ c.args.bank.items _ _ (search rules) (search rules) (search rules) c.requires.enough

pub deal_line-requires-clause-lane : goal.deal_line-requires-clause-lane
deal_line-requires-clause-lane g c =
    let next = next_lane c.args.lines.items c.args.bank.items _ _ _ c.in-Some.line _ c.loop-line.invariant c.in-Some.ensures.steps.0 in
    omega (arith, next, length-map c.loop-line.parts.items part_of)

pub deal_line-requires-clause-handed : goal.deal_line-requires-clause-handed
deal_line-requires-clause-handed g c = next_handed c.args.lines.items c.args.bank.items _ _ _ c.in-Some.line _ c.loop-line.invariant c.in-Some.ensures.steps.0

pub loop-line-preserved : goal.loop-line-preserved
loop-line-preserved g c =
    let done = c.in_ok-deal_line.ensures in
    deals_on c.args.lines.items c.args.bank.items _ _ _ c.in-Some.line _ c.loop-line.invariant c.in-Some.ensures.steps.0 _ _ done.parts done.rest

pub returns-clause-parts : goal.returns-clause-parts
returns-clause-parts g c =
    all_parts c.args.lines.items _ c.args.bank.items _ _ c.loop-line.invariant
    (none_long _ (omega (arith, c.in-None.ensures.steps.0, c.loop-line.line-iterator.rest.ok.0)))

pub returns-clause-rest : goal.returns-clause-rest
returns-clause-rest g c =
    all_others c.args.lines.items _ c.args.bank.items _ _ c.loop-line.invariant
    (none_long _ (omega (arith, c.in-None.ensures.steps.0, c.loop-line.line-iterator.rest.ok.0)))
