use Rattle.std.proofs.Common.{◌≡◌, ◌≤◌, length, arith}
use Rattle.std.proofs.lemmas.Bool.Decides.{nat_tests}
use Rattle.osc_message.proofs.Bracketing.{stray, ended}
use Rattle.osc_message.proofs.brackets.are_balanced.Goals as goal

pub returns-in-93 : goal.returns-in-93
returns-in-93 c =
    let none : c.loop-tag.depth ≡ 0 = grind (arith, nat_tests) in
    stray c.args.tags.now c.loop-tag.tag-index c.loop-tag.depth c.loop-tag.invariant.closes c.loop-tag-test.true c.in-93.is none

pub returns : goal.returns
returns c =
    let all : length c.args.tags.now ≤ c.loop-tag.tag-index = omega arith in
    ended c.args.tags.now c.loop-tag.tag-index c.loop-tag.depth c.loop-tag.invariant.closes all
