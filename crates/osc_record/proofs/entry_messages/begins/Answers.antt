use Rattle.std.proofs.Common.{refl, arith}
use Rattle.std.proofs.lemmas.Bool.{both_ways}
use Rattle.osc_record.proofs.Compared.{four_differs, four_more, all_same}
use Rattle.osc_record.proofs.entry_messages.begins.Goals as goal

pub loop-at-init : goal.loop-at-init
loop-at-init g c = record { same = refl; within = omega arith; fours = refl }

pub same_four-requires-clause-bytes : goal.same_four-requires-clause-bytes
same_four-requires-clause-bytes g c =
    let fours = c.loop-at.invariant.fours in
    let all = c.requires.fours in
    omega (arith, fours, all, c.loop-at-test.true, c.if-bytes.false)

pub same_four-requires-clause-front : goal.same_four-requires-clause-front
same_four-requires-clause-front g c =
    let fours = c.loop-at.invariant.fours in
    let all = c.requires.fours in
    omega (arith, fours, all, c.loop-at-test.true, c.told-front)

pub returns-then-not-same_four-clause-value : goal.returns-then-not-same_four-clause-value
returns-then-not-same_four-clause-value g c =
    let fours = c.loop-at.invariant.fours in
    let all = c.requires.fours in
    four_differs c.args.bytes.now c.args.front.now c.loop-at.at (omega (arith, fours, all, c.loop-at-test.true, c.told-front))
    (λ same. both_ways c.same_four.result c.if-not-same_four.true (c.same_four.ensures.1 same))

pub loop-at-smaller : goal.loop-at-smaller
loop-at-smaller g c = omega (arith, c.loop-at-test.true)

pub loop-at-preserved : goal.loop-at-preserved
loop-at-preserved g c =
    let fours = c.loop-at.invariant.fours in
    let all = c.requires.fours in
    record {
      same = four_more c.args.bytes.now c.args.front.now c.loop-at.at
          (c.same_four.ensures.0 c.if-not-same_four.false) c.loop-at.invariant.same;
      within = omega (arith, fours, all, c.loop-at-test.true);
      fours = omega (arith, fours);
    }

pub returns-clause-value : goal.returns-clause-value
returns-clause-value g c =
    let within = c.loop-at.invariant.within in
    all_same c.args.bytes.now c.args.front.now c.loop-at.at (omega (arith, within, c.loop-at-test.false, c.told-front)) c.loop-at.invariant.same
