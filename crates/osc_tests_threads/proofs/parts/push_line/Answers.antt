use Rattle.std.proofs.Common.{ap, arith}
use Rattle.osc_script.specs.Adds.{count_adds}
use Rattle.osc_tests_threads.proofs.Counting.{count_push}
use Rattle.osc_tests_threads.proofs.parts.push_line.Goals as goal

pub returns : goal.returns
returns c =
    omega (
      arith,
      c.requires.whole,
      c.requires.none,
      ap count_adds c.in_ok-push.ensures.items,
      count_push c.args.part.now.lines.items (record { number = c.args.number; lane = 0; act = c.args.act }),
    )
