use Rattle.std.proofs.Common.{ap, arith, length, ◌∷◌, [], length-append}
use Rattle.osc_script.specs.declared.act.Act.TheVariants.{Add}
use Rattle.osc_script.specs.Adds.{count_adds}
use Rattle.osc_tests_threads.proofs.Counting.{count_push}
use Rattle.osc_tests_threads.proofs.parts.push_add.Goals as goal

pub returns : goal.returns
returns c =
    omega (
      arith,
      c.requires,
      ap count_adds c.in_ok-push-2.ensures.items,
      count_push c.args.part.now.lines.items (record { number = c.args.number; lane = 0; act = Add c.args.address }),
      ap length c.in_ok-push.ensures.items,
      length-append c.args.part.now.boxes.items (c.args.method ∷ []),
    )
