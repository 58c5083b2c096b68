use Rattle.std.proofs.Common.{arith}
use Rattle.osc_tree.specs.Views.{methods_of}
use Rattle.osc_tree.proofs.Gathered.{too_long}
use Rattle.osc_tree.proofs.choice.chosen_id.Goals as goal

pub returns-then-plain-gt-MAX_ADDRESS : goal.returns-then-plain-gt-MAX_ADDRESS
returns-then-plain-gt-MAX_ADDRESS c =
    too_long (methods_of c.args.methods.now) c.args.choice.now.front.now c.args.choice.now.back.now c.args.text.now c.requires.list (omega arith)

pub returns-then-text-plain : goal.returns-then-text-plain
returns-then-text-plain c =
    too_long (methods_of c.args.methods.now) c.args.choice.now.front.now c.args.choice.now.back.now c.args.text.now c.requires.list (omega arith)
