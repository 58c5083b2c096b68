use Rattle.std.proofs.Common.{arith}
use Rattle.osc_tree.proofs.InOrder.{order_length}
use Rattle.osc_tree.proofs.matches.find_ids.Goals as goal

pub add_guessed-requires-clause-room : goal.add_guessed-requires-clause-room
add_guessed-requires-clause-room g c =
    omega (arith, order_length c.args.methods.now c.args.places.now c.requires.order, c.requires.room, c.clear.ensures.capacity)

pub returns-then-add_guessed-clause-len : goal.returns-then-add_guessed-clause-len
returns-then-add_guessed-clause-len g c =
    omega (arith, order_length c.args.methods.now c.args.places.now c.requires.order, c.add_guessed.ensures.len)
