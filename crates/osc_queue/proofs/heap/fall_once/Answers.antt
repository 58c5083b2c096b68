use Rattle.osc_queue.proofs.Shifting.{sinks_on}
use Rattle.osc_queue.proofs.heap.fall_once.Goals as goal

pub returns-clause-fallen : goal.returns-clause-fallen
returns-clause-fallen g c =
    sinks_on c.args.entries.now c.swap.new.self c.args.place c.in_ok-child.child c.swap.ensures.len c.requires.heap c.in_ok-child.ensures.found
    c.swap.ensures.by_index
