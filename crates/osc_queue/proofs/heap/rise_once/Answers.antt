use Rattle.std.proofs.Common.{true, arith}
use Rattle.osc_queue.proofs.Shifting.{reads_before, rises_on}
use Rattle.osc_queue.proofs.heap.rise_once.Goals as goal

pub returns-then-rises-clause-risen : goal.returns-then-rises-clause-risen
returns-then-rises-clause-risen g c _ =
    rises_on c.args.entries.now c.swap.new.self c.args.place c.requires.some c.requires.within c.swap.ensures.len c.requires.heap
    (λ d. reads_before c.args.entries.now c.args.place _ c.index-entries-place.result c.index-entries-next.result d _ true c.requires.within
    (let low = c.requires.some in let high = c.requires.within in omega arith) c.index-entries-place.is c.index-entries-next.is c.is_before-rises.ensures.value
    c.if-rises.true)
    c.swap.ensures.by_index
