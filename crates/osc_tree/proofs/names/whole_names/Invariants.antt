use Rattle.osc_tree.proofs.Fronts.{IsGoing}
use Rattle.osc_tree.proofs.names.whole_names.Given as goal

abbrev pub invariant-loop-at : goal.invariant-loop-at
invariant-loop-at l = IsGoing l.names l.front.names l.front.bytes l.at
