use Rattle.osc_tree.proofs.Fronts.{IsSharing}
use Rattle.osc_tree.proofs.names.shared_front.Given as goal

abbrev pub invariant-loop-at : goal.invariant-loop-at
invariant-loop-at l = IsSharing l.names l.others l.front.names l.front.bytes l.at
