use Rattle.std.proofs.Common.{All}
use Rattle.osc_edge.specs.Link.{IsShortTurn}
use Rattle.oscstage.proofs.playback.link_for.Given as goal

abbrev pub invariant-loop-bundle : goal.invariant-loop-bundle
invariant-loop-bundle g l = All IsShortTurn l.turns.items
