use Rattle.osc_ends.specs.Sinks.{change}
use Rattle.osc_console.specs.Printing.{PrintsRing}
use Rattle.osc_console.proofs.printer.print_ring.Given as goal

abbrev pub invariant-loop : goal.invariant-loop
invariant-loop g l = PrintsRing l.initial.ring l.ring (change g.O.Sink l.initial.out l.out) l.whole
