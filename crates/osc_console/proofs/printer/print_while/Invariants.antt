use Rattle.osc_ends.specs.Sinks.{change}
use Rattle.osc_console.specs.Printing.{Prints}
use Rattle.osc_console.proofs.printer.print_while.Given as goal

abbrev pub invariant-loop : goal.invariant-loop
invariant-loop g l = Prints l.initial.rings l.rings (change g.O.Sink l.initial.out l.out) l.whole
