use Rattle.osc_uses.proofs.ServedTurns.{clock_stays, clock_set}
use Rattle.osc_uses.proofs.light.set_clock.Goals as goal

pub returns-in_default : goal.returns-in_default
returns-in_default g c = clock_stays c.args.core.now.performance

pub returns-then-due-clock : goal.returns-then-due-clock
returns-then-due-clock g c = clock_stays c.args.core.now.performance

pub returns-in-At : goal.returns-in-At
returns-in-At g c = clock_set c.args.core.now.performance _ c.in-At.moment c.tick.ensures.performance

pub returns-else-due-moment : goal.returns-else-due-moment
returns-else-due-moment g c = clock_stays c.args.core.now.performance

pub returns-else-due-clock : goal.returns-else-due-clock
returns-else-due-clock g c = clock_stays c.args.core.now.performance
