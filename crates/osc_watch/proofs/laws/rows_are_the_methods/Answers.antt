use Rattle.osc_watch.proofs.MethodsListed.{rows_are_methods, rows_ascend}
use Rattle.osc_watch.proofs.laws.rows_are_the_methods.Goals as goal

pub returns-clause-methods : goal.returns-clause-methods
returns-clause-methods c caps history legal =
    rows_are_methods c.a_server_stays_sound.ensures.opening c.a_server_stays_sound.ensures.step caps history legal

pub returns-clause-ascending : goal.returns-clause-ascending
returns-clause-ascending c caps history legal =
    rows_ascend c.a_server_stays_sound.ensures.opening c.a_server_stays_sound.ensures.step caps history legal
