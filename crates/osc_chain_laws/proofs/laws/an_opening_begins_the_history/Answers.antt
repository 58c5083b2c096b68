use Rattle.osc_chain_laws.proofs.Opened.{hosted_plain, hosted_begins}
use Rattle.osc_chain_laws.proofs.laws.an_opening_begins_the_history.Goals as goal

pub returns-clause-plain : goal.returns-clause-plain
returns-clause-plain g c caps bounds part links clock hosted hosts = hosted_plain _ _ _ _ caps bounds part links clock hosted hosts

pub returns-clause-begins : goal.returns-clause-begins
returns-clause-begins g c caps bounds part links clock hosted hosts = hosted_begins _ _ _ _ caps bounds part links clock hosted hosts
