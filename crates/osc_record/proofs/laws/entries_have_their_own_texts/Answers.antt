use Rattle.osc_record.proofs.Apart.{one_text, no_more}
use Rattle.osc_record.proofs.laws.entries_have_their_own_texts.Goals as goal

pub returns-clause-same : goal.returns-clause-same
returns-clause-same c = one_text

pub returns-clause-no_front : goal.returns-clause-no_front
returns-clause-no_front c = no_more
